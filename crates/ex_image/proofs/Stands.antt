-- What stands of a state after the last record that was read.
use Rattle.std.proofs.Common.{◌≡◌, ℕ, Bool, true, false, not, cond, List, [], Some, None, refl}
use Rattle.std.proofs.lemmas.Bool.{false≢true}
use Rattle.ex_store.specs.State.{State, has_directory}
use Rattle.cm_io.specs.declared.status.Kind.TheVariants.{Range, Name, Order, Limit}
use Rattle.ex_image.specs.declared.tag.Tag.{Tag}
use Rattle.ex_image.specs.declared.tag.Tag.TheVariants as tags
use Rattle.ex_image.specs.Reading.{fault_of, has_room, is_above, is_in_range, is_there, may_follow, tag_of, with_entry}
use Rattle.ex_image.specs.Record.{Entry, Head, Directory, Connected, Logical, File, Request, End}

-- a record without a fault
pub record IsFaultless (state : State) (entry : Entry) : Type 0 where
  pub range : is_in_range entry ≡ true
  pub there : is_there state entry ≡ true
  pub above : is_above state entry ≡ true
  pub room : has_room state entry ≡ true

pub faultless_of : (state : State) (entry : Entry) → fault_of state entry ≡ None → IsFaultless state entry
unfolding fault_of
faultless_of state entry none =
    by (is_in_range entry) (is_there state entry) (is_above state entry) (has_room state entry) (λ e. e) (λ e. e)
    (λ e. e) (λ e. e) none
  where
    by : (range there above room : Bool) → (range ≡ true → is_in_range entry ≡ true)
        → (there ≡ true → is_there state entry ≡ true) → (above ≡ true → is_above state entry ≡ true)
        → (room ≡ true → has_room state entry ≡ true)
        → cond (not range) (Some Range) (cond (not there) (Some Name) (cond (not above) (Some Order)
        (cond (not room) (Some Limit) None))) ≡ None
        → IsFaultless state entry
    by true true true true one two three four none =
        record { range = one refl; there = two refl; above = three refl; room = four refl }
    by true true true false one two three four none = absurd (cc)
    by true true false room one two three four none = absurd (cc)
    by true false above room one two three four none = absurd (cc)
    by false there above room one two three four none = absurd (cc)

pub faultless_is : (state : State) (entry : Entry) → IsFaultless state entry → fault_of state entry ≡ None
unfolding fault_of
faultless_is state entry good = rw (good.range, good.there, good.above, good.room) refl

-- the connected directory is there
abbrev pub IsConnected : State → Type 0
IsConnected state = has_directory state.connected state.directories ≡ true

-- the lists that have not begun are empty, and once a directory is connected it is there
abbrev pub Stands : Tag → State → Type 0
Stands tags.Start state = (state.directories ≡ []) × (state.logical ≡ []) × (state.rows ≡ []) × (state.queue ≡ [])
Stands tags.Head state = (state.directories ≡ []) × (state.logical ≡ []) × (state.rows ≡ []) × (state.queue ≡ [])
Stands tags.Directory state = (state.logical ≡ []) × (state.rows ≡ []) × (state.queue ≡ [])
Stands tags.Connected state = (state.logical ≡ []) × (state.rows ≡ []) × (state.queue ≡ []) × IsConnected state
Stands tags.Logical state = (state.rows ≡ []) × (state.queue ≡ []) × IsConnected state
Stands tags.File state = (state.queue ≡ []) × IsConnected state
Stands tags.Request state = IsConnected state
Stands tags.End state = IsConnected state

-- after one record more
pub stands_more : (last : Tag) (state : State) (entry : Entry) (bytes : List ℕ) → Stands last state
    → may_follow last (tag_of entry) ≡ true → is_there state entry ≡ true
    → Stands (tag_of entry) (with_entry state entry bytes)
stands_more tags.Start state (Head version) bytes stands place there = stands
stands_more tags.Head state (Directory name retention) bytes stands place there = (stands.1, stands.2, stands.3)
stands_more tags.Directory state (Directory name retention) bytes stands place there = stands
stands_more tags.Directory state (Connected name) bytes stands place there = (stands.0, stands.1, stands.2, there)
stands_more tags.Connected state (Logical name directory) bytes stands place there = (stands.1, stands.2, stands.3)
stands_more tags.Connected state (File version row size) bytes stands place there = (stands.2, stands.3)
stands_more tags.Connected state (Request entry) bytes stands place there = stands.3
stands_more tags.Connected state End bytes stands place there = stands.3
stands_more tags.Logical state (Logical name directory) bytes stands place there = stands
stands_more tags.Logical state (File version row size) bytes stands place there = (stands.1, stands.2)
stands_more tags.Logical state (Request entry) bytes stands place there = stands.2
stands_more tags.Logical state End bytes stands place there = stands.2
stands_more tags.File state (File version row size) bytes stands place there = stands
stands_more tags.File state (Request entry) bytes stands place there = stands.1
stands_more tags.File state End bytes stands place there = stands.1
stands_more tags.Request state (Request entry) bytes stands place there = stands
stands_more tags.Request state End bytes stands place there = stands
stands_more last state entry bytes stands place there = absurd (false≢true place)

-- where a directory may follow, nothing but directories is there
pub only_directories : (last : Tag) (state : State) → Stands last state → may_follow last tags.Directory ≡ true
    → (state.logical ≡ []) × (state.rows ≡ []) × (state.queue ≡ [])
only_directories tags.Head state stands place = (stands.1, stands.2, stands.3)
only_directories tags.Directory state stands place = stands
only_directories last state stands place = absurd (false≢true place)

-- where a head may follow, nothing is there
pub nothing_there : (last : Tag) (state : State) → Stands last state → may_follow last tags.Head ≡ true
    → state.rows ≡ []
nothing_there tags.Start state stands place = stands.2
nothing_there last state stands place = absurd (false≢true place)
