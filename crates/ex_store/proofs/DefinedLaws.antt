-- A logical name is defined: what is well formed stays so, and the outcome of the plan.
use Rattle.std.proofs.Common.{◌≡◌, ℕ, ◌<◌, ◌≤◌, nat_le, Bool, true, false, not, cond, ◌&&◌, List, [], ◌∷◌, length, map, codes, Ok, Err, refl, ap, sym, subst, ◌∙◌, arith}
use Rattle.std.specs.Char.{is_ascii_lowercase, to_ascii_lowercase, to_ascii_uppercase}
use Rattle.std.specs.Cmp.{Equal-is, IsTotalOrder}
use Rattle.std.specs.Cmp.Lexicographic.{on_texts}
use Rattle.std.specs.List.{list_all, list_any}
use Rattle.std.specs.Ordering.{is_eq}
use Rattle.std.specs.Str.{IsAscii}
use Rattle.std.proofs.lemmas.Bool.{and_from, and_parts, both_ways, leb-false, or_parts}
use Rattle.std.proofs.lemmas.Bool.Decides.{nat_tests}
use Rattle.std.proofs.lemmas.List.{append-nil, length-map}
use Rattle.std.proofs.lemmas.Map.Lookups.{exact_bytes}
use Rattle.std.proofs.lemmas.Slice.Eq.{bytes_eq-Decides}
use Rattle.cm_lists.proofs.Ascii.{lowercase-up, up, uppercase_alphabetic}
use Rattle.cm_fields.specs.declared.code.Code.{Code}
use Rattle.cm_fields.specs.declared.code.Code.TheVariants.{LogicalLimit}
use Rattle.cm_text.specs.Bytes.{is_name, is_word}
use Rattle.cm_text.specs.Case.{equals}
use Rattle.cm_text.specs.declared.name.TheConstants.{NAME_LIMIT}
use Rattle.cm_text.proofs.Ascii.{name_bytes_are_ascii}
use Rattle.cm_lists.specs.Ascent.{ascends, insertion}
use Rattle.cm_files.specs.Catalogue.{by_bytes, is_upper_name}
use Rattle.cm_files.specs.LogicalName.{begins_with_letter, is_logical_name}
use Rattle.ex_store.specs.declared.directory.Definition.{Definition}
use Rattle.ex_store.specs.declared.directory.Directory.{Directory}
use Rattle.ex_store.specs.declared.limits.TheConstants.{LOGICAL_LIMIT}
use Rattle.ex_store.specs.declared.plan.Plan.TheVariants as plans
use Rattle.ex_store.specs.declared.queue.QueueEntry.{QueueEntry}
use Rattle.ex_store.specs.Defining.{by_definition, definition_of, redirection, with_definition}
use Rattle.ex_store.specs.Entries.{is_kept, is_kept_name}
use Rattle.ex_store.specs.Plan.{planned}
use Rattle.ex_store.specs.Ready.{Change, applied, done_on, of_definition}
use Rattle.ex_store.specs.State.{State, has_definition, has_directory}
use Rattle.ex_store.specs.WellFormed.{IsWellFormed, is_definition_among}
use Rattle.cm_lists.proofs.Ascents.{ascends_map}
use Rattle.cm_lists.proofs.Insertions.{inserted_all, inserted_ascends, inserted_length}

-- the parts of what a logical name is
record IsLogical (name : List ℕ) : Type 0 where
  short : nat_le (length name) NAME_LIMIT ≡ true
  begins : begins_with_letter name ≡ true
  names : list_all is_name name ≡ true
  no_ps : not (equals name (codes "PS")) ≡ true
  no_dsk : not (equals name (codes "DSK")) ≡ true
  no_tty : not (equals name (codes "TTY")) ≡ true

logical_parts : (name : List ℕ) → is_logical_name name ≡ true → IsLogical name
unfolding is_logical_name
logical_parts name is =
    let tty = and_parts _ _ is in
    let dsk = and_parts _ _ tty.0 in
    let ps = and_parts _ _ dsk.0 in
    let names = and_parts _ _ ps.0 in
    let begins = and_parts _ _ names.0 in
    record {
      short = begins.0;
      begins = begins.1;
      names = names.1;
      no_ps = ps.1;
      no_dsk = dsk.1;
      no_tty = tty.1;
    }

logical_from : (name : List ℕ) → IsLogical name → is_logical_name name ≡ true
unfolding is_logical_name
logical_from name is =
    and_from _ _ (and_from _ _ (and_from _ _ (and_from _ _ (and_from _ _ is.short is.begins) is.names) is.no_ps) is.no_dsk) is.no_tty

pub logical_is_ascii : (name : List ℕ) → is_logical_name name ≡ true → IsAscii name
logical_is_ascii name logical = name_bytes_are_ascii name (logical_parts name logical).names

-- a text in upper case is equal to what the text is equal to
pub up_equals : (text other : List ℕ) → equals (up text) other ≡ equals text other
unfolding equals
up_equals text other = rw (lowercase-up text) refl

equals_up : (text other : List ℕ) → equals text (up other) ≡ equals text other
unfolding equals
equals_up text other = rw (lowercase-up other) refl

equals_itself : (text : List ℕ) → equals text text ≡ true
unfolding equals
equals_itself text = (bytes_eq-Decides (map to_ascii_lowercase text) (map to_ascii_lowercase text)).1 refl

-- a logical name in upper case is one
pub upper_byte : (byte : ℕ) → is_name byte ≡ true
    → (is_name (to_ascii_uppercase byte) && not (is_ascii_lowercase (to_ascii_uppercase byte))) ≡ true
unfolding is_name is_word
upper_byte byte is = grind (arith, nat_tests)

pub upper_name : (text : List ℕ) → list_all is_name text ≡ true → is_upper_name (up text) ≡ true
upper_name [] all = refl
upper_name (byte ∷ text) all =
    let both = and_parts (is_name byte) (list_all is_name text) all in
    and_from _ _ (upper_byte byte both.0) (upper_name text both.1)

upper_names : (text : List ℕ) → list_all is_name text ≡ true → list_all is_name (up text) ≡ true
upper_names [] all = refl
upper_names (byte ∷ text) all =
    let both = and_parts (is_name byte) (list_all is_name text) all in
    and_from _ _ (and_parts _ _ (upper_byte byte both.0)).0 (upper_names text both.1)

upper_begins : (text : List ℕ) → begins_with_letter text ≡ true → begins_with_letter (up text) ≡ true
upper_begins [] begins = absurd (cc)
upper_begins (byte ∷ text) begins = uppercase_alphabetic byte begins

upper_logical : (name : List ℕ) → is_logical_name name ≡ true → is_logical_name (up name) ≡ true
upper_logical name logical =
    let is = logical_parts name logical in
    logical_from (up name) (record {
      short = rw (length-map name to_ascii_uppercase) is.short;
      begins = upper_begins name is.begins;
      names = upper_names name is.names;
      no_ps = rw (up_equals name (codes "PS")) is.no_ps;
      no_dsk = rw (up_equals name (codes "DSK")) is.no_dsk;
      no_tty = rw (up_equals name (codes "TTY")) is.no_tty;
    })

-- the name stays where a logical name stands for another directory
pub redirected_name : (new entry : Definition) → (redirection new entry).name ≡ entry.name
redirected_name new entry = by (equals entry.name new.name)
  where
    by : (same : Bool) → (cond same (record entry { directory = new.directory }) entry).name ≡ entry.name
    by true = refl
    by false = refl

redirected_order : (new entry other : Definition)
    → by_definition (redirection new entry) (redirection new other) ≡ by_definition entry other
redirected_order new entry other =
    ap (λ (text : List ℕ). by_bytes text (redirection new other).name) (redirected_name new entry)
    ∙ ap (by_bytes entry.name) (redirected_name new other)

redirected_all : (directories : List Directory) (new : Definition) (logical : List Definition)
    → has_directory new.directory directories ≡ true → list_all (is_definition_among directories) logical ≡ true
    → list_all (is_definition_among directories) (map (redirection new) logical) ≡ true
redirected_all directories new [] there all = refl
redirected_all directories new (entry ∷ more) there all =
    let parts = and_parts _ _ all in
    and_from _ _ (by (equals entry.name new.name) parts.0) (redirected_all directories new more there parts.1)
  where
    by : (same : Bool) → is_definition_among directories entry ≡ true
        → is_definition_among directories (cond same (record entry { directory = new.directory }) entry) ≡ true
    by true is =
        let forms = and_parts _ _ is in
        and_from _ _ (and_from _ _ there (and_parts _ _ forms.0).1) forms.1
    by false is = is

-- a logical name that is not there differs from all in its bytes, too
apart : (new : Definition) (logical : List Definition) → has_definition new.name logical ≡ false
    → list_any (λ other. is_eq (by_definition other new)) logical ≡ false
apart new [] absent = refl
apart new (entry ∷ more) absent =
    let parts = or_parts _ _ absent in
    rw (differs (is_eq (by_definition entry new)) refl parts.0) (apart new more parts.1)
  where
    differs : (same : Bool) → is_eq (by_definition entry new) ≡ same → equals entry.name new.name ≡ false
        → is_eq (by_definition entry new) ≡ false
    differs true is other =
        let same = exact_bytes entry.name new.name ((Equal-is (by_bytes entry.name new.name)).0 is) in
        absurd (both_ways _ other (ap (λ (text : List ℕ). equals text new.name) same ∙ equals_itself new.name))
    differs false is other = is

has_up : (name : List ℕ) (logical : List Definition) → has_definition (up name) logical ≡ has_definition name logical
has_up name [] = refl
has_up name (entry ∷ more) = rw (equals_up entry.name name, has_up name more) refl

-- what a list of logical names has to be
record AreDefinitions (directories : List Directory) (logical : List Definition) : Type 0 where
  ascend : ascends by_definition logical ≡ true
  within : list_all (is_definition_among directories) logical ≡ true
  few : length logical ≤ LOGICAL_LIMIT

by_definition_total : IsTotalOrder by_definition
by_definition_total = on_texts (λ (entry : Definition). entry.name)

with_more : (directories : List Directory) (made : Definition) (logical : List Definition)
    → AreDefinitions directories logical → is_definition_among directories made ≡ true
    → (has_definition made.name logical ≡ false → length logical < LOGICAL_LIMIT)
    → AreDefinitions directories (with_definition made logical)
with_more directories made logical are is room = by (has_definition made.name logical) refl
  where
    by : (there : Bool) → has_definition made.name logical ≡ there
        → AreDefinitions directories (cond there (map (redirection made) logical) (insertion by_definition made logical))
    by true known = record {
      ascend = ascends_map by_definition by_definition (redirection made) (redirected_order made) logical ∙ are.ascend;
      within = redirected_all directories made logical (and_parts _ _ (and_parts _ _ is).0).0 are.within;
      few = omega (arith, length-map logical (redirection made), are.few);
    }
    by false absent = record {
      ascend = inserted_ascends by_definition by_definition_total made logical are.ascend (apart made logical absent);
      within = inserted_all by_definition (is_definition_among directories) made logical is are.within;
      few = omega (arith, inserted_length by_definition made logical, room absent);
    }

-- what is defined, and that there is room for it
record IsDefined (name directory : List ℕ) (logical : List Definition) (made : Definition) : Type 0 where
  is : record { name = up name; directory = directory } ≡ made
  room : has_definition name logical ≡ false → length logical < LOGICAL_LIMIT

defined_parts : (name directory : List ℕ) (logical : List Definition) (made : Definition)
    → definition_of name directory logical ≡ Ok made → IsDefined name directory logical made
defined_parts name directory logical made is =
    by (has_definition name logical) (nat_le LOGICAL_LIMIT (length logical)) refl refl is
  where
    by : (there full : Bool) → has_definition name logical ≡ there → nat_le LOGICAL_LIMIT (length logical) ≡ full
        → cond (not there && full) (Err LogicalLimit) (Ok (record { name = up name; directory = directory })) ≡ Ok made
        → IsDefined name directory logical made
    by true full known limit is = record { is = cc; room = λ absent. absurd (both_ways _ absent known) }
    by false true known limit is = absurd (cc)
    by false false known limit is = record { is = cc; room = λ absent. leb-false LOGICAL_LIMIT (length logical) limit }

-- it is in upper case
pub defined_kept : (name directory : List ℕ) (logical : List Definition) (made : Definition) → is_logical_name name ≡ true
    → definition_of name directory logical ≡ Ok made → is_kept made ≡ true
defined_kept name directory logical made named is =
    let parts = logical_parts name named in
    let kept : is_kept_name (up name) ≡ true =
    and_from _ _ (rw (length-map name to_ascii_uppercase) parts.short) (upper_name name parts.names) in
    ap is_kept (sym (defined_parts name directory logical made is).is) ∙ kept

well_formed_with_logical : (state : State) (logical : List Definition) → IsWellFormed state
    → AreDefinitions state.directories logical → IsWellFormed (record state { logical = logical })
well_formed_with_logical state logical well are = record {
  draft = record {
    directories_ascend = well.draft.directories_ascend;
    directories_within = well.draft.directories_within;
    few_directories = well.draft.few_directories;
    logical_ascend = are.ascend;
    logical_within = are.within;
    few_logical = are.few;
    rows = well.draft.rows;
    queue_within = well.draft.queue_within;
    few_entries = well.draft.few_entries;
  };
  connected_there = well.connected_there;
}

-- the state with a logical name that is defined is well formed
pub well_formed_defined : (state : State) (name directory : List ℕ) (made : Definition) → IsWellFormed state
    → is_logical_name name ≡ true → has_directory directory state.directories ≡ true
    → definition_of name directory state.logical ≡ Ok made
    → IsWellFormed (record state { logical = with_definition made state.logical })
well_formed_defined state name directory made well named there is =
    let parts = defined_parts name directory state.logical made is in
    let are : AreDefinitions state.directories state.logical = record { ascend = well.draft.logical_ascend; within = well.draft.logical_within; few = well.draft.few_logical } in
    let form : is_definition_among state.directories (record { name = up name; directory = directory }) ≡ true =
    and_from _ _ (and_from _ _ there (upper_logical name named)) (upper_name name (logical_parts name named).names) in
    subst (λ (made : Definition). IsWellFormed (record state { logical = with_definition made state.logical })) parts.is
    (well_formed_with_logical state _ well
    (with_more state.directories (record { name = up name; directory = directory }) state.logical are form
    (λ absent. parts.room (sym (has_up name state.logical) ∙ absent))))

-- what is done where a logical name alone is defined
defines : (state : State) (made : Definition)
    → applied (of_definition made) state ≡ record state { logical = with_definition made state.logical }
defines state made =
    ap (λ (queue : List QueueEntry). record state { logical = with_definition made state.logical; queue = queue })
    (append-nil state.queue)

pub planned_defined : (state : State) (name directory : List ℕ) (made : Definition) (change : Change) (moment : ℕ)
    → definition_of name directory state.logical ≡ Ok made → change ≡ of_definition made
    → planned (plans.Define name directory) moment state ≡ Ok (done_on state change)
unfolding planned
planned_defined state name directory made change moment is only =
    rw (is, only) (ap (λ (state : State). Ok (record { state = state; pairs = [] })) (sym (defines state made)))

pub planned_refused : (state : State) (name directory : List ℕ) (code : Code) (moment : ℕ)
    → definition_of name directory state.logical ≡ Err code → planned (plans.Define name directory) moment state ≡ Err code
unfolding planned
planned_refused state name directory code moment is = rw is refl

pub sound_defined : (state : State) (name directory : List ℕ) (made : Definition) (change : Change) → IsWellFormed state
    → is_logical_name name ≡ true → has_directory directory state.directories ≡ true
    → definition_of name directory state.logical ≡ Ok made → change ≡ of_definition made
    → IsWellFormed (applied change state)
sound_defined state name directory made change well named there is only =
    subst (λ (next : State). IsWellFormed next)
    (sym (ap (λ (each : Change). applied each state) only ∙ defines state made))
    (well_formed_defined state name directory made well named there is)
