-- The configuration: its commands make the same interfaces again, and what is shown is those commands as they are typed.
use Rattle.std.proofs.Common.{◌≡◌, ◌≤◌, ◌<◌, ℕ, Bool, true, false, ◌||◌, List, [], ◌∷◌, ◌++◌, length, insert, map, refl, ap, arith, sym, ◌∙◌, append_assoc, length-append, subst}
use Rattle.std.specs.Prelude.{nat_lt}
use Rattle.std.specs.List.{list_all}
use Rattle.std.specs.Ordering.{is_lt}
use Rattle.std.proofs.lemmas.Bool.{and_from, and_parts}
use Rattle.std.proofs.lemmas.Bool.Decides.{nat_tests}
use Rattle.std.proofs.lemmas.List.{append-nil, map-append}
use Rattle.std.proofs.Math.Seq.{set-append_seam}
use Rattle.cm_lists.proofs.Ascents.{all_above, is_sorted, sorted_ascends}
use Rattle.cm_lists.proofs.Elements.{slice_get_at}
use Rattle.cm_lists.proofs.Orders.{lt_is_not_eq}
use Rattle.cm_lists.proofs.Pieces.{cons_is_not_empty}
use Rattle.cm_lists.proofs.Quantifiers.{all_at_split}
use Rattle.cm_files.specs.Catalogue.{by_bytes}
use Rattle.cm_files.specs.OneDirectory.{no_files}
use Rattle.eg_router.specs.Configuration.{address_lines, commands_of, configuration, configuration_of, description_lines, listing, shutdown_commands, shutdown_lines, text_commands, typed}
use Rattle.eg_router.specs.Interfaces.{AreInterfaces, by_name, changed, fresh, has, is_interface_name, place}
use Rattle.eg_router.specs.Router.{configuring, obeyed, obeyed_all}
use Rattle.eg_router.specs.declared.command.Command.{Command}
use Rattle.eg_router.specs.declared.command.Command.TheVariants as commands
use Rattle.eg_router.specs.declared.interface.Change.{Change}
use Rattle.eg_router.specs.declared.interface.Change.TheVariants as changes
use Rattle.eg_router.specs.declared.interface.Interface.{Interface}
use Rattle.eg_router.specs.declared.interfaces.TheConstants.{INTERFACE_LIMIT}
use Rattle.eg_router.specs.declared.router.Mode.TheVariants as modes
use Rattle.eg_router.specs.declared.router.Router.{Router}
use Rattle.eg_router.specs.InterfaceLaws.{by_name_total}

-- commands in turn
both : (first more : List Command) (at : Router) → obeyed_all (first ++ more) at ≡ obeyed_all more (obeyed_all first at)
both [] more at = refl
both (command ∷ first) more at = both first more (obeyed command at)

-- all of these are below a name
abbrev all_below : List ℕ → List Interface → Bool
all_below name front = list_all (λ (it : Interface). is_lt (by_bytes it.name name)) front

-- so none has it
none_has : (name : List ℕ) (front : List Interface) → all_below name front ≡ true → has name front ≡ false
none_has name [] below = refl
none_has name (it ∷ front) below =
    let parts = and_parts _ _ below in
    or_none _ _ (lt_is_not_eq _ parts.0) (none_has name front parts.1)
  where
    or_none : (a b : Bool) → a ≡ false → b ≡ false → (a || b) ≡ false
    or_none false false first second = refl
    or_none true b first second = absurd (cc)
    or_none a true first second = absurd (cc)

-- and its place is after them
last_place : (name : List ℕ) (front : List Interface) → all_below name front ≡ true → place name front ≡ length front
last_place name [] below = refl
last_place name (it ∷ front) below =
    let parts = and_parts _ _ below in
    let here : is_lt (by_bytes it.name name) ≡ true = parts.0 in
    let rest : place name front ≡ length front = last_place name front parts.1 in
    rw here (omega arith)

put_last : (front : List Interface) (new : Interface) → insert front (length front) new ≡ front ++ new ∷ []
put_last [] new = refl
put_last (it ∷ front) new = ap (λ (others : List Interface). it ∷ others) (put_last front new)

-- the mode of the interface after these
abbrev inside : List Interface → Interface → Router
inside front it = record { grammar = tt; names = no_files; interfaces = front ++ it ∷ []; mode = modes.Interface (length front) }

-- a new one is entered after those that are below it
enters : (name : List ℕ) (front : List Interface) → all_below name front ≡ true → is_interface_name name ≡ true
    → length front < INTERFACE_LIMIT → obeyed (commands.Interface name) (configuring front) ≡ inside front (fresh name)
enters name front below is room =
    let none : has name front ≡ false = none_has name front below in
    let fits : nat_lt (length front) INTERFACE_LIMIT ≡ true = grind (arith, nat_tests) in
    let at : place name front ≡ length front = last_place name front below in
    rw (none, is, fits, at, put_last front (fresh name)) refl

-- a change there is of it
changes_it : (front : List Interface) (it : Interface) (change : Change)
    → obeyed (commands.Set change) (inside front it) ≡ inside front (changed change it)
changes_it front it change = rw (slice_get_at it [] front, set-append_seam front it [] (changed change it)) refl

-- what is as in a new interface needs no command
text_set : (front : List Interface) (it : Interface) (change : List ℕ → Change) (text : List ℕ) → changed (change []) it ≡ it
    → obeyed_all (text_commands change text) (inside front it) ≡ inside front (changed (change text) it)
text_set front it change [] is = ap (inside front) (sym is)
text_set front it change (byte ∷ more) is = rw (cons_is_not_empty byte more) (changes_it front it (change (byte ∷ more)))

shutdown_set : (front : List Interface) (it : Interface) (is_down : Bool) → it.is_down ≡ false
    → obeyed_all (shutdown_commands is_down) (inside front it) ≡ inside front (record it { is_down = is_down })
shutdown_set front it true is = changes_it front it (changes.Shutdown true)
shutdown_set front it false is = ap (λ (is_down : Bool). inside front (record it { is_down = is_down })) is

-- the commands of one interface make it after those that are below it
made : (front : List Interface) (it : Interface) → all_below it.name front ≡ true → is_interface_name it.name ≡ true
    → length front < INTERFACE_LIMIT → obeyed_all (commands_of it) (configuring front) ≡ configuring (front ++ it ∷ [])
made front it below is room =
    ap (obeyed_all settings) (enters it.name front below is room)
    ∙ both (text_commands changes.Address it.address) _ _
    ∙ ap (obeyed_all (text_commands changes.Description it.description ++ (shutdown_commands it.is_down ++ commands.Exit ∷ [])))
    (text_set front (fresh it.name) changes.Address it.address refl)
    ∙ both (text_commands changes.Description it.description) _ _
    ∙ ap (obeyed_all (shutdown_commands it.is_down ++ commands.Exit ∷ []))
    (text_set front (record (fresh it.name) { address = it.address }) changes.Description it.description refl)
    ∙ both (shutdown_commands it.is_down) _ _
    ∙ ap (obeyed_all (commands.Exit ∷ []))
    (shutdown_set front (record (fresh it.name) { address = it.address; description = it.description }) it.is_down refl)
  where
    settings : List Command
    settings = text_commands changes.Address it.address ++ (text_commands changes.Description it.description ++ (shutdown_commands it.is_down ++ commands.Exit ∷ []))

-- those before an element of a sorted list are below it
front_below : (front : List Interface) (it : Interface) (rest : List Interface) → is_sorted by_name (front ++ it ∷ rest) ≡ true
    → all_below it.name front ≡ true
front_below [] it rest sorted = refl
front_below (first ∷ front) it rest sorted =
    let parts = and_parts _ _ sorted in
    and_from _ _ (above_here front parts.0) (front_below front it rest parts.1)
  where
    above_here : (front : List Interface) → all_above by_name first (front ++ it ∷ rest) ≡ true → is_lt (by_name first it) ≡ true
    above_here [] above = (and_parts _ _ above).0
    above_here (other ∷ front) above = above_here front (and_parts _ _ above).1

all_made : (front more : List Interface) → length (front ++ more) ≤ INTERFACE_LIMIT
    → list_all (λ (it : Interface). is_interface_name it.name) (front ++ more) ≡ true → is_sorted by_name (front ++ more) ≡ true
    → obeyed_all (listing more) (configuring front) ≡ configuring (front ++ more)
all_made front [] few named sorted = ap configuring (sym (append-nil front))
all_made front (it ∷ more) few named sorted =
    let size = length-append front (it ∷ more) in
    let room : length front < INTERFACE_LIMIT = omega arith in
    let whole : (front ++ it ∷ []) ++ more ≡ front ++ it ∷ more = append_assoc front (it ∷ []) more in
    both (commands_of it) (listing more) (configuring front)
    ∙ ap (obeyed_all (listing more)) (made front it (front_below front it more sorted) (all_at_split (λ (other : Interface). is_interface_name other.name) _ front it more refl named) room)
    ∙ all_made (front ++ it ∷ []) more (subst (λ (xs : List Interface). length xs ≤ INTERFACE_LIMIT) (sym whole) few)
    (ap (list_all (λ (other : Interface). is_interface_name other.name)) whole ∙ named) (ap (is_sorted by_name) whole ∙ sorted)
    ∙ ap configuring whole

pub makes_the_same : (interfaces : List Interface) → AreInterfaces interfaces
    → obeyed_all (listing interfaces) (configuring []) ≡ configuring interfaces
makes_the_same interfaces are =
    all_made [] interfaces are.few are.names (sorted_ascends by_name by_name_total interfaces are.ascend)

-- the lines of several commands, as they are typed
address_typed : (text : List ℕ) → address_lines text ≡ map typed (text_commands changes.Address text)
unfolding address_lines
address_typed [] = refl
address_typed (byte ∷ more) = rw (cons_is_not_empty byte more) refl

description_typed : (text : List ℕ) → description_lines text ≡ map typed (text_commands changes.Description text)
unfolding description_lines
description_typed [] = refl
description_typed (byte ∷ more) = rw (cons_is_not_empty byte more) refl

shutdown_typed : (is_down : Bool) → shutdown_lines is_down ≡ map typed (shutdown_commands is_down)
unfolding shutdown_lines
shutdown_typed true = refl
shutdown_typed false = refl

typed_of : (it : Interface) → configuration_of it ≡ map typed (commands_of it)
unfolding configuration_of
typed_of it =
    let leave : List Command = commands.Exit ∷ [] in
    let shut : List Command = shutdown_commands it.is_down ++ leave in
    let described : List Command = text_commands changes.Description it.description ++ shut in
    let first : map typed (text_commands changes.Address it.address ++ described) ≡ address_lines it.address ++ map typed described =
    map-append typed (text_commands changes.Address it.address) described ∙ ap (λ (lines : List (List ℕ)). lines ++ map typed described) (sym (address_typed it.address)) in
    let second : map typed described ≡ description_lines it.description ++ map typed shut =
    map-append typed (text_commands changes.Description it.description) shut ∙ ap (λ (lines : List (List ℕ)). lines ++ map typed shut) (sym (description_typed it.description)) in
    let third : map typed shut ≡ shutdown_lines it.is_down ++ map typed leave =
    map-append typed (shutdown_commands it.is_down) leave ∙ ap (λ (lines : List (List ℕ)). lines ++ map typed leave) (sym (shutdown_typed it.is_down)) in
    rw (first, second, third) refl

pub is_its_commands : (interfaces : List Interface) → configuration interfaces ≡ map typed (listing interfaces)
unfolding configuration
is_its_commands [] = refl
is_its_commands (it ∷ more) =
    ap (λ (lines : List (List ℕ)). lines ++ configuration more) (typed_of it)
    ∙ ap (λ (lines : List (List ℕ)). map typed (commands_of it) ++ lines) (is_its_commands more)
    ∙ sym (map-append typed (commands_of it) (listing more))
