-- What is done to the interfaces leaves interfaces.
use Rattle.std.proofs.Common.{◌≡◌, ◌<◌, ◌≤◌, ℕ, Bool, true, false, not, if◌then◌else◌, List, [], ◌∷◌, length, ◌&&◌, nat_le, filter, get_or, insert, set, refl, ap, arith, sym, ◌∙◌}
use Rattle.std.specs.Prelude.{Option, None, Some, slice_get, slice_set}
use Rattle.std.specs.Cmp.{IsTotalOrder}
use Rattle.std.specs.List.{list_all, refill, remove}
use Rattle.std.specs.Option.{option_map_or}
use Rattle.std.specs.Ordering.{is_eq}
use Rattle.std.proofs.lemmas.Bool.{and_parts}
use Rattle.std.proofs.lemmas.Bool.Decides.{nat_tests}
use Rattle.std.proofs.lemmas.Cmp.{nat_list_cmp_total}
use Rattle.std.proofs.lemmas.List.{append-nil, drop_all, length-set, take_all}
use Rattle.std.proofs.lemmas.List.Folds.{list_all-map}
use Rattle.std.proofs.lemmas.Option.{get_or_from_slice_get, slice_get_read}
use Rattle.std.proofs.Math.Seq.{map-set_same}
use Rattle.cm_lists.proofs.Ascents.{ascends_filter, ascends_map, sorted_ascends}
use Rattle.cm_lists.proofs.Bools.{second_of_or}
use Rattle.cm_lists.proofs.Insertions.{found_within, inserted_all, inserted_ascends, inserted_length, inserted_there, none_removed, removed_there}
use Rattle.cm_lists.proofs.Quantifiers.{all_filter}
use Rattle.cm_lists.specs.Ascent.{ascends}
use Rattle.cm_text.specs.declared.name.TheConstants.{NAME_LIMIT}
use Rattle.cm_files.specs.Catalogue.{by_bytes}
use Rattle.eg_router.specs.Interfaces.{AreInterfaces, begins_name, by_name, changed, fresh, has, is_interface_name, is_typed_byte, is_typed_name, may_enter, names_of, place, with_change, without_name}
use Rattle.eg_router.specs.declared.interface.Change.{Change}
use Rattle.eg_router.specs.declared.interface.Change.TheVariants.{Address, Description, Shutdown}
use Rattle.eg_router.specs.declared.interface.Interface.{Interface}
use Rattle.eg_router.specs.declared.interfaces.TheConstants.{INTERFACE_LIMIT}

-- what a name is, fact by fact
pub typed_parts : (text : List ℕ) → is_typed_name text ≡ true
    → (begins_name text ≡ true) × (length text ≤ NAME_LIMIT) × (list_all is_typed_byte text ≡ true)
typed_parts text is =
    let parts = and_parts (begins_name text && nat_le (length text) NAME_LIMIT) (list_all is_typed_byte text) is in
    let size = and_parts (begins_name text) (nat_le (length text) NAME_LIMIT) parts.0 in
    let fits = size.1 in
    (size.0, grind (arith, nat_tests), parts.1)

-- names are ordered by their bytes
pub by_name_total : IsTotalOrder by_name
by_name_total = record {
  antisymm = λ x y. nat_list_cmp_total.antisymm x.name y.name;
  trans = λ x y z. nat_list_cmp_total.trans x.name y.name z.name;
  congr = λ x y z. nat_list_cmp_total.congr x.name y.name z.name;
}

-- a new one has a name, and there is room for it
pub new_may : (name : List ℕ) (interfaces : List Interface) → may_enter name interfaces ≡ true
    → has name interfaces ≡ false
    → (is_interface_name name ≡ true) × (length interfaces < INTERFACE_LIMIT)
new_may name interfaces may none =
    let parts = and_parts _ _ (second_of_or _ _ none may) in
    let room = parts.1 in
    (parts.0, grind (arith, nat_tests))

-- it is put at its place
pub made_are : (name : List ℕ) (interfaces : List Interface) → AreInterfaces interfaces
    → may_enter name interfaces ≡ true
    → has name interfaces ≡ false → AreInterfaces (insert interfaces (place name interfaces) (fresh name))
made_are name interfaces are may none =
    let new = new_may name interfaces may none in
    let size = inserted_length by_name (fresh name) interfaces in
    let room = new.1 in
    rw (inserted_there by_name (fresh name) interfaces)
    (record {
      few = omega arith;
      names =
          inserted_all by_name (λ (it : Interface). is_interface_name it.name) (fresh name) interfaces new.0 are.names;
      ascend = inserted_ascends by_name by_name_total (fresh name) interfaces are.ascend none;
    })

-- one that is there is at its place
pub there_within : (name : List ℕ) (interfaces : List Interface) → has name interfaces ≡ true
    → place name interfaces < length interfaces
there_within name interfaces some = found_within by_name (fresh name) interfaces some

pub removed_is : (name : List ℕ) (interfaces : List Interface) → AreInterfaces interfaces → has name interfaces ≡ true
    → remove interfaces (place name interfaces) ≡ without_name name interfaces
removed_is name interfaces are some =
    removed_there by_name by_name_total (fresh name) interfaces
    (sorted_ascends by_name by_name_total interfaces are.ascend) some

pub absent_is : (name : List ℕ) (interfaces : List Interface) → has name interfaces ≡ false
    → interfaces ≡ without_name name interfaces
absent_is name interfaces none = sym (none_removed (λ (it : Interface). is_eq (by_bytes it.name name)) interfaces none)

filter_le : (keep : Interface → Bool) (interfaces : List Interface)
    → length (filter keep interfaces) ≤ length interfaces
filter_le keep [] = omega arith
filter_le keep (it ∷ more) = by (keep it) (filter_le keep more)
  where
    by : (kept : Bool) → length (filter keep more) ≤ length more
        → length (if kept then it ∷ filter keep more else filter keep more) ≤ length (it ∷ more)
    by true rest = omega arith
    by false rest = omega arith

pub without_are : (name : List ℕ) (interfaces : List Interface) → AreInterfaces interfaces
    → AreInterfaces (without_name name interfaces)
without_are name interfaces are =
    let keep : Interface → Bool = λ it. not (is_eq (by_bytes it.name name)) in
    let most = filter_le keep interfaces in
    let few = are.few in
    record {
      few = omega arith;
      names = all_filter (λ (it : Interface). is_interface_name it.name) keep interfaces are.names;
      ascend = ascends_filter by_name by_name_total keep interfaces are.ascend;
    }

-- a change leaves the name
same_name : (change : Change) (it : Interface) → (changed change it).name ≡ it.name
same_name (Address text) it = refl
same_name (Description text) it = refl
same_name (Shutdown is_down) it = refl

-- what is written through a loan of the whole is the whole, with one changed at its place
pub refilled : (interfaces lent : List Interface) (at : ℕ) (change : Change) (it new : Interface) → lent ≡ interfaces
    → at < length interfaces → it ≡ get_or lent at it → new ≡ changed change (get_or lent at it)
    → refill (length interfaces) interfaces (set lent at new) ≡ with_change at change interfaces
refilled interfaces lent at change it new same within here is =
    let size = length-set lent at new in
    let lengths : length (set lent at new) ≡ length interfaces = size ∙ ap length same in
    let there : it ≡ get_or interfaces at it = here ∙ ap (λ (xs : List Interface). get_or xs at it) same in
    let put : set interfaces at (changed change it) ≡ with_change at change interfaces =
    rw (slice_get_read interfaces (length interfaces) at it refl within there) refl in
    whole (set lent at new) lengths
    ∙ ap (λ (other : Interface). set lent at other) (is ∙ ap (changed change) (sym here))
    ∙ ap (λ (xs : List Interface). set xs at (changed change it)) same ∙ put
  where
    whole : (written : List Interface) → length written ≡ length interfaces
        → refill (length interfaces) interfaces written ≡ written
    whole written size =
        rw (drop_all (length written) interfaces (omega arith), append-nil written)
        (take_all (length interfaces) written (omega arith))

set_are : (at : ℕ) (change : Change) (interfaces : List Interface) (it : Interface) → AreInterfaces interfaces
    → slice_get interfaces at ≡ Some it → AreInterfaces (slice_set interfaces at (changed change it))
set_are at change interfaces it are is =
    let new : Interface = changed change it in
    let old : get_or interfaces at it ≡ it = get_or_from_slice_get interfaces at it it is in
    let named : new.name ≡ (get_or interfaces at it).name =
    same_name change it ∙ ap (λ (other : Interface). other.name) (sym old) in
    let same : names_of (set interfaces at new) ≡ names_of interfaces =
    map-set_same (λ (other : Interface). other.name) interfaces at new it named in
    let size = length-set interfaces at new in
    let few = are.few in
    record {
      few = omega arith;
      names = sym (list_all-map is_interface_name (λ (other : Interface). other.name) (set interfaces at new))
          ∙ ap (list_all is_interface_name) same
          ∙ list_all-map is_interface_name (λ (other : Interface). other.name) interfaces ∙ are.names;
      ascend =
          sym (ascend_names (set interfaces at new)) ∙ ap (ascends by_bytes) same
          ∙ ascend_names interfaces ∙ are.ascend;
    }
  where
    ascend_names : (xs : List Interface) → ascends by_bytes (names_of xs) ≡ ascends by_name xs
    ascend_names = ascends_map by_bytes by_name (λ (other : Interface). other.name) (λ x y. refl)

pub change_are : (at : ℕ) (change : Change) (interfaces : List Interface) → AreInterfaces interfaces
    → AreInterfaces (with_change at change interfaces)
change_are at change interfaces are = by (slice_get interfaces at) refl
  where
    by : (got : Option Interface) → slice_get interfaces at ≡ got
        → AreInterfaces (option_map_or (λ (it : Interface). slice_set interfaces at (changed change it)) got interfaces)
    by None is = are
    by (Some it) is = set_are at change interfaces it are is
