-- A name that INTERFACE takes in the line may be entered.
use Rattle.std.proofs.Common.{◌≡◌, ◌≤◌, inl, inr, ℕ, nat_le, nat_lt, Bool, true, false, not, cond, ◌||◌, ◌==◌, List, [], ◌∷◌, length, map, refl, ap, arith, sym, subst, ◌∙◌}
use Rattle.std.specs.Char.{to_ascii_lowercase, to_ascii_uppercase}
use Rattle.std.specs.List.{list_all}
use Rattle.std.specs.Ordering.{is_eq}
use Rattle.std.proofs.lemmas.Bool.{and_from, and_parts}
use Rattle.std.proofs.lemmas.Bool.Decides.{nat_tests}
use Rattle.std.proofs.lemmas.Cmp.{nat_list_cmp_total}
use Rattle.std.proofs.lemmas.List.{length-map, take_all}
use Rattle.std.proofs.lemmas.Slice.Eq.{bytes_eq-Decides}
use Rattle.cm_lists.proofs.Ascii.{up-lowercase}
use Rattle.cm_lists.proofs.Bools.{or_from_either}
use Rattle.cm_lists.proofs.Orders.{is_eq_from_reverse}
use Rattle.cm_lists.proofs.Quantifiers.{all_map}
use Rattle.cm_text.specs.Bytes.{is_word}
use Rattle.cm_text.specs.Case.{equals}
use Rattle.cm_text.specs.declared.name.TheConstants.{NAME_LIMIT}
use Rattle.cm_files.specs.Catalogue.{by_bytes}
use Rattle.cm_hooks.specs.Meanings.{IsYes}
use Rattle.cm_hooks.specs.declared.answer.Answer.TheVariants.{Yes}
use Rattle.eg_router.specs.Command.{upper}
use Rattle.eg_router.specs.Interfaces.{AreInterfaces, begins_name, has, is_capital, is_interface_name, is_typed_byte, is_typed_name, may_enter}
use Rattle.eg_router.specs.InterfaceLaws.{typed_parts}
use Rattle.eg_router.specs.Rules.{new_name_verdict, no_name, no_room, stands}
use Rattle.eg_router.specs.declared.interface.Interface.{Interface}
use Rattle.eg_router.specs.declared.interfaces.TheConstants.{INTERFACE_LIMIT}
use Rattle.eg_router.proofs.Fields.{same_bytes}

-- a text that is a name without case is it in upper case
same_upper : (name atom : List ℕ) → is_interface_name name ≡ true → equals name atom ≡ true → name ≡ upper atom
unfolding equals
same_upper name atom is same =
    let lower : map to_ascii_lowercase name ≡ map to_ascii_lowercase atom = (bytes_eq-Decides _ _).0 same in
    let parts = and_parts (is_typed_name name) (list_all is_capital name) is in
    let (begins, most, bytes) = typed_parts name parts.0 in
    let sizes = ap length lower in
    let first = length-map name to_ascii_lowercase in
    let second = length-map atom to_ascii_lowercase in
    let fits : length atom ≤ NAME_LIMIT = omega (arith, sizes, first, second, most) in
    sym (same_bytes name parts.1) ∙ sym (up-lowercase name) ∙ ap (map to_ascii_uppercase) lower ∙ up-lowercase atom
    ∙ ap (map to_ascii_uppercase) (sym (take_all NAME_LIMIT atom fits))

-- so one of this name is there
stands_has : (interfaces : List Interface) (atom : List ℕ)
    → list_all (λ (it : Interface). is_interface_name it.name) interfaces ≡ true → stands atom interfaces ≡ true
    → has (upper atom) interfaces ≡ true
stands_has [] atom named is = absurd (cc)
stands_has (it ∷ more) atom named is =
    by (equals it.name atom) (stands_has more atom (and_parts _ _ named).1) refl is
  where
    parts : (is_interface_name it.name ≡ true) × (list_all (λ (it : Interface). is_interface_name it.name) more ≡ true)
    parts = and_parts _ _ named

    by : (b : Bool) → (stands atom more ≡ true → has (upper atom) more ≡ true) → equals it.name atom ≡ b
        → (b || stands atom more) ≡ true → has (upper atom) (it ∷ more) ≡ true
    by true rest same is =
        or_from_either _ _ (inl (subst (λ (name : List ℕ). is_eq (by_bytes it.name name) ≡ true) (same_upper it.name atom parts.0 same)
        (is_eq_from_reverse (by_bytes it.name it.name) (nat_list_cmp_total.antisymm it.name it.name))))
    by false rest same is = or_from_either _ _ (inr (rest is))

-- what is typed for a name is one in upper case
typed_byte : (byte : ℕ) → is_typed_byte byte ≡ true → is_typed_byte (to_ascii_uppercase byte) ≡ true
unfolding is_word
typed_byte byte is = grind (arith, nat_tests)

capital : (text : List ℕ) → list_all is_capital (map to_ascii_uppercase text) ≡ true
capital [] = refl
capital (byte ∷ more) = and_from (is_capital (to_ascii_uppercase byte)) _ (grind (arith, nat_tests)) (capital more)

begins_upper : (text : List ℕ) → begins_name text ≡ true → begins_name (map to_ascii_uppercase text) ≡ true
begins_upper [] is = is
begins_upper (byte ∷ more) is = no_point byte is
  where
    no_point : (byte : ℕ) → not (byte == 46) ≡ true → not (to_ascii_uppercase byte == 46) ≡ true
    no_point byte is = grind (arith, nat_tests)

typed_named : (atom : List ℕ) → is_typed_name atom ≡ true → is_interface_name (upper atom) ≡ true
typed_named atom is =
    let (begins, short, bytes) = typed_parts atom is in
    let size = length-map atom to_ascii_uppercase in
    let fits : nat_le (length (map to_ascii_uppercase atom)) NAME_LIMIT ≡ true = grind (arith, nat_tests) in
    rw (take_all NAME_LIMIT atom short)
    (and_from _ _ (and_from _ _ (and_from _ _ (begins_upper atom begins) fits)
    (all_map is_typed_byte is_typed_byte to_ascii_uppercase typed_byte atom bytes)) (capital atom))

pub may_be_entered : (interfaces : List Interface) → AreInterfaces interfaces → (atom : List ℕ)
    → IsYes (new_name_verdict atom interfaces) → may_enter (upper atom) interfaces ≡ true
unfolding no_name no_room
may_be_entered interfaces are atom = by (stands atom interfaces) (is_typed_name atom) (nat_le INTERFACE_LIMIT (length interfaces)) refl refl refl
  where
    by : (old typed full : Bool) → stands atom interfaces ≡ old → is_typed_name atom ≡ typed
        → nat_le INTERFACE_LIMIT (length interfaces) ≡ full
        → IsYes (cond old (Yes 0) (cond (not typed) no_name (cond full no_room (Yes 0))))
        → may_enter (upper atom) interfaces ≡ true
    by true typed full is named room taken = or_from_either _ _ (inl (stands_has interfaces atom are.names is))
    by false false full is named room taken = absurd taken
    by false true true is named room taken = absurd taken
    by false true false is named room taken =
        let fits : nat_lt (length interfaces) INTERFACE_LIMIT ≡ true = grind (arith, nat_tests) in
        or_from_either _ _ (inr (and_from _ _ (typed_named atom named) fits))
