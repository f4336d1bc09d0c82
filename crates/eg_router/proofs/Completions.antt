-- What completes the name of an interface is taken.
use Rattle.std.proofs.Common.{◌≡◌, inr, ℕ, zero, suc, ◌<◌, ◌≤◌, ◌==◌, nat_le, Bool, true, false, cond, if◌then◌else◌, ◌||◌, List, [], ◌∷◌, None, Some, length, slice_get, refl, arith}
use Rattle.std.specs.Char.{is_ascii_digit}
use Rattle.std.specs.List.{list_all}
use Rattle.std.proofs.lemmas.Bool.{and_from, and_parts}
use Rattle.cm_lists.proofs.Bools.{or_from_either, second_of_or}
use Rattle.cm_lists.proofs.Quantifiers.{all_map, all_weaker}
use Rattle.cm_text.specs.Bytes.{is_name, is_word}
use Rattle.cm_text.specs.Case.{equals}
use Rattle.cm_text.specs.declared.name.TheConstants.{NAME_LIMIT}
use Rattle.cm_hooks.specs.Among.{are_names, completion_among, goes_on, has_name, is_name_text, rests, under, verdict_among}
use Rattle.cm_hooks.specs.AmongLaws.{among_completes, one_whole, text_past}
use Rattle.cm_hooks.specs.Meanings.{Completes, IsLawful, IsYes}
use Rattle.cm_hooks.specs.declared.answer.Answer.{Answer}
use Rattle.cm_hooks.specs.declared.answer.Tail.TheVariants as tails
use Rattle.eg_router.specs.Interfaces.{AreInterfaces, begins_name, is_interface_name, is_typed_byte, is_typed_name, name_at, names_of}
use Rattle.eg_router.specs.Rules.{address_verdict, completed, completed_names, name_verdict, new_name_verdict, router_rules, stands}
use Rattle.eg_router.specs.declared.interface.Interface.{Interface}
use Rattle.eg_router.specs.declared.rules.TheConstants.{IPV4, NAME}

-- a name is completed by name bytes
completed_text : (name : List ℕ) → is_interface_name name ≡ true → is_name_text (completed name) ≡ true
unfolding is_name
completed_text name is = by (list_all is_word name) refl
  where
    word_name : (byte : ℕ) → is_word byte ≡ true → (is_word byte || byte == 36 || byte == 95) ≡ true
    word_name byte is = rw is refl

    short : nat_le (length name) NAME_LIMIT ≡ true
    short = (and_parts (begins_name name) _ (and_parts _ (list_all is_typed_byte name) (and_parts (is_typed_name name) _ is).0).0).1

    by : (plain : Bool) → list_all is_word name ≡ plain → is_name_text (if plain then name else []) ≡ true
    by true all = and_from _ _ (all_weaker is_word is_name word_name name all) short
    by false all = refl

-- so they may complete an atom
pub are_texts : (interfaces : List Interface) → AreInterfaces interfaces → are_names (completed_names interfaces) ≡ true
are_texts interfaces are =
    all_map (λ (it : Interface). is_interface_name it.name) is_name_text (λ (it : Interface). completed it.name)
    (λ it is. completed_text it.name is) interfaces are.names

-- an interface stands where it is completed to an atom that is not empty
name_stands : (interfaces : List Interface) (byte : ℕ) (more : List ℕ)
    → has_name (completed_names interfaces) (byte ∷ more) ≡ true → stands (byte ∷ more) interfaces ≡ true
unfolding equals
name_stands [] byte more is = is
name_stands (it ∷ others) byte more is = by (list_all is_word it.name) (name_stands others byte more) is
  where
    weaker : (a b c : Bool) → (b ≡ true → c ≡ true) → (a || b) ≡ true → (a || c) ≡ true
    weaker true b c rest is = refl
    weaker false b c rest is = rest is

    by : (plain : Bool) → (has_name (completed_names others) (byte ∷ more) ≡ true → stands (byte ∷ more) others ≡ true)
        → (equals (if plain then it.name else []) (byte ∷ more) || has_name (completed_names others) (byte ∷ more)) ≡ true
        → stands (byte ∷ more) (it ∷ others) ≡ true
    by true rest is = weaker (equals it.name (byte ∷ more)) _ _ rest is
    by false rest is = or_from_either _ _ (inr (rest (second_of_or (equals [] (byte ∷ more)) _ refl is)))

-- a name byte is a byte of a field of names
field_byte : (byte : ℕ) → is_name byte ≡ true → (is_name byte || byte == 46) ≡ true
field_byte byte is = rw is refl

-- the bytes of such a field
abbrev is_field : ℕ → Bool
is_field byte = is_name byte || byte == 46

-- a verdict that takes all names that stand takes what completes an atom to one
completes : (interfaces : List Interface) → AreInterfaces interfaces → (verdict : List ℕ → Answer)
    → ((whole : List ℕ) → stands whole interfaces ≡ true → IsYes (verdict whole)) → (atom : List ℕ)
    → Completes is_field verdict atom (completion_among (completed_names interfaces) atom)
unfolding completion_among
completes interfaces are verdict takes [] = tt
completes interfaces are verdict takes (byte ∷ rest) =
    by (length (byte ∷ rest) == 0) (among_completes names (are_texts interfaces are) (byte ∷ rest))
  where
    names : List (List ℕ)
    names = completed_names interfaces

    atom : List ℕ
    atom = byte ∷ rest

    found : (those : List (ℕ × List ℕ)) → under names atom ≡ those
        → Completes is_name (verdict_among names) atom (goes_on (rests (length atom) those))
        → Completes is_field verdict atom (goes_on (rests (length atom) those))
    found [] is one = tt
    found (name ∷ []) is one =
        let held = (one_whole names atom name is).2 in
        let stood = name_stands interfaces byte _ held in
        (all_weaker is_name is_field field_byte _ one.0, record { short = one.1.short; taken = takes _ stood })
    found (name ∷ other ∷ more) is one = all_weaker is_name is_field field_byte _ one

    by : (b : Bool)
        → Completes is_name (verdict_among names) atom (cond b tails.None (goes_on (rests (length atom) (under names atom))))
        → Completes is_field verdict atom (cond b tails.None (goes_on (rests (length atom) (under names atom))))
    by true one = tt
    by false one = found (under names atom) refl one

name_taken : (interfaces : List Interface) (whole : List ℕ) → stands whole interfaces ≡ true
    → IsYes (name_verdict whole interfaces)
name_taken interfaces whole is = rw is tt

new_name_taken : (interfaces : List Interface) (whole : List ℕ) → stands whole interfaces ≡ true
    → IsYes (new_name_verdict whole interfaces)
new_name_taken interfaces whole is = rw is tt

-- the law of the rules
pub rules_lawful : (interfaces : List Interface) → AreInterfaces interfaces → IsLawful (router_rules interfaces)
rules_lawful interfaces are = record { completes = λ id atom short. by (id == IPV4) (id == NAME) atom }
  where
    by : (address old : Bool) (atom : List ℕ)
        → Completes (λ (byte : ℕ). cond address (is_ascii_digit byte || byte == 46) (is_field byte))
        (λ (whole : List ℕ). cond address (address_verdict whole) (cond old (name_verdict whole interfaces) (new_name_verdict whole interfaces)))
        atom (cond address tails.None (completion_among (completed_names interfaces) atom))
    by true old atom = tt
    by false true atom = completes interfaces are (λ whole. name_verdict whole interfaces) (name_taken interfaces) atom
    by false false atom = completes interfaces are (λ whole. new_name_verdict whole interfaces) (new_name_taken interfaces) atom

-- the name of an interface at a place is the name with that number
pub name_listed : (interfaces : List Interface) (number : ℕ) → number < length (names_of interfaces)
    → slice_get (names_of interfaces) number ≡ Some (name_at number interfaces)
name_listed [] number within = absurd (omega (arith, within))
name_listed (it ∷ more) zero within = refl
name_listed (it ∷ more) (suc number) within = name_listed more number (omega (arith, within))

-- and there is none from their number on
pub none_listed : (interfaces : List Interface) (number : ℕ) → length interfaces ≤ number → slice_get (names_of interfaces) number ≡ None
none_listed = text_past (λ (it : Interface). it.name)
