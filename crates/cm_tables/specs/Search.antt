-- How the entries of a table stand to an atom, so that a search by halving finds the first that
-- begins with it.
use Rattle.std.specs.Prelude.{◌≡◌, ℕ, Bool, true, false, not, ◌&&◌, List, [], ◌∷◌, ◌++◌, filter, length}
use Rattle.std.specs.Char.{to_ascii_lowercase}
use Rattle.std.specs.List.{AllByRecursion, enumerate_from}
use Rattle.std.specs.Ordering.{is_lt, nat_cmp, ordering_then}
use Rattle.std.specs.declared.cmp.Ordering.{Ordering}
use Rattle.std.specs.declared.cmp.Ordering.TheVariants.{Less, Equal}
use Rattle.cm_text.specs.Case.{begins_with, equals}
use Rattle.cm_tables.specs.Look.{is_recognised}
use Rattle.cm_tables.specs.Order.{is_keyword, text_order}
use Rattle.cm_tables.specs.declared.entry.Entry.{Entry}

-- whether a text is below those that begin with the atom, among them or above them
abbrev pub place : List ℕ → List ℕ → Ordering
place text [] = Equal
place [] (next ∷ atom) = Less
place (byte ∷ text) (next ∷ atom) =
    ordering_then (nat_cmp (to_ascii_lowercase byte) (to_ascii_lowercase next)) (place text atom)

-- keywords, each below all those after it
abbrev pub Ascends : List Entry → Type 0
Ascends [] = Unit {0}
Ascends (entry ∷ more) =
    (is_keyword entry.text ≡ true) × AllByRecursion (λ later. text_order entry.text later.text ≡ Less) more
    × Ascends more

-- a text is below those that begin with the atom
abbrev pub is_below : List ℕ → List ℕ → Bool
is_below text atom = is_lt (place text atom)

-- none of these entries is below those that begin with the atom
abbrev pub AreNotBelow : List ℕ → List Entry → Type 0
AreNotBelow atom entries = AllByRecursion (λ entry. is_below entry.text atom ≡ false) entries

-- the entries from a position on, which are not below those that begin with the atom, where none before them
-- begins with it
pub record IsFrom (atom : List ℕ) (entries : List Entry) (start : ℕ) (after : List Entry) : Type 0 where
  pub before : List Entry
  pub parts : entries ≡ before ++ after
  pub at : start ≡ length before
  pub none_before : AllByRecursion (λ entry. begins_with entry.text atom ≡ false) before
  pub above : AreNotBelow atom after
  pub ascends : Ascends after

-- of entries from a position on, those that the atom may abbreviate
abbrev pub candidates_from : ℕ → List Entry → List ℕ → List (ℕ × Entry)
candidates_from position entries atom =
    filter (λ (e : ℕ × Entry). is_recognised e.1.flag && begins_with e.1.text atom) (enumerate_from position entries)

-- the text of the first entry is the atom
abbrev pub is_first : List Entry → List ℕ → Bool
is_first [] atom = false
is_first (entry ∷ more) atom = equals entry.text atom

-- [look-up-cost] the entries that begin with the atom, and that it may not abbreviate
abbrev pub wholes : List Entry → List ℕ → List Entry
wholes entries atom = filter (λ (entry : Entry). not (is_recognised entry.flag) && begins_with entry.text atom) entries
