-- [question-mark] The listed entries of a table that may come, one after the other.
use Rattle.std.proofs.Common.{◌≡◌, ◌<◌, ℕ, ◌+◌, Bool, true, false, List, [], ◌∷◌, Some, None, slice_get, length, get_or, refl, arith, ap, ◌∙◌}
use Rattle.std.specs.List.{filter}
use Rattle.std.proofs.lemmas.Option.{slice_get-get_or}
use Rattle.cm_tables.specs.declared.entry.Entry.{Entry}
use Rattle.cm_tables.specs.Listing.{first_place, listed_from, next_listed}
use Rattle.cm_tables.proofs.ListedEntries.{listed_first}
use Rattle.cm_help.specs.Phrase.{choices}

-- where the next listed entry may come it is the first
pub choice_comes : (may : ℕ → Bool) (table : List Entry) (from : ℕ) (atom : List ℕ) (position : ℕ) (entry : Entry)
    → next_listed table from atom ≡ Some position → slice_get table position ≡ Some entry → may position ≡ true
    → choices may from table atom ≡ (position, entry) ∷ choices may (position + 1) table atom
choice_comes may table from atom position entry is found comes =
    ap (filter (λ (e : ℕ × Entry). may e.0)) (listed_first table from atom position entry is found) ∙ rw comes refl

-- where it may not it is passed
pub choice_passes : (may : ℕ → Bool) (table : List Entry) (from : ℕ) (atom : List ℕ) (position : ℕ)
    → next_listed table from atom ≡ Some position → position < length table → may position ≡ false
    → choices may from table atom ≡ choices may (position + 1) table atom
choice_passes may [] from atom position is within passes = absurd (omega (arith, within))
choice_passes may (first ∷ more) from atom position is within passes =
    ap (filter (λ (e : ℕ × Entry). may e.0))
    (listed_first (first ∷ more) from atom position (get_or (first ∷ more) position first) is
    (slice_get-get_or (first ∷ more) position first within))
    ∙ rw passes refl

-- past the last there is none
none_first : (places : List (ℕ × Entry)) → first_place places ≡ None → places ≡ []
none_first [] is = refl
none_first (place ∷ more) is = cc

pub choices_end : (may : ℕ → Bool) (table : List Entry) (from : ℕ) (atom : List ℕ)
    → next_listed table from atom ≡ None → choices may from table atom ≡ []
choices_end may table from atom is =
    ap (filter (λ (e : ℕ × Entry). may e.0)) (none_first (listed_from from table atom) is)

-- the first of those that may come, where the next listed entry does
pub first_comes : (may : ℕ → Bool) (table : List Entry) (from : ℕ) (atom : List ℕ) (position : ℕ)
    → next_listed table from atom ≡ Some position → position < length table → may position ≡ true
    → first_place (choices may from table atom) ≡ Some position
first_comes may [] from atom position is within comes = absurd (omega (arith, within))
first_comes may (first ∷ more) from atom position is within comes =
    ap first_place (choice_comes may (first ∷ more) from atom position (get_or (first ∷ more) position first) is
    (slice_get-get_or (first ∷ more) position first within) comes)
