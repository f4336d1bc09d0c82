-- The listed entries of a table, one by one.
use Rattle.std.proofs.Common.{◌≡◌, ℕ, ◌+◌, ◌-◌, ◌≤◌, Bool, true, false, cond, suc, zero, List, [], ◌∷◌, drop, Some, slice_get, arith, refl, ap, sym, ◌∙◌}
use Rattle.std.specs.List.{enumerate_from, filter}
use Rattle.std.proofs.lemmas.List.{drop-drop}
use Rattle.cm_lists.proofs.Elements.{slice_get-drop}
use Rattle.cm_tables.specs.Listing.{first_place, is_listed, listed_from, next_listed}
use Rattle.cm_tables.specs.declared.entry.Entry.{Entry}

-- the listed entries of those that stand from a position on
abbrev pub listed_of : ℕ → List Entry → List ℕ → List (ℕ × Entry)
listed_of position rest atom = filter (λ (e : ℕ × Entry). is_listed atom e.1) (enumerate_from position rest)

-- the first is not before them
not_before : (position : ℕ) (rest : List Entry) (atom : List ℕ) (place : ℕ)
    → first_place (listed_of position rest atom) ≡ Some place → position ≤ place
not_before position [] atom place is = cc
not_before position (entry ∷ more) atom place is =
    by (is_listed atom entry) (not_before (position + 1) more atom place) is
  where
    by : (test : Bool) → (first_place (listed_of (position + 1) more atom) ≡ Some place → position + 1 ≤ place)
        → first_place (cond test ((position, entry) ∷ listed_of (position + 1) more atom) (listed_of (position + 1) more atom)) ≡ Some place
        → position ≤ place
    by true later is = let same : position ≡ place = cc in omega arith
    by false later is = let after = later is in omega arith

-- the first of them, and those after it
first_of : (position : ℕ) (rest : List Entry) (atom : List ℕ) (place : ℕ) (entry : Entry) (size : ℕ)
    → first_place (listed_of position rest atom) ≡ Some place → place ≡ position + size → slice_get rest size ≡ Some entry
    → listed_of position rest atom ≡ (place, entry) ∷ listed_of (place + 1) (drop (size + 1) rest) atom
first_of position [] atom place entry size is at found = cc
first_of position (first ∷ more) atom place entry zero is at found =
    by (is_listed atom first) (not_before (position + 1) more atom place) is
  where
    by : (test : Bool) → (first_place (listed_of (position + 1) more atom) ≡ Some place → position + 1 ≤ place)
        → first_place (cond test ((position, first) ∷ listed_of (position + 1) more atom) (listed_of (position + 1) more atom)) ≡ Some place
        → cond test ((position, first) ∷ listed_of (position + 1) more atom) (listed_of (position + 1) more atom)
        ≡ (place, entry) ∷ listed_of (place + 1) more atom
    by true later is =
        let same : position ≡ place = cc in
        let it : first ≡ entry = cc in
        rw (same, it) refl
    by false later is = let after = later is in absurd (omega arith)
first_of position (first ∷ more) atom place entry (suc size) is at found =
    let further : suc size + 1 ≡ suc (size + 1) = omega arith in
    rw further (by (is_listed atom first) (λ is. first_of (position + 1) more atom place entry size is (omega arith) found) is)
  where
    by : (test : Bool)
        → (first_place (listed_of (position + 1) more atom) ≡ Some place
        → listed_of (position + 1) more atom ≡ (place, entry) ∷ listed_of (place + 1) (drop (size + 1) more) atom)
        → first_place (cond test ((position, first) ∷ listed_of (position + 1) more atom) (listed_of (position + 1) more atom)) ≡ Some place
        → cond test ((position, first) ∷ listed_of (position + 1) more atom) (listed_of (position + 1) more atom)
        ≡ (place, entry) ∷ listed_of (place + 1) (drop (size + 1) more) atom
    by true later is = let same : position ≡ place = cc in absurd (omega arith)
    by false later is = later is

-- where a next entry is listed, it comes first, and those from the position after it on come next
pub listed_first : (table : List Entry) (from : ℕ) (atom : List ℕ) (position : ℕ) (entry : Entry)
    → next_listed table from atom ≡ Some position → slice_get table position ≡ Some entry
    → listed_from from table atom ≡ (position, entry) ∷ listed_from (position + 1) table atom
listed_first table from atom position entry is found =
    let least = not_before from (drop from table) atom position is in
    let size = position - from in
    let at : position ≡ from + size = omega (arith, least) in
    let after : from + (size + 1) ≡ position + 1 = omega (arith, least) in
    let there = slice_get-drop from table size ∙ ap (slice_get table) (sym at) ∙ found in
    first_of from (drop from table) atom position entry size is at there
    ∙ ap (λ rest. (position, entry) ∷ listed_of (position + 1) rest atom)
    (drop-drop (size + 1) from table ∙ ap (λ place. drop place table) after)
