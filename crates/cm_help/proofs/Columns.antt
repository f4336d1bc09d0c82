-- The walk over the names of a hook's field.
use Rattle.std.proofs.Common.{◌≡◌, ℕ, zero, suc, ◌+◌, ◌-◌, ◌<◌, ◌≤◌, ◌++◌, ◌&&◌, max, nat_lt, Bool, true, false, cond, List, [], ◌∷◌, Option, Some, unwrap_or, slice_get, length, take, drop, refl, ap, sym, arith, ◌∙◌}
use Rattle.std.proofs.lemmas.Bool.{and_parts}
use Rattle.std.proofs.lemmas.Bool.Decides.{nat_tests}
use Rattle.cm_lists.proofs.Elements.{drop_at_some}
use Rattle.cm_text.specs.Case.{begins_with}
use Rattle.cm_text.specs.declared.name.TheConstants.{NAME_LIMIT}
use Rattle.cm_help.specs.Names.{columns, fits, gap, lead, longest, matching, taken_with}

-- those that are listed of the names from a place on, where so many may be
abbrev pub rest : List ℕ → List (List ℕ) → ℕ → ℕ → List (List ℕ)
rest atom names number left = take left (matching atom (drop number names))

first_comes : (atom name : List ℕ) (more : List (List ℕ)) (left : ℕ) → (nat_lt 0 left && begins_with name atom) ≡ true
    → take left (matching atom (name ∷ more)) ≡ name ∷ take (left - 1) (matching atom more)
first_comes atom name more zero is = cc
first_comes atom name more (suc left) is =
    let begins = (and_parts (nat_lt 0 (suc left)) (begins_with name atom) is).1 in
    let one : suc left - 1 ≡ left = omega arith in
    rw (begins, one) refl

first_passes : (atom name : List ℕ) (more : List (List ℕ)) (left : ℕ) → (nat_lt 0 left && begins_with name atom) ≡ false
    → take left (matching atom (name ∷ more)) ≡ take left (matching atom more)
first_passes atom name more zero is = refl
first_passes atom name more (suc left) is = by (begins_with name atom) is
  where
    some : nat_lt 0 (suc left) ≡ true
    some = grind (arith, nat_tests)

    by : (b : Bool) → (nat_lt 0 (suc left) && b) ≡ false
        → take (suc left) (cond b (name ∷ matching atom more) (matching atom more)) ≡ take (suc left) (matching atom more)
    by true is = let never = rw some at is in cc
    by false is = refl

-- a name that comes is listed next
pub next_comes : (atom : List ℕ) (names : List (List ℕ)) (number left : ℕ) (name : List ℕ)
    → slice_get names number ≡ Some name → (nat_lt 0 left && begins_with name atom) ≡ true
    → rest atom names number left ≡ name ∷ rest atom names (number + 1) (left - 1)
next_comes atom names number left name found is =
    ap (λ (names : List (List ℕ)). take left (matching atom names)) (drop_at_some names number name found)
    ∙ first_comes atom name (drop (number + 1) names) left is

-- any other is not
pub next_passes : (atom : List ℕ) (names : List (List ℕ)) (number left : ℕ) (name : List ℕ)
    → slice_get names number ≡ Some name → (nat_lt 0 left && begins_with name atom) ≡ false
    → rest atom names number left ≡ rest atom names (number + 1) left
next_passes atom names number left name found is =
    ap (λ (names : List (List ℕ)). take left (matching atom names)) (drop_at_some names number name found)
    ∙ first_passes atom name (drop (number + 1) names) left is

-- a name that begins with the atom is one of those that do
pub next_matches : (atom : List ℕ) (names : List (List ℕ)) (number : ℕ) (name : List ℕ)
    → slice_get names number ≡ Some name → begins_with name atom ≡ true
    → length (matching atom (drop number names)) ≡ 1 + length (matching atom (drop (number + 1) names))
next_matches atom names number name found is =
    ap (λ (names : List (List ℕ)). length (matching atom names)) (drop_at_some names number name found) ∙ rw is (omega arith)

pub next_differs : (atom : List ℕ) (names : List (List ℕ)) (number : ℕ) (name : List ℕ)
    → slice_get names number ≡ Some name → begins_with name atom ≡ false
    → length (matching atom (drop number names)) ≡ length (matching atom (drop (number + 1) names))
next_differs atom names number name found is =
    ap (λ (names : List (List ℕ)). length (matching atom names)) (drop_at_some names number name found) ∙ rw is refl

-- the count of those that begin with the atom, after one more name
pub one_differs : (atom : List ℕ) (names : List (List ℕ)) (number count total : ℕ) (name : List ℕ)
    → slice_get names number ≡ Some name → begins_with name atom ≡ false
    → (count + length (matching atom (drop number names)) ≡ total) × (count ≤ number)
    → (count + length (matching atom (drop (number + 1) names)) ≡ total) × (count ≤ number + 1)
one_differs atom names number count total name found is (all, within) =
    let same = next_differs atom names number name found is in
    (omega (arith, same, all), omega (arith, within))

pub one_matches : (atom : List ℕ) (names : List (List ℕ)) (number count total : ℕ) (name : List ℕ)
    → slice_get names number ≡ Some name → begins_with name atom ≡ true
    → (count + length (matching atom (drop number names)) ≡ total) × (count ≤ number)
    → (count + 1 + length (matching atom (drop (number + 1) names)) ≡ total) × (count + 1 ≤ number + 1)
one_matches atom names number count total name found is (all, within) =
    let more = next_matches atom names number name found is in
    (omega (arith, more, all), omega (arith, within))

-- the size of the longest, after one more name
pub longest_stays : (atom : List ℕ) (names : List (List ℕ)) (number left size total : ℕ) (name : List ℕ)
    → slice_get names number ≡ Some name → (nat_lt 0 left && begins_with name atom) ≡ false
    → (longest size (rest atom names number left) ≡ total) × (size ≤ NAME_LIMIT)
    → (longest size (rest atom names (number + 1) left) ≡ total) × (size ≤ NAME_LIMIT)
longest_stays atom names number left size total name found is (all, within) =
    (sym (ap (longest size) (next_passes atom names number left name found is)) ∙ all, within)

pub longest_rises : (atom : List ℕ) (names : List (List ℕ)) (number left size larger total : ℕ) (name : List ℕ)
    → slice_get names number ≡ Some name → (nat_lt 0 left && begins_with name atom) ≡ true
    → larger ≡ max size (length name) → length name ≤ NAME_LIMIT
    → (longest size (rest atom names number left) ≡ total) × (size ≤ NAME_LIMIT)
    → (longest larger (rest atom names (number + 1) (left - 1)) ≡ total) × (larger ≤ NAME_LIMIT)
longest_rises atom names number left size larger total name found is rises short (all, within) = (
  ap (λ (size : ℕ). longest size (rest atom names (number + 1) (left - 1))) rises
      ∙ sym (ap (longest size) (next_comes atom names number left name found is)) ∙ all,
  omega (arith, rises, short, within),
)

-- the columns from a name on that comes: it, and those of the names after it
pub columns_split : (atom : List ℕ) (names : List (List ℕ)) (number left width taken size : ℕ) (in_row : Bool) (after : ℕ)
    (name : List ℕ) → slice_get names number ≡ Some name → (nat_lt 0 left && begins_with name atom) ≡ true
    → in_row ≡ fits width taken → after ≡ taken_with in_row width taken
    → columns width taken size (rest atom names number left)
    ≡ (lead in_row width size ++ gap ++ name) ++ columns width after (length name) (rest atom names (number + 1) (left - 1))
columns_split atom names number left width taken size in_row after name found is row_is after_is =
    rw (after_is, row_is) (ap (columns width taken size) (next_comes atom names number left name found is))

-- the name with a number below theirs
pub there : (names : List (List ℕ)) (number : ℕ) (read : Option (List ℕ)) (other : List ℕ) → number < length names
    → read ≡ slice_get names number → slice_get names number ≡ Some (unwrap_or read other)
there [] number read other within is = absurd (omega (arith, within))
there (name ∷ more) zero read other within is = ap (λ (it : Option (List ℕ)). Some (unwrap_or it other)) (sym is)
there (name ∷ more) (suc number) read other within is = there more number read other (omega (arith, within)) is
