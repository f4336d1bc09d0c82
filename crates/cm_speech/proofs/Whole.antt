-- A name that is typed whole is taken with its number, where no other is the same.
use Rattle.std.proofs.Common.{◌≡◌, ℕ, ◌+◌, ◌<◌, ◌==◌, Bool, true, false, ap, cond, ◌||◌, ◌∙◌, List, [], ◌∷◌, ◌++◌, length, refl, arith, filter, map}
use Rattle.std.specs.Char.{to_ascii_lowercase}
use Rattle.std.specs.List.{enumerate_from}
use Rattle.std.proofs.lemmas.Bool.Decides.{nat_tests}
use Rattle.cm_lists.proofs.Texts.{bytes_eq_itself}
use Rattle.cm_text.specs.Case.{equals}
use Rattle.cm_hooks.specs.Among.{has_name, is_under, verdict_among}
use Rattle.cm_hooks.specs.declared.answer.Answer.TheVariants.{Yes}

equals_itself : (name : List ℕ) → equals name name ≡ true
unfolding equals
equals_itself name = bytes_eq_itself (map to_ascii_lowercase name)

-- the numbered names that are the atom
abbrev same_names : ℕ → List (List ℕ) → List ℕ → List (ℕ × List ℕ)
same_names number names atom =
    filter (λ (name : ℕ × List ℕ). is_under true atom name.1) (enumerate_from number names)

none_same : (names : List (List ℕ)) (atom : List ℕ) (number : ℕ) → has_name names atom ≡ false
    → same_names number names atom ≡ []
none_same [] atom number none = refl
none_same (name ∷ more) atom number none = by (equals name atom) (none_same more atom (number + 1)) none
  where
    rest : List (ℕ × List ℕ)
    rest = same_names (number + 1) more atom

    by : (b : Bool) → (has_name more atom ≡ false → rest ≡ []) → (b || has_name more atom) ≡ false
        → cond b ((number, name) ∷ rest) rest ≡ []
    by true further none = cc
    by false further none = further none

one_same : (front more : List (List ℕ)) (name : List ℕ) (number : ℕ) → has_name front name ≡ false
    → has_name more name ≡ false → same_names number (front ++ name ∷ more) name ≡ (number + length front, name) ∷ []
one_same [] more name number none nothing =
    let place : number + 0 ≡ number = omega arith in
    rw (equals_itself name, none_same more name (number + 1) nothing, place) refl
one_same (first ∷ front) more name number none nothing =
    by (equals first name) (λ further. one_same front more name (number + 1) further nothing) none
  where
    rest : List (ℕ × List ℕ)
    rest = same_names (number + 1) (front ++ name ∷ more) name

    place : number + 1 + length front ≡ number + length (first ∷ front)
    place = omega arith

    by : (b : Bool) → (has_name front name ≡ false → rest ≡ (number + 1 + length front, name) ∷ [])
        → (b || has_name front name) ≡ false
        → cond b ((number, first) ∷ rest) rest ≡ (number + length (first ∷ front), name) ∷ []
    by true further none = cc
    by false further none = further none ∙ ap (λ (at : ℕ). (at, name) ∷ []) place

there : (front more : List (List ℕ)) (name : List ℕ) → has_name (front ++ name ∷ more) name ≡ true
there [] more name = rw (equals_itself name) refl
there (first ∷ front) more name = by (equals first name) (there front more name)
  where
    by : (b : Bool) → has_name (front ++ name ∷ more) name ≡ true
        → (b || has_name (front ++ name ∷ more) name) ≡ true
    by true further = refl
    by false further = further

pub whole_taken : (front more : List (List ℕ)) (name : List ℕ) → 0 < length name → has_name front name ≡ false
    → has_name more name ≡ false → verdict_among (front ++ name ∷ more) name ≡ Yes (length front)
unfolding verdict_among
whole_taken front more name some none nothing =
    let full : (length name == 0) ≡ false = grind (arith, nat_tests) in
    let place : 0 + length front ≡ length front = omega arith in
    let alone : same_names 0 (front ++ name ∷ more) name ≡ (0 + length front, name) ∷ [] = one_same front more name 0 none nothing in
    rw (full, there front more name, alone, place) refl
