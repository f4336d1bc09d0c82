-- Which names are listed.
use Rattle.std.proofs.Common.{◌≡◌, ℕ, zero, suc, ◌+◌, Bool, true, false, cond, List, [], ◌∷◌, length, take, drop, refl, ap, sym, arith, ◌∙◌}
use Rattle.std.specs.List.{list_all}
use Rattle.std.proofs.lemmas.List.{length-take, take-append-drop}
use Rattle.std.proofs.Math.Seq.{take-append_seam}
use Rattle.cm_text.specs.Case.{begins_with}
use Rattle.cm_help.specs.Names.{listed, matching, others}
use Rattle.cm_help.specs.declared.names.TheConstants.{NAMES_LIMIT}

all_match : (atom : List ℕ) (names : List (List ℕ)) (size : ℕ)
    → list_all (λ (name : List ℕ). begins_with name atom) (take size (matching atom names)) ≡ true
all_match atom names zero = refl
all_match atom [] (suc size) = refl
all_match atom (name ∷ more) (suc size) =
    by (begins_with name atom) refl (all_match atom more size) (all_match atom more (suc size))
  where
    passes : List (List ℕ) → Bool
    passes names = list_all (λ (name : List ℕ). begins_with name atom) names

    by : (b : Bool) → begins_with name atom ≡ b → passes (take size (matching atom more)) ≡ true
        → passes (take (suc size) (matching atom more)) ≡ true
        → passes (take (suc size) (cond b (name ∷ matching atom more) (matching atom more))) ≡ true
    by true is with_it without = rw is with_it
    by false is with_it without = without

pub each_matches : (atom : List ℕ) (names : List (List ℕ))
    → list_all (λ (name : List ℕ). begins_with name atom) (listed atom names) ≡ true
each_matches atom names = all_match atom names NAMES_LIMIT

taken_first : (size : ℕ) (texts : List (List ℕ)) → take (length (take size texts)) texts ≡ take size texts
taken_first size texts =
    ap (λ (whole : List (List ℕ)). take (length (take size texts)) whole) (sym (take-append-drop size texts))
    ∙ take-append_seam (take size texts) (drop size texts)

pub first_are_listed : (atom : List ℕ) (names : List (List ℕ)) → take (length (listed atom names)) (matching atom names) ≡ listed atom names
first_are_listed atom names = taken_first NAMES_LIMIT (matching atom names)

pub all_are_counted : (atom : List ℕ) (names : List (List ℕ))
    → length (listed atom names) + others atom names ≡ length (matching atom names)
all_are_counted atom names =
    let size = length-take NAMES_LIMIT (matching atom names) in
    omega (arith, size)
