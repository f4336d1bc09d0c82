-- No two places have the same positions.
use Rattle.std.proofs.Common.{◌≡◌, ℕ, zero, suc, ◌+◌, true, false, Bool, ◌&&◌, ◌||◌, not, if◌then◌else◌, List, [], ◌∷◌, ◌++◌, fold, refl, sym, ap, ◌∙◌, Option, None, Some, option_map, slice_get, unwrap_or}
use Rattle.std.specs.List.{list_any}
use Rattle.std.proofs.lemmas.Bool.{and_from, and_parts, true≢false}
use Rattle.std.proofs.lemmas.List.Folds.{list_any-append}
use Rattle.std.proofs.lemmas.Option.{slice_get-map}
use Rattle.cm_synopsis.specs.CommandView.{CommandView}
use Rattle.cm_synopsis.specs.Ways.{Way}
use Rattle.cm_language.specs.Groups.{groups, is_group, reached, with_new}
use Rattle.cm_language.specs.Places.{Site, known_after, known_within, places, positions_at, site, starts, with_groups}
use Rattle.cm_language.specs.declared.place.Position.{Position}
use Rattle.cm_language.specs.declared.place.TheConstants.{PLACE_LIMIT}
use Rattle.cm_language.proofs.Equivalences.{group_equiv}
use Rattle.cm_language.proofs.Exits.{any_of_get}
use Rattle.cm_language.proofs.Languages.{are_of}
use Rattle.cm_language.proofs.Subsets.{sites}

-- none is the same as one before it
abbrev are_different : List (List Position) → Bool
are_different [] = true
are_different (first ∷ known) = not (list_any (is_group first) known) && are_different known

both_false : (a b : Bool) → (a || b) ≡ false → (a ≡ false) × (b ≡ false)
both_false true b is = cc
both_false false b is = (refl, is)

from_not : (a : Bool) → not a ≡ true → a ≡ false
from_not true is = cc
from_not false is = refl

with_one : (made : List (List Position)) (one : List Position) → are_different made ≡ true
    → list_any (is_group one) made ≡ false → are_different (made ++ one ∷ []) ≡ true
with_one [] one all new = refl
with_one (first ∷ made) one all new =
    let apart : (not (list_any (is_group first) made) ≡ true) × (are_different made ≡ true) =
    and_parts (not (list_any (is_group first) made)) (are_different made) all in
    let none : (is_group one first ≡ false) × (list_any (is_group one) made ≡ false) =
    both_false (is_group one first) (list_any (is_group one) made) new in
    and_from _ _
    (ap not (list_any-append (is_group first) made (one ∷ [])
    ∙ ap (λ it. it || (is_group first one || false)) (from_not (list_any (is_group first) made) apart.0)
    ∙ ap (λ it. it || false) (group_equiv.symm first one ∙ none.0)))
    (with_one made one apart.1 none.1)

new_different : (made : List (List Position)) (one : List Position) (test : Bool)
    → list_any (is_group one) made ≡ test → are_different made ≡ true
    → are_different (if test then made else made ++ one ∷ []) ≡ true
new_different made one true is all = all
new_different made one false is all = with_one made one all is

fold_different : (made ones : List (List Position)) → are_different made ≡ true
    → are_different (fold (with_new is_group) made ones) ≡ true
fold_different made [] all = all
fold_different made (one ∷ ones) all =
    fold_different (with_new is_group made one) ones
    (new_different made one (list_any (is_group one) made) refl all)

-- equal lists stand at one number
one_number : (known : List (List Position)) → are_different known ≡ true → (at other : ℕ) (group : List Position)
    → slice_get known at ≡ Some group → slice_get known other ≡ Some group → at ≡ other
one_number [] all at other group got same = cc
one_number (first ∷ known) all zero zero group got same = refl
one_number (first ∷ known) all zero (suc other) group got same =
    absurd (true≢false (sym (any_of_get (is_group first) known other group same
    (ap (is_group first) (sym (ap (λ it. unwrap_or it first) got)) ∙ group_equiv.refl first))
    ∙ from_not (list_any (is_group first) known) (and_parts _ (are_different known) all).0))
one_number (first ∷ known) all (suc at) zero group got same =
    absurd (true≢false (sym (any_of_get (is_group first) known at group got
    (ap (is_group first) (sym (ap (λ it. unwrap_or it first) same)) ∙ group_equiv.refl first))
    ∙ from_not (list_any (is_group first) known) (and_parts _ (are_different known) all).0))
one_number (first ∷ known) all (suc at) (suc other) group got same =
    ap suc (one_number known (and_parts (not (list_any (is_group first) known)) (are_different known) all).1
    at other group got same)

module _ (commands : List CommandView) (ways : List Way) where
  known_different : (more at : ℕ) (known : List (List Position)) → are_different known ≡ true
      → are_different (known_after commands ways more at known) ≡ true
  unfolding known_after
  known_different zero at known all = all
  known_different (suc more) at known all =
      known_different more (at + 1) (with_groups commands ways known (positions_at known at))
      (fold_different known (groups commands ways (reached ways (positions_at known at))) all)

  positions_got : (known : List (List Position)) (at : ℕ) (place : Site) (found : Option (List Position))
      → slice_get known at ≡ found → option_map (site commands ways known) found ≡ Some place
      → slice_get known at ≡ Some place.positions
  positions_got known at place None is same = cc
  positions_got known at place (Some positions) is same =
      is ∙ ap (λ it. Some it.positions) (ap (λ it. unwrap_or it place) same)

  got_of : (known : List (List Position)) (made : List Site) → sites commands ways known ≡ made → (at : ℕ)
      (place : Site) → slice_get made at ≡ Some place → slice_get known at ≡ Some place.positions
  got_of known made same at place got =
      positions_got known at place (slice_get known at) refl
      (sym (slice_get-map (site commands ways known) known at) ∙ ap (λ it. slice_get it at) same ∙ got)

  pub places_differ : (made : List Site) → places commands ways ≡ Some made → (at number : ℕ) → (place other : Site)
      → slice_get made at ≡ Some place → slice_get made number ≡ Some other
      → place.positions ≡ other.positions → at ≡ number
  places_differ made is at number place other got found same =
      let known : List (List Position) = known_within PLACE_LIMIT commands ways in
      one_number known (known_different PLACE_LIMIT 0 (starts commands ∷ []) refl) at number place.positions
      (got_of known made (are_of commands ways made is).1 at place got)
      (got_of known made (are_of commands ways made is).1 number other found ∙ ap Some (sym same))
