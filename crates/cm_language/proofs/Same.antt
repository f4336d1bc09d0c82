-- Lists of positions and of kinds that are the same.
use Rattle.std.proofs.Common.{◌≡◌, ◌≢◌, false, List, [], ◌∷◌, length, refl, ap, ◌∙◌, arith, ◌&&◌, Bool, suc}
use Rattle.std.specs.Cmp.Lexicographic.{pointwise}
use Rattle.cm_lists.proofs.Bools.{and-false}
use Rattle.cm_synopsis.specs.declared.field.Kind.{Kind}
use Rattle.cm_language.specs.Groups.{is_group, is_position}
use Rattle.cm_language.specs.Readings.{is_same_kind}
use Rattle.cm_language.specs.declared.place.Position.{Position}

-- lists of two lengths are not the same
apart_at : {A : Type 0} (test : A → A → Bool) (ones others : List A) → length ones ≢ length others
    → pointwise test ones others ≡ false
apart_at test [] [] apart = grind (arith, apart)
apart_at test [] (other ∷ others) apart = refl
apart_at test (one ∷ ones) [] apart = refl
apart_at test (one ∷ ones) (other ∷ others) apart =
    let rest : length ones ≢ length others = λ same. apart (ap suc same) in
    ap (λ it. test one other && it) (apart_at test ones others rest) ∙ and-false (test one other)

pub is_group_apart : (ones others : List Position) → length ones ≢ length others → is_group ones others ≡ false
is_group_apart = apart_at is_position

pub kinds_apart : (kinds others : List Kind) → length kinds ≢ length others
    → pointwise is_same_kind kinds others ≡ false
kinds_apart = apart_at is_same_kind
