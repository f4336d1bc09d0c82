-- What is known as the places are followed, and one start more.
use Rattle.std.proofs.Common.{◌≡◌, ℕ, suc, ◌+◌, ◌-◌, ◌<◌, List, [], ◌∷◌, ◌++◌, map, sym, ap, arith}
use Rattle.std.specs.List.{range_with_len}
use Rattle.std.proofs.lemmas.List.FromFn.{map-range_with_len_more}
use Rattle.cm_synopsis.specs.CommandView.{CommandView}
use Rattle.cm_synopsis.specs.Ways.{Way}
use Rattle.cm_language.specs.Places.{known_after, positions_at, start_of, with_groups}
use Rattle.cm_language.specs.declared.place.Position.{Position}

-- one start more
pub starts_more : (n : ℕ) → map start_of (range_with_len 0 n) ++ start_of n ∷ [] ≡ map start_of (range_with_len 0 (n + 1))
starts_more n = sym (map-range_with_len_more start_of 0 n n (omega arith))

-- no place more
pub known_done : (commands : List CommandView) (ways : List Way) (none at : ℕ) (known : List (List Position)) → none ≡ 0
    → known_after commands ways none at known ≡ known
unfolding known_after
known_done commands ways none at known is = ap (λ n. known_after commands ways n at known) is

-- one place more
pub known_step : (commands : List CommandView) (ways : List Way) (limit at : ℕ) (known : List (List Position)) → at < limit
    → known_after commands ways (limit - at) at known
    ≡ known_after commands ways (limit - (at + 1)) (at + 1) (with_groups commands ways known (positions_at known at))
unfolding known_after
known_step commands ways limit at known within =
    let one : limit - at ≡ suc (limit - (at + 1)) = omega (arith, within) in
    ap (λ n. known_after commands ways n at known) one
