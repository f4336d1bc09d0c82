-- A piece that is put a number of times.
use Rattle.std.proofs.Common.{◌≡◌, ℕ, suc, ◌+◌, List, [], ◌++◌, refl, ap, arith}
use Rattle.cm_io.specs.Pieces.{times}

-- no times is nothing
pub times_none : (piece : List ℕ) → times 0 piece ≡ []
unfolding times
times_none piece = refl

-- one time more has the piece at its end
pub times_more : (n : ℕ) (piece : List ℕ) → times (n + 1) piece ≡ times n piece ++ piece
unfolding times
times_more n piece = let e : n + 1 ≡ suc n = omega arith in ap (λ k. times k piece) e
