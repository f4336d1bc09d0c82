-- The lines that a run uses.
use Rattle.std.specs.Prelude.{ℕ, zero, suc, List, [], ◌∷◌, ◌++◌, slice_get, Option, None, Some}
use Rattle.cm_run.specs.Event.{moments_after, state_after}
use Rattle.ex_take.specs.ExecState.{ExecState}
use Rattle.ex_batch.specs.Batch.{line_step}
use Rattle.ex_batch.specs.declared.batch.TheConstants.{CONTROL_LINES}
use Rattle.ex_batch.specs.declared.step.Next.{Next}
use Rattle.ex_batch.specs.declared.step.Next.TheVariants.{Line, Over}

-- a place, where a line is there
abbrev pub used_at : ℕ → Option (List ℕ) → List ℕ
used_at place None = []
used_at place (Some line) = place ∷ []

-- the places of the lines that are used, in order; a line that is used again is there again
unfoldable pub used_from : List (List ℕ) → ℕ → List ℕ → ExecState → Next → List ℕ
used_from lines more moments at (Over end) = []
used_from lines zero moments at (Line place) = []
used_from lines (suc more) moments at (Line place) =
    let step = line_step lines place moments at (slice_get lines place) in
    used_at place (slice_get lines place)
    ++ used_from lines more (moments_after moments step.events) (state_after at step.events) step.next

abbrev pub used_in : List (List ℕ) → List ℕ → ExecState → List ℕ
used_in lines moments at = used_from lines CONTROL_LINES moments at (Line 0)
