-- A step that is taken, or cut short, and so a run.
use Rattle.std.specs.Prelude.{◌≡◌, Result, Ok, Err, IfOk}
use Rattle.cm_run.specs.Cut.{Traces}
use Rattle.cm_run.specs.Observation.{Observation}
use Rattle.cm_run.specs.declared.stop.Stop.{Stop}
use Rattle.ex_take.specs.ExecState.{ExecState}
use Rattle.ex_batch.specs.Batch.{Batch, Step}
use Rattle.ex_batch.specs.declared.step.Ended.{Ended}
use Rattle.ex_batch.specs.declared.step.Next.{Next}

-- whether it was cut short
abbrev pub step_outcome : {X : Type 0} → Result X Stop → Result Unit Stop
step_outcome (Ok value) = Ok tt
step_outcome (Err stop) = Err stop

-- what happened is the step, or a cut of it; and where it is whole, the run goes on after it as the step says
pub record Takes (before now : Observation ExecState) (step : Step) (result : Result Next Stop) : Type 0 where
  pub traces : Traces before now step.events (step_outcome result)
  pub next : IfOk result (λ (next : Next). next ≡ step.next)

-- what happened is the run, or a cut of it; and where it is whole, it ends as the run says
pub record Runs (before now : Observation ExecState) (batch : Batch) (result : Result Ended Stop) : Type 0 where
  pub traces : Traces before now batch.events (step_outcome result)
  pub end : IfOk result (λ (end : Ended). end ≡ batch.end)
