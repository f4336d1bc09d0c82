-- The run over the lines of a control file.
use Rattle.std.specs.Prelude.{ℕ, zero, suc, ◌+◌, Bool, true, false, not, if◌then◌else◌, List, [], ◌∷◌, ◌++◌, map, slice_get, Option, None, Some, is_some}
use Rattle.cm_text.specs.ScreenBytes.{end_of_line, printing_byte}
use Rattle.cm_io.specs.Clock.{next_moment}
use Rattle.cm_fields.specs.declared.code.Code.{Code}
use Rattle.cm_fields.specs.declared.code.Code.TheVariants.{BadControl, BadLine, LineLimit, NoLabel}
use Rattle.cm_run.specs.Event.{Act, Event, Moment, Screen, moments_after, state_after}
use Rattle.cm_run.specs.SingleLine.{handed_trace}
use Rattle.cm_run.specs.Trace.{effects_trace}
use Rattle.ex_take.specs.Exec.{refuses}
use Rattle.ex_take.specs.ExecState.{ExecState, forgiven}
use Rattle.ex_batch.specs.Control.{Control, Condition, Label, Nothing, Plain, Order, Bad, Exec, Goto, control_of, is_parsable}
use Rattle.ex_batch.specs.Labels.{place_of}
use Rattle.ex_batch.specs.Job.{job_semantics}
use Rattle.ex_batch.specs.declared.step.Ended.{Ended}
use Rattle.ex_batch.specs.declared.step.Ended.TheVariants.{Finished, Stopped}
use Rattle.ex_batch.specs.declared.step.Next.{Next}
use Rattle.ex_batch.specs.declared.step.Next.TheVariants.{Line, Over}
use Rattle.ex_batch.specs.declared.batch.TheConstants.{CONTROL_LINES}

-- what happens at a line, and where the run goes on after it
pub record Step : Type 0 where
  pub events : List (Event ExecState)
  pub next : Next

abbrev pub nothing_but : Next → Step
nothing_but next = record { events = []; next = next }

-- something happens first
abbrev pub after_event : Event ExecState → Step → Step
after_event event step = record { events = event ∷ step.events; next = step.next }

-- a line of the EXEC's: one that cannot be parsed is refused, and each other is taken like a line of a command file
abbrev pub text_trace : ℕ → ExecState → List ℕ → List (Event ExecState)
text_trace moment at text =
    if is_parsable text then handed_trace job_semantics moment at text else effects_trace (refuses BadLine at ∷ [])

-- after LOGOUT the run is over
abbrev pub after_text : ℕ → ExecState → Next
after_text place at = if at.interpreter.ended then Over Finished else Line (place + 1)

abbrev pub text_step : ℕ → ℕ → ExecState → List ℕ → Step
text_step place moment at text =
    let events = text_trace moment at text in
    record { events = events; next = after_text place (state_after at events) }

-- without such a label the run is stopped
abbrev pub label_next : Option ℕ → Next
label_next None = Over (Stopped NoLabel)
label_next (Some place) = Line place

-- a line of the EXEC's takes a moment, a refused one too
unfoldable pub order_step : List (List ℕ) → ℕ → List ℕ → ExecState → Order → Step
order_step lines place moments at (Goto name) = nothing_but (label_next (place_of name lines))
order_step lines place moments at (Exec text) =
    after_event Moment (text_step place (next_moment moments) at text)
order_step lines place moments at Bad = nothing_but (Over (Stopped BadControl))

-- where the line before was refused, the run is stopped
abbrev pub unless_refused : Option Code → Step → Step
unless_refused None step = step
unless_refused (Some code) step = nothing_but (Over (Stopped code))

-- a condition is met
abbrev pub is_met : Bool → Option Code → Bool
is_met true why = is_some why
is_met false why = not (is_some why)

-- with a condition a refusal is forgiven, and the order is done where the condition was met
abbrev pub condition_step : List (List ℕ) → ℕ → List ℕ → ExecState → Bool → Order → Step
condition_step lines place moments at met order =
    after_event (Act (forgiven at))
    (if met then order_step lines place moments (forgiven at) order else nothing_but (Line (place + 1)))

unfoldable pub control_step : List (List ℕ) → ℕ → List ℕ → ExecState → Control → Step
control_step lines place moments at Nothing = nothing_but (Line (place + 1))
control_step lines place moments at (Condition error order) =
    condition_step lines place moments at (is_met error at.stop) order
control_step lines place moments at (Label name) = unless_refused at.stop (nothing_but (Line (place + 1)))
control_step lines place moments at (Plain order) = unless_refused at.stop (order_step lines place moments at order)

-- a line as it is shown
unfoldable pub shown : List ℕ → List ℕ
shown line = map printing_byte line ++ end_of_line

-- it is shown first; past the last line the run is over
unfoldable pub line_step : List (List ℕ) → ℕ → List ℕ → ExecState → Option (List ℕ) → Step
line_step lines place moments at None = nothing_but (Over Finished)
line_step lines place moments at (Some line) =
    after_event (Screen (shown line)) (control_step lines place moments at (control_of line))

-- a run over a control file: all that happens, and how it ends
pub record Batch : Type 0 where
  pub events : List (Event ExecState)
  pub end : Ended

abbrev pub joined : Step → Batch → Batch
joined step rest = record { events = step.events ++ rest.events; end = rest.end }

-- where as many lines were used as may be
abbrev pub limit_end : Option (List ℕ) → Ended
limit_end None = Finished
limit_end (Some line) = Stopped LineLimit

unfoldable pub batch_from : List (List ℕ) → ℕ → List ℕ → ExecState → Next → Batch
batch_from lines more moments at (Over end) = record { events = []; end = end }
batch_from lines zero moments at (Line place) = record { events = []; end = limit_end (slice_get lines place) }
batch_from lines (suc more) moments at (Line place) =
    let step = line_step lines place moments at (slice_get lines place) in
    joined step (batch_from lines more (moments_after moments step.events) (state_after at step.events) step.next)

-- [batch-line] from the first line on
abbrev pub batch_of : List (List ℕ) → List ℕ → ExecState → Batch
batch_of lines moments at = batch_from lines CONTROL_LINES moments at (Line 0)
