use Rattle.std.proofs.Common.{◌<◌, ◌+◌, List, length, ap, ◌∙◌, subst, refl}
use Rattle.cm_run.specs.Event.{Event, trials_of}
use Rattle.cm_run.specs.Trace.{is_ended}
use Rattle.ex_store.specs.State.{State}
use Rattle.ex_take.specs.Exec.{exec_semantics}
use Rattle.ex_take.specs.ExecState.{ExecState}
use Rattle.ex_program.specs.declared.progress.TheConstants.{GENERATED_KEYS}
use Rattle.ex_program.proofs.Summaries.{cut_for_memory, from_first, memory_alone, performed, shown, sums_up, taken, trace_from_first}
use Rattle.ex_program.proofs.generated_run.summarize.Goals as goal

pub error_of-requires : goal.error_of-requires
error_of-requires g c =
    memory_alone _ (length c.new-keys.result.left) (length c.run-stop.new.keys.left)
    (is_ended (exec_semantics.mode_of c.run-stop.new.app)) c.in-Err.why c.in-Err.ensures.cause (c.in-Err.ensures.count refl)
    (subst (λ n. n < GENERATED_KEYS) c.count_left-all.ensures.count c.count_left-all.ensures.few)

pub returns-in-Err-clause-wanting : goal.returns-in-Err-clause-wanting
returns-in-Err-clause-wanting g c =
    cut_for_memory c.args.lines _ _ _ _ c.error_of.ensures (c.in-Err.ensures.traces refl refl)
    (trace_from_first c.args.lines c.new-exec.result _ c.new-keys.result c.new-exec.ensures c.in_ok-new-2.ensures c.new-keys.ensures)

pub overflow_sub-result : goal.overflow_sub-result
overflow_sub-result g c =
    (taken c.count_left-all.result c.count_left.result _ _ _ c.count_left-all.ensures.count c.count_left.ensures.count
    (performed _ _ _ (c.in-Ok.ensures.traces refl refl)).keys).0

-- [summary]
pub returns-clause-summary : goal.returns-clause-summary
returns-clause-summary g c =
    sums_up c.new-exec.result c.new-keys.result.left c.args.lines c.refused.result _ c.count.result c.rows.result c.has_ended.result c.run-stop.new.app
    (performed _ _ _ (c.in-Ok.ensures.traces refl refl)).state c.refused.ensures
    (taken c.count_left-all.result c.count_left.result _ _ _ c.count_left-all.ensures.count c.count_left.ensures.count
    (performed _ _ _ (c.in-Ok.ensures.traces refl refl)).keys).1
    c.has_ended.ensures
    (c.count.ensures ∙ shown _ _ _ _ _ c.new-screen.ensures (performed _ _ _ (c.in-Ok.ensures.traces refl refl)).screen c.end_line.ensures)
    (c.rows.ensures ∙ ap (λ (it : State). length it.rows) (c.parts.ensures.value ∙ c.store.ensures))
    ∙ from_first c.args.lines c.new-exec.result _ c.new-keys.result c.new-exec.ensures c.in_ok-new-2.ensures c.new-keys.ensures

pub returns-clause-counted : goal.returns-clause-counted
returns-clause-counted g c =
    (performed _ _ _ (c.in-Ok.ensures.traces refl refl)).trials
    ∙ ap (λ (events : List (Event ExecState)). c.args.steps.now + trials_of events)
    (trace_from_first c.args.lines c.new-exec.result _ c.new-keys.result c.new-exec.ensures c.in_ok-new-2.ensures c.new-keys.ensures)
