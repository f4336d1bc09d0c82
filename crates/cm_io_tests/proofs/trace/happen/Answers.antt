use Rattle.std.proofs.Common.{refl, ◌∙◌, ap, ◌++◌}
use Rattle.cm_io_tests.specs.Texts.{meaning}
use Rattle.cm_io_tests.proofs.Cuts.{act_happens, get_happens, log_happens, on_ok, said_act, said_get, said_is, said_log, said_show, show_happens}
use Rattle.cm_io_tests.proofs.trace.happen.Goals as goal

pub returns-then-eq : goal.returns-then-eq
returns-then-eq c =
    get_happens c.args.faults.now c.args.stands.now c.args.line.now _ _
    (said_get _ _ _ c.split.ensures.before c.as_slice.ensures c.if-eq.ensures) c.get-stands.ensures

pub returns-then-eq-2 : goal.returns-then-eq-2
returns-then-eq-2 c =
    show_happens c.args.faults.now c.args.stands.now c.args.line.now c.split.result.1.now _
    (said_show _ _ _ _ c.split.ensures.before c.as_slice.ensures c.if-eq.ensures c.as_slice-2.ensures c.if-eq-2.ensures)
    (said_is _ _ c.split.ensures.after) c.in_ok-stands.ensures refl refl refl

pub returns-then-eq-3 : goal.returns-then-eq-3
returns-then-eq-3 c =
    log_happens c.args.faults.now c.args.stands.now c.args.line.now c.split.result.1.now _
    (said_log _ _ _ _ _ c.split.ensures.before c.as_slice.ensures c.if-eq.ensures c.as_slice-2.ensures
    c.if-eq-2.ensures c.as_slice-3.ensures c.if-eq-3.ensures)
    (said_is _ _ c.split.ensures.after) c.in_ok-stands-2.ensures refl refl refl

pub returns : goal.returns
returns c =
    on_ok c.push_meaning.result
    (λ put. act_happens c.args.faults.now c.args.stands.now c.args.line.now c.split.result.1.now _
    (said_act _ _ _ _ _ c.split.ensures.before c.as_slice.ensures c.if-eq.ensures c.as_slice-2.ensures
    c.if-eq-2.ensures c.as_slice-3.ensures c.if-eq-3.ensures)
    (said_is _ _ c.split.ensures.after)
    (put ∙ ap (λ items. items ++ meaning c.split.result.1.now) c.clear.ensures.items) refl refl refl refl)
    c.push_meaning.ensures
