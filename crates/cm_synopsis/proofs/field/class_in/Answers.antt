use Rattle.std.proofs.Common.{arith}
use Rattle.cm_synopsis.proofs.Steps.{class_kept}
use Rattle.cm_synopsis.proofs.field.class_in.Goals as goal

pub loop-at-preserved-then-passed-gt0 : goal.loop-at-preserved-then-passed-gt0
loop-at-preserved-then-passed-gt0 c =
    class_kept c.args.text.now c.loop-at.set c.loop-at.passed c.loop-at.at _ c.loop-at-test.true
    (omega (arith, c.if-passed-gt0.true)) c.loop-at.invariant
