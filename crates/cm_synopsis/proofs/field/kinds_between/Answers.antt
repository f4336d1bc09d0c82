use Rattle.std.proofs.Common.{arith, rules}
use Rattle.cm_synopsis.proofs.Steps.{bar_kept, inside_kept}
use Rattle.cm_synopsis.proofs.field.kinds_between.Goals as goal

pub loop-at-preserved-then-is_inside : goal.loop-at-preserved-then-is_inside
loop-at-preserved-then-is_inside c = record {
  same =
      inside_kept c.args.lists.now c.loop-at.made c.args.text.now c.loop-at.start c.loop-at.at _
      c.loop-at.invariant.within c.loop-at-test.true (search (rules, arith)) c.loop-at.invariant.same;
  within = omega (arith, c.loop-at.invariant.within);
}

pub loop-at-preserved : goal.loop-at-preserved
loop-at-preserved c = record {
  same =
      bar_kept c.args.lists.now c.loop-at.made _ c.args.text.now c.loop-at.start c.loop-at.at _ c.loop-at-test.true
      (search (rules, arith)) (search (rules, arith)) c.loop-at.invariant.same;
  within = omega arith;
}
