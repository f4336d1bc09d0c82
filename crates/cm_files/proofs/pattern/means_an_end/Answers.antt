use Rattle.std.proofs.Common.{◌+◌, length, arith, rules}
use Rattle.cm_lists.proofs.Products.{spend}
use Rattle.cm_files.proofs.Stars.{means_next}
use Rattle.cm_files.proofs.pattern.means_an_end.Goals as goal

pub loop-size-preserved : goal.loop-size-preserved
loop-size-preserved c =
    let left = length c.split_at-in-loop-size-3.result.1.now + 1 in
    let after = length c.split_at-in-loop-size-2.result.1.now + 1 in
    let spent = spend left after c.in-Some.place (length c.split_at.result.0.now) (length c.loop-size.parts.now + 1) (length c.loop-size.rest.now + 1)
    (omega arith) (omega arith) (omega arith) in
    record {
      same = search (rules, means_next);
      size = search rules;
      few = omega (arith, spent, c.in-Some.ensures.few, c.loop-size.invariant.few);
    }
