use Rattle.std.proofs.Common.{rules, arith, refl}
use Rattle.cm_text.proofs.LinesLaws.{at_feed, none_left, one_left}
use Rattle.cm_text.proofs.lines.first_line.Goals as goal

pub returns-then-bytes-at-eq10 : goal.returns-then-bytes-at-eq10
returns-then-bytes-at-eq10 c =
    at_feed c.args.bytes.now c.loop-at.at _ c.loop-at.invariant (search (rules, arith)) (search (rules, arith))
    c.end_of.ensures.value c.end_of.ensures.within refl

pub returns-then-is_empty : goal.returns-then-is_empty
returns-then-is_empty c = none_left c.args.bytes.now (search (rules, arith))

pub returns-else-is_empty : goal.returns-else-is_empty
returns-else-is_empty c =
    one_left c.args.bytes.now c.loop-at.at c.loop-at.invariant (search (rules, arith)) (search (rules, arith))
