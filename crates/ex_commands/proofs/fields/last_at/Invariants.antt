-- No field from this number on is of the node.
use Rattle.std.proofs.Common.{◌≡◌, ◌≤◌, drop, length, None}
use Rattle.ex_commands.specs.Line.{last_at}
use Rattle.ex_commands.proofs.fields.last_at.Given as goal

abbrev pub invariant-loop-number : goal.invariant-loop-number
invariant-loop-number l = record {
  none : last_at l.node (drop l.number l.session.fields) ≡ None;
  within : l.number ≤ length l.session.fields;
}

abbrev pub decreases-loop-number : goal.decreases-loop-number
decreases-loop-number l = l.number
