use Rattle.std.proofs.Common.{◌≡◌, drop}
use Rattle.cm_state.specs.Stack.{first_decided_within}
use Rattle.cm_state.proofs.stack.first_decided_within.Given as goal

-- it is the first of those from here on
abbrev pub invariant-loop-number : goal.invariant-loop-number
invariant-loop-number l = first_decided_within l.size l.number (drop l.number l.fields) ≡ first_decided_within l.size 0 l.fields
