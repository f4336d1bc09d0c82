-- The first of the rest is the first of all.
use Rattle.std.proofs.Common.{◌≡◌, drop}
use Rattle.std.specs.List.{position_from}
use Rattle.cm_blocks.specs.Default.{bad_default, has_bad_default}
use Rattle.cm_blocks.proofs.default.first_bad.Given as goal

abbrev pub invariant-loop-number : goal.invariant-loop-number
invariant-loop-number l =
    position_from (has_bad_default l.grammar) l.number (drop l.number l.grammar.nodes) ≡ bad_default l.grammar
