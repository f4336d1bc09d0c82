-- What is left has the first that all commands have.
use Rattle.std.proofs.Common.{◌≡◌, drop}
use Rattle.cm_graph.specs.Helps.{bad_help}
use Rattle.cm_graph.proofs.help.bad_help.Given as goal

abbrev pub invariant-loop-number : goal.invariant-loop-number
invariant-loop-number l = bad_help l.number (drop l.number l.commands) ≡ bad_help 0 l.commands
