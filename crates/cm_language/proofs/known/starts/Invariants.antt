-- The starts of the commands so far.
use Rattle.std.proofs.Common.{◌≡◌, map}
use Rattle.std.specs.List.{range_with_len}
use Rattle.cm_language.specs.Places.{start_of}
use Rattle.cm_language.proofs.known.starts.Given as goal

abbrev pub invariant-loop-command : goal.invariant-loop-command
invariant-loop-command l = l.made.items ≡ map start_of (range_with_len 0 l.command)
