use Rattle.std.proofs.Common.{◌≤◌, length}
use Rattle.cm_io.proofs.std_load.read_whole.Given as goal

-- no more is read than the limit
abbrev pub invariant-loop : goal.invariant-loop
invariant-loop l = length l.bytes.items ≤ l.limit
