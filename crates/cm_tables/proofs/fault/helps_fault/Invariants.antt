use Rattle.std.proofs.Common.{◌≡◌, drop}
use Rattle.cm_tables.specs.Order.{helps_fault}
use Rattle.cm_tables.proofs.fault.helps_fault.Given as goal

abbrev pub invariant-loop-position : goal.invariant-loop-position
invariant-loop-position l = helps_fault l.position (drop l.position l.entries) ≡ helps_fault 0 l.entries
