use Rattle.std.proofs.Common.{◌≡◌, drop}
use Rattle.cm_tables.specs.Order.{targets_fault}
use Rattle.cm_tables.proofs.fault.targets_fault.Given as goal

abbrev pub invariant-loop-position : goal.invariant-loop-position
invariant-loop-position l =
    targets_fault l.entries l.position (drop l.position l.entries) ≡ targets_fault l.entries 0 l.entries
