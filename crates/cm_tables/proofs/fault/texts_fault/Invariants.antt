use Rattle.std.proofs.Common.{◌≡◌, None, drop}
use Rattle.std.specs.Option.{option_copied}
use Rattle.cm_tables.specs.Order.{texts_fault}
use Rattle.cm_tables.proofs.fault.texts_fault.Given as goal

abbrev pub invariant-loop-position : goal.invariant-loop-position
invariant-loop-position l =
    texts_fault l.position (option_copied l.before) (drop l.position l.entries) ≡ texts_fault 0 None l.entries
