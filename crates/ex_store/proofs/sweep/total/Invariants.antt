use Rattle.std.proofs.Common.{◌≡◌, ◌+◌, drop}
use Rattle.ex_store.specs.Families.{rows_of}
use Rattle.ex_store.specs.Rows.{total}
use Rattle.ex_store.proofs.sweep.total.Given as goal

abbrev pub invariant-loop-family : goal.invariant-loop-family
invariant-loop-family l = l.all + total (rows_of (drop l.family-index l.families)) ≡ total (rows_of l.families)
