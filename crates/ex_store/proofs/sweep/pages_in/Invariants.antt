use Rattle.std.proofs.Common.{◌≡◌, ◌+◌, drop}
use Rattle.ex_store.specs.Families.{rows_of}
use Rattle.ex_store.specs.Rows.{pages_in}
use Rattle.ex_store.proofs.sweep.pages_in.Given as goal

abbrev pub invariant-loop-family : goal.invariant-loop-family
invariant-loop-family l = l.pages + pages_in l.directory (rows_of (drop l.family-index l.families)) ≡ pages_in l.directory (rows_of l.families)
