use Rattle.std.proofs.Common.{◌≡◌, ◌+◌, drop}
use Rattle.ex_store.specs.Families.{bytes_of}
use Rattle.ex_store.proofs.sweep.add_bytes.Given as goal

abbrev pub invariant-loop-file : goal.invariant-loop-file
invariant-loop-file l = l.all + bytes_of (drop l.file-index l.files) ≡ l.before + bytes_of l.files
