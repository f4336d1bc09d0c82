use Rattle.std.proofs.Common.{◌≡◌, length}
use Rattle.ex_take.specs.Exec.{open_files}
use Rattle.ex_take.proofs.exec.closing.close_over.Given as goal

abbrev pub invariant-loop-files : goal.invariant-loop-files
invariant-loop-files l = open_files l.files.items ≡ open_files l.fn.files.items

abbrev pub decreases-loop-files : goal.decreases-loop-files
decreases-loop-files l = length l.files.items
