use Rattle.std.proofs.Common.{◌≡◌, ◌+◌, drop}
use Rattle.ex_generations.specs.Generations.{pages}
use Rattle.ex_store.proofs.sweep.add_pages.Given as goal

abbrev pub invariant-loop-file : goal.invariant-loop-file
invariant-loop-file l = l.all + pages (drop l.file-index l.files) ≡ l.before + pages l.files
