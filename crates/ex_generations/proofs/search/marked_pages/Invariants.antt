use Rattle.std.proofs.Common.{◌≡◌, ◌+◌, ◌*◌, ◌≤◌, drop}
use Rattle.ex_generations.specs.Generations.{marked, pages}
use Rattle.ex_generations.proofs.search.marked_pages.Given as goal

abbrev pub invariant-loop-file : goal.invariant-loop-file
invariant-loop-file l =
    (l.pages + pages (marked (drop l.file-index l.files)) ≡ pages (marked l.files)) × (l.pages ≤ 26 * l.file-index)
