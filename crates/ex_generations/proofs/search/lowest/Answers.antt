use Rattle.std.proofs.Common.{◌∙◌, sym}
use Rattle.cm_lists.proofs.Bools.{beq-true}
use Rattle.ex_generations.proofs.Extremes.{lowest_at}
use Rattle.ex_generations.proofs.search.lowest.Goals as goal

pub returns-then-file-deleted : goal.returns-then-file-deleted
returns-then-file-deleted c =
    sym (lowest_at c.args.deleted c.args.files.now c.loop-file.file-index c.file-item.result c.requires c.loop-file-test.true c.file-item.is (beq-true _ _ c.if-file-deleted.true))
    ∙ c.loop-file.invariant
