use Rattle.std.proofs.Common.{◌∙◌}
use Rattle.cm_lists.proofs.Bools.{beq-true}
use Rattle.ex_generations.proofs.Extremes.{highest_more, highest_skip}
use Rattle.ex_generations.proofs.search.highest.Goals.{then-file-deleted, else-file-deleted}
use Rattle.ex_generations.proofs.search.highest.Goals as goal

pub loop-file-preserved : goal.loop-file-preserved
loop-file-preserved c =
    elim c.if-file-deleted.branch [
      | then-file-deleted w ↦ rw w.highest-is (highest_more c.args.deleted c.args.files.now c.loop-file.file-index c.file-item.result c.loop-file.highest c.requires c.loop-file-test.true c.file-item.is (beq-true _ _ w.if-file-deleted.true) ∙ c.loop-file.invariant)
      | else-file-deleted w ↦ rw w.highest-is (highest_skip c.args.deleted c.args.files.now c.loop-file.file-index c.file-item.result c.loop-file.highest c.loop-file-test.true c.file-item.is w.if-file-deleted.false ∙ c.loop-file.invariant)
    ]
