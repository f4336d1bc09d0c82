use Rattle.ex_store.specs.declared.limits.TheConstants.{ROW_LIMIT}
use Rattle.ex_store.proofs.PrintedLaws.{few_pairs}
use Rattle.ex_store.proofs.print.queue_files.Goals as goal

pub of_entries-requires : goal.of_entries-requires
of_entries-requires c =
    rw c.in_ok-pairs.ensures (few_pairs c.args.files.now.rows c.args.positions.now ROW_LIMIT c.requires.few)
