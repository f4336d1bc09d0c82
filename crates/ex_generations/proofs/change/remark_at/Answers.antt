use Rattle.ex_generations.proofs.Ascents.{IsAscending-remark}
use Rattle.ex_generations.proofs.change.remark_at.Goals as goal

pub returns-clause-ascending : goal.returns-clause-ascending
returns-clause-ascending c =
    rw c.apply.ensures (IsAscending-remark c.args.files.now 0 c.args.i c.args.remark c.index-files-i.result c.requires.ascending)
