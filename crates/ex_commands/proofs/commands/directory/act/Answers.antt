use Rattle.ex_commands.proofs.commands.directory.act.Goals as goal

pub returns : goal.returns
returns g c = rw c.if-sub.false (rw c.marked_so.ensures at c.list.ensures)
