-- A match with one call an arm, under unfolding(act_of). A function without a store or a moment says its clause over
-- all of them, so the answer of its arm is one line.
use Rattle.ex_commands.specs.Act.{act_of}
use Rattle.ex_commands.proofs.acts.do_command.Goals as goal

pub returns-in-CopyTty : goal.returns-in-CopyTty
unfolding act_of
returns-in-CopyTty g c = rw c.in-CopyTty.is (c.begin.ensures c.args.store.now.state)
