use Rattle.std.proofs.Common.{ap, ◌∙◌}
use Rattle.ex_store.specs.Ready.{puts_under}
use Rattle.ex_store.proofs.FamilyLaws.{key_own}
use Rattle.ex_store.proofs.room.change_family.Goals as goal

pub put-requires-clause-room : goal.put-requires-clause-room
put-requires-clause-room c =
    c.requires.room c.in-Add.row.key (ap (puts_under c.in-Add.row.key) c.in-Add.is ∙ key_own c.in-Add.row.key)

pub rename-requires-clause-room : goal.rename-requires-clause-room
rename-requires-clause-room c =
    c.requires.room c.in-Move.pair.target.key (ap (puts_under c.in-Move.pair.target.key) c.in-Move.is ∙ key_own c.in-Move.pair.target.key)
