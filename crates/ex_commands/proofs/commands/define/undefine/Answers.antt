use Rattle.std.proofs.Common.{false, ap}
use Rattle.ex_store.specs.State.{StoreWithRoom}
use Rattle.ex_commands.proofs.Refusals.{refused_to_undefine}
use Rattle.ex_commands.proofs.commands.define.undefine.Goals as goal

pub returns-in-Err : goal.returns-in-Err
returns-in-Err g c =
    let clauses = rw c.as_str.ensures.value at c.undefine.ensures in
    refused_to_undefine _ _ _ c.args.name.now c.args.store.now.state _ _ c.in-Err.code _ c.in-Err.is clauses.answer
    (ap (λ (held : StoreWithRoom). held.state) clauses.gone) (c.refuse.ensures c.args.store.now.state false)
