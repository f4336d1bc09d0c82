use Rattle.std.proofs.Common.{refl, ap}
use Rattle.ex_store.specs.State.{StoreWithRoom}
use Rattle.ex_commands.proofs.commands.expunge.expunge.Goals as goal

pub returns : goal.returns
returns g c =
    let clauses = rw c.as_str.ensures.value at c.expunge-pages.ensures in
    let reply = rw (c.as_str-2.ensures.value, clauses.pages) at c.put_freed.ensures in
    record { answer_is = refl; reply = reply; state = ap (λ (held : StoreWithRoom). held.state) clauses.kept }
