use Rattle.std.proofs.Common.{ap}
use Rattle.ex_store.specs.State.{StoreWithRoom}
use Rattle.ex_commands.specs.Effect.{pair_lines}
use Rattle.ex_commands.proofs.Plays.{play_done, play_refused}
use Rattle.ex_commands.proofs.plans.play.Goals as goal

pub returns-in-Ok : goal.returns-in-Ok
returns-in-Ok g c =
    play_done _ _ _ (pair_lines c.args.origin) _ c.in-Ok.ready _ _ _ c.in-Ok.ensures.ready c.prepare.ensures.state c.put_pairs.ensures
    (ap (λ (held : StoreWithRoom). held.state) c.apply.ensures)

pub returns-in-Err-Code : goal.returns-in-Err-Code
returns-in-Err-Code g c =
    play_refused _ _ _ (pair_lines c.args.origin) _ _ _ _ _ _ _ c.in-Err-Code.ensures.refused c.in-Err-Code.field-0-is c.in-Err-Code.code-is c.prepare.ensures.state
    (c.refuse.ensures _ _)
