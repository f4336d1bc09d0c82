use Rattle.std.proofs.Common.{false, sym, ◌∙◌}
use Rattle.ex_commands.proofs.Refusals.{refused_to_begin}
use Rattle.ex_commands.proofs.commands.copy.begin.Goals as goal

pub returns-then-lacks_name : goal.returns-then-lacks_name
returns-then-lacks_name g c = λ state.
    refused_to_begin _ _ _ c.args.to.now state _ (sym c.lacks_name.ensures ∙ c.if-lacks_name.true) (c.refuse.ensures state false)
