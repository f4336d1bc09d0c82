use Rattle.std.proofs.Common.{false, sym, ◌∙◌}
use Rattle.ex_commands.proofs.Refusals.{refused_to_list}
use Rattle.ex_commands.proofs.commands.directory.list.Goals as goal

pub returns-in-0 : goal.returns-in-0
returns-in-0 g c =
    refused_to_list _ _ _ c.args.read c.args.files.now.directory _ c.args.store.now.state _ (sym c.in-0.is ∙ c.count_files.ensures)
    (c.refuse.ensures c.args.store.now.state false)
