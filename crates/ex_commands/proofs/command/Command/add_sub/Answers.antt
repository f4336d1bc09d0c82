use Rattle.ex_commands.proofs.Fits.{names_are_short}
use Rattle.ex_commands.proofs.command.Command.add_sub.Goals as goal

pub extend-requires : goal.extend-requires
extend-requires c = names_are_short c.requires.parse.0 _ _ _ c.requires.parse.1
