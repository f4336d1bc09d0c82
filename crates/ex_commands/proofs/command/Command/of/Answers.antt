use Rattle.ex_commands.proofs.Fits.{names_are_short}
use Rattle.ex_commands.proofs.command.Command.of.Goals as goal

pub named-requires : goal.named-requires
named-requires g c = names_are_short _ _ _ _ c.requires.parse
