use Rattle.cm_blocks.proofs.Parses.{has_none_twice}
use Rattle.cm_blocks.proofs.laws.a_line_has_an_option_once.Goals as goal

pub returns : goal.returns
returns c = has_none_twice
