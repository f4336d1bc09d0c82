use Rattle.cm_blocks.proofs.Parses.{parse_of_parses, parses_are_parse_of}
use Rattle.cm_blocks.proofs.laws.one_parse.Goals as goal

pub returns-clause-is_one : goal.returns-clause-is_one
returns-clause-is_one c = parse_of_parses

pub returns-clause-no_other : goal.returns-clause-no_other
returns-clause-no_other c = parses_are_parse_of
