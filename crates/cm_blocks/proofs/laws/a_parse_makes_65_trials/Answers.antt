use Rattle.cm_blocks.proofs.CountLaws.{trials_are, trials_few}
use Rattle.cm_blocks.proofs.laws.a_parse_makes_65_trials.Goals as goal

pub returns-clause-each : goal.returns-clause-each
returns-clause-each c = trials_are

pub returns-clause-most : goal.returns-clause-most
returns-clause-most c = trials_few
