use Rattle.cm_help.proofs.NameLaws.{all_are_counted, each_matches, first_are_listed}
use Rattle.cm_help.proofs.laws.the_names_that_match_are_listed.Goals as goal

pub returns-clause-each : goal.returns-clause-each
returns-clause-each c = each_matches

pub returns-clause-first : goal.returns-clause-first
returns-clause-first c = first_are_listed

pub returns-clause-all : goal.returns-clause-all
returns-clause-all c = all_are_counted
