use Rattle.cm_run.proofs.Counts.{line_is_all, run_is_counted}
use Rattle.cm_run.proofs.laws.the_counter_is_the_sum_over_the_keys.Goals as goal

pub returns-clause-sum : goal.returns-clause-sum
returns-clause-sum g c = run_is_counted

pub returns-clause-line : goal.returns-clause-line
returns-clause-line g c = line_is_all
