use Rattle.ex_program.proofs.AllKeys.{all_counted, all_taken}
use Rattle.ex_program.proofs.laws.a_generated_run_takes_all_its_keys.Goals as goal

pub returns-clause-keys : goal.returns-clause-keys
returns-clause-keys c = all_taken

pub returns-clause-count : goal.returns-clause-count
returns-clause-count c = all_counted
