use Rattle.ex_program.proofs.MemoryKeys.{last_takes, past_takes}
use Rattle.ex_program.proofs.laws.memory_is_wanting_where_a_command_takes_it.Goals as goal

pub returns-clause-trace : goal.returns-clause-trace
returns-clause-trace g c = last_takes

pub returns-clause-status : goal.returns-clause-status
returns-clause-status g c = λ form a b before now run keys clock. past_takes _ form a b before now run keys clock
