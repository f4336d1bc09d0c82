use Rattle.ex_commands.specs.Command.{is_pending}
use Rattle.ex_take.proofs.Keys.{act_ends, completion_ends, keys_go_on}
use Rattle.ex_take.proofs.Changes.{ends_at_a_line, goes_on_unconfirmed}
use Rattle.ex_take.proofs.LogoutKeys.{step_logout}
use Rattle.ex_take.proofs.laws.only_logout_ends_the_run.Goals as goal

pub returns-clause-key : goal.returns-clause-key
returns-clause-key c = step_logout

pub returns-clause-main : goal.returns-clause-main
returns-clause-main c = act_ends

pub returns-clause-waiting : goal.returns-clause-waiting
returns-clause-waiting c = λ interpreter pending on over. completion_ends interpreter pending (is_pending pending.command) on over

pub returns-clause-typing : goal.returns-clause-typing
returns-clause-typing c = λ interpreter key. keys_go_on interpreter key interpreter.typing

pub returns-clause-line : goal.returns-clause-line
returns-clause-line c = ends_at_a_line

pub returns-clause-confirmed : goal.returns-clause-confirmed
returns-clause-confirmed c = goes_on_unconfirmed
