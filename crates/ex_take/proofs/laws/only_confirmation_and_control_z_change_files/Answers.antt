use Rattle.cm_run.proofs.LineTurns.{confirmed_by_end}
use Rattle.ex_take.specs.Exec.{exec_semantics}
use Rattle.ex_take.proofs.Changes.{raw_key_keeps, unconfirmed_keeps}
use Rattle.ex_take.proofs.laws.only_confirmation_and_control_z_change_files.Goals as goal

pub returns-clause-line : goal.returns-clause-line
returns-clause-line c = unconfirmed_keeps

pub returns-clause-confirmed : goal.returns-clause-confirmed
returns-clause-confirmed c = confirmed_by_end exec_semantics

pub returns-clause-typing : goal.returns-clause-typing
returns-clause-typing c = raw_key_keeps
