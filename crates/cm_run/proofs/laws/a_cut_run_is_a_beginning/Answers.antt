use Rattle.cm_run.proofs.Cuts.{traces_log, traces_screen}
use Rattle.cm_run.proofs.laws.a_cut_run_is_a_beginning.Goals as goal

pub returns-clause-screen : goal.returns-clause-screen
returns-clause-screen g c = traces_screen

pub returns-clause-log : goal.returns-clause-log
returns-clause-log g c = traces_log
