use Rattle.cm_files.proofs.Trials.{directory_is_local, file_is_local, user_is_local}
use Rattle.cm_files.proofs.laws.trials_are_local.Goals as goal

pub returns-clause-user : goal.returns-clause-user
returns-clause-user c = user_is_local

pub returns-clause-directory : goal.returns-clause-directory
returns-clause-directory c = directory_is_local

pub returns-clause-file : goal.returns-clause-file
returns-clause-file c = file_is_local
