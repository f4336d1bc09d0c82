use Rattle.cm_files.proofs.Trials.{directory_decides, file_decides, user_decides}
use Rattle.cm_files.proofs.laws.finished_texts_are_decided.Goals as goal

pub returns-clause-user : goal.returns-clause-user
returns-clause-user c = user_decides

pub returns-clause-directory : goal.returns-clause-directory
returns-clause-directory c = directory_decides

pub returns-clause-file : goal.returns-clause-file
returns-clause-file c = file_decides
