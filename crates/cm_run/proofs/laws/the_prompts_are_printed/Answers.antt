use Rattle.cm_run.proofs.Echoes.{prompts_printed}
use Rattle.cm_run.proofs.laws.the_prompts_are_printed.Goals as goal

pub returns-clause-main : goal.returns-clause-main
returns-clause-main c = prompts_printed.0

pub returns-clause-sub : goal.returns-clause-sub
returns-clause-sub c = prompts_printed.1
