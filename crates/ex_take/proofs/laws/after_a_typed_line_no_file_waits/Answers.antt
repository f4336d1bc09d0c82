use Rattle.std.proofs.Common.{refl}
use Rattle.ex_take.proofs.QuietKeys.{step_quiet}
use Rattle.ex_take.proofs.laws.after_a_typed_line_no_file_waits.Goals as goal

pub returns-clause-start : goal.returns-clause-start
returns-clause-start c = λ state. record { files = refl; taken = refl; waits = tt }

pub returns-clause-step : goal.returns-clause-step
returns-clause-step c = step_quiet
