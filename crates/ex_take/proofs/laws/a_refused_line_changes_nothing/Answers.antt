use Rattle.std.proofs.Common.{refl}
use Rattle.ex_take.proofs.Refusals.{abandonment_step, acts_left, ahead_left, confirmed_step, end_left, file_line_left, refusal_step, taken_step, write_step}
use Rattle.ex_take.proofs.laws.a_refused_line_changes_nothing.Goals as goal

pub returns-clause-files : goal.returns-clause-files
returns-clause-files c = λ at code. (refl, refl, refl, refl)

pub returns-clause-typed : goal.returns-clause-typed
returns-clause-typed c = refusal_step

pub returns-clause-given_up : goal.returns-clause-given_up
returns-clause-given_up c = abandonment_step

pub returns-clause-commanded : goal.returns-clause-commanded
returns-clause-commanded c = confirmed_step

pub returns-clause-taken : goal.returns-clause-taken
returns-clause-taken c = taken_step

pub returns-clause-written : goal.returns-clause-written
returns-clause-written c = write_step

pub returns-clause-file : goal.returns-clause-file
returns-clause-file c = file_line_left

pub returns-clause-ahead : goal.returns-clause-ahead
returns-clause-ahead c = ahead_left

pub returns-clause-end : goal.returns-clause-end
returns-clause-end c = end_left

pub returns-clause-act : goal.returns-clause-act
returns-clause-act c = acts_left
