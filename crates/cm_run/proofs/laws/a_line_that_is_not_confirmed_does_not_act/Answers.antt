use Rattle.cm_run.proofs.LineTurns.{abandonment_leads, confirmed_by_end, edit_leads, refusal_leads}
use Rattle.cm_run.proofs.laws.a_line_that_is_not_confirmed_does_not_act.Goals as goal

pub returns-clause-confirmed : goal.returns-clause-confirmed
returns-clause-confirmed g c = confirmed_by_end

pub returns-clause-refused : goal.returns-clause-refused
returns-clause-refused g c = refusal_leads

pub returns-clause-given_up : goal.returns-clause-given_up
returns-clause-given_up g c = abandonment_leads

pub returns-clause-going_on : goal.returns-clause-going_on
returns-clause-going_on g c = edit_leads
