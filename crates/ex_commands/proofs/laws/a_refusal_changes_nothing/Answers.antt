use Rattle.ex_commands.proofs.Outcomes.{refusal_stays}
use Rattle.ex_commands.proofs.laws.a_refusal_changes_nothing.Goals as goal

pub returns : goal.returns
returns c = refusal_stays
