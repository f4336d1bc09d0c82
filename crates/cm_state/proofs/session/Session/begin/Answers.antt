use Rattle.cm_state.proofs.Starts.{started_is_ready}
use Rattle.cm_state.proofs.session.Session.begin.Goals as goal

pub returns-clause-ready : goal.returns-clause-ready
returns-clause-ready g c = λ s none below. started_is_ready s none c.args.node below _ _ _ c.start.ensures
