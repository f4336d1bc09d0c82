use Rattle.cm_state.proofs.Starts.{new_is_ready}
use Rattle.cm_state.proofs.session.Session.new.Goals as goal

pub returns-clause-ready : goal.returns-clause-ready
returns-clause-ready c = λ s none. new_is_ready s none _ _ _ c.started.ensures
