use Rattle.cm_blocks.specs.Setting.{setting}
use Rattle.cm_state.specs.SessionState.{IsReady}
use Rattle.cm_state_tests.proofs.sessions.run.run_after.Given as goal

-- the session is ready for the next key
abbrev pub invariant-loop-key : goal.invariant-loop-key
invariant-loop-key g l =
    IsReady (setting l.grammar (g.N.Names.catalogue l.names) (g.R.Rules.meanings l.rules)) l.run.session
