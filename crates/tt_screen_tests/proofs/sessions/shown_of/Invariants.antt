use Rattle.cm_blocks.specs.Setting.{setting}
use Rattle.cm_hooks.specs.Meanings.{no_meanings}
use Rattle.cm_state.specs.SessionState.{IsReady}
use Rattle.tt_screen_tests.proofs.sessions.shown_of.Given as goal

-- the session is ready for the next key
abbrev pub invariant-loop-key : goal.invariant-loop-key
invariant-loop-key g l =
    IsReady (setting l.grammar (g.N.Names.catalogue l.names) no_meanings) l.run.session
