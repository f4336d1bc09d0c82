use Rattle.std.proofs.Common.{◌≡◌}
use Rattle.cm_blocks.specs.Setting.{setting}
use Rattle.cm_state.specs.SessionState.{IsReady}
use Rattle.ex_grammar.specs.ExecRules.{exec_meanings}
use Rattle.ex_store.specs.State.{catalogue_of}
use Rattle.ex_commands_tests.proofs.typed.typed.Given as goal

abbrev pub invariant-loop-key : goal.invariant-loop-key
invariant-loop-key g l = record {
  ready : IsReady (setting l.grammar (catalogue_of l.names.state) exec_meanings) l.session;
  node : l.session.node ≡ l.fn.node;
}
