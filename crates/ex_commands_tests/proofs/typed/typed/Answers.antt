use Rattle.std.proofs.Common.{ap}
use Rattle.cm_blocks.specs.Setting.{setting}
use Rattle.cm_state.specs.SessionState.{SessionState}
use Rattle.ex_grammar.specs.ExecRules.{exec_meanings}
use Rattle.ex_store.specs.State.{catalogue_of}
use Rattle.ex_commands_tests.proofs.typed.typed.Goals as goal

pub loop-key-init : goal.loop-key-init
loop-key-init g c = record {
  ready = c.begin.ensures.ready (setting c.args.grammar.now (catalogue_of c.args.names.now.state) exec_meanings) c.has_no_fault.ensures c.requires.node;
  node = ap (λ (held : SessionState). held.node) c.begin.ensures.session;
}
