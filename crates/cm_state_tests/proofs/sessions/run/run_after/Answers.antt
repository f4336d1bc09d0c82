use Rattle.cm_blocks.specs.Setting.{setting}
use Rattle.cm_state_tests.proofs.sessions.run.run_after.Goals as goal

pub loop-key-init : goal.loop-key-init
loop-key-init g c =
    c.begin.ensures (setting c.args.grammar.now (g.N.Names.catalogue c.args.names.now) (g.R.Rules.meanings c.args.rules.now))
    c.has_no_fault.ensures c.requires.some
