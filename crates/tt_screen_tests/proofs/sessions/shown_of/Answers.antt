use Rattle.cm_blocks.specs.Setting.{setting}
use Rattle.cm_hooks.specs.Meanings.{no_meanings}
use Rattle.tt_screen_tests.proofs.sessions.shown_of.Goals as goal

pub loop-key-init : goal.loop-key-init
loop-key-init g c =
    c.begin.ensures (setting c.args.grammar.now (g.N.Names.catalogue c.args.names.now) no_meanings)
    c.has_no_fault.ensures c.requires.some
