use Rattle.std.proofs.Common.{ap, sym, ◌∙◌}
use Rattle.cm_blocks.specs.Once.{fields_at, may_come}
use Rattle.cm_io.proofs.Texts.{left_less}
use Rattle.cm_help.proofs.Entries.{choice_comes, choice_passes}
use Rattle.cm_help.specs.Phrase.{entry_lines}
use Rattle.cm_help.proofs.phrase.put_entries.Goals as goal

pub loop-position-preserved-then-not-may_come : goal.loop-position-preserved-then-not-may_come
loop-position-preserved-then-not-may_come g c =
    rw (← choice_passes (may_come c.args.grammar.now (fields_at c.args.fields.now) c.args.block.now) c.args.table.now
    c.loop-position.from c.args.atom.now c.in-Some.position (sym c.in-Some.ensures.value) c.in-Some.ensures.within.1
    (sym c.may_come.ensures ∙ c.if-not-may_come.true)) c.loop-position.invariant

pub loop-position-preserved : goal.loop-position-preserved
loop-position-preserved g c =
    left_less _ _ _ _ _ _ _ _ c.put_entry.ensures c.loop-position.invariant
    (ap (entry_lines c.args.switch)
    (choice_comes (may_come c.args.grammar.now (fields_at c.args.fields.now) c.args.block.now) c.args.table.now
    c.loop-position.from c.args.atom.now c.in-Some.position c.entry.result.now (sym c.in-Some.ensures.value)
    c.entry.ensures (sym c.may_come.ensures ∙ c.if-not-may_come.false)))
