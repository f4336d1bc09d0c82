use Rattle.std.proofs.Common.{sym, ◌∙◌}
use Rattle.cm_blocks.specs.Once.{fields_at, may_come}
use Rattle.cm_help.proofs.Entries.{choice_passes}
use Rattle.cm_help.proofs.phrase.first_choice.Goals as goal

pub loop-position-preserved : goal.loop-position-preserved
loop-position-preserved c =
    sym (choice_passes (may_come c.args.grammar.now (fields_at c.args.fields.now) c.args.block.now) c.args.table.now
    c.loop-position.from c.args.atom.now c.in-Some.position (sym c.in-Some.ensures.value) c.in-Some.ensures.within.1
    (sym c.may_come.ensures ∙ c.if-may_come.false)) ∙ c.loop-position.invariant
