use Rattle.std.proofs.Common.{sym, ◌∙◌}
use Rattle.cm_blocks.specs.Once.{fields_at}
use Rattle.cm_recognise.specs.Remaining.{remains}
use Rattle.cm_recognise.proofs.Choices.{is_candidate, none_here, one_here, several_here}
use Rattle.cm_recognise.proofs.remaining.abbreviated_among.Goals.{else-is_choice, then-is_choice+else-is_some}
use Rattle.cm_recognise.proofs.remaining.abbreviated_among.Goals as goal

pub returns-then-is_some : goal.returns-then-is_some
returns-then-is_some c =
    several_here (remains c.args.grammar.now (fields_at c.args.fields.now) c.args.block.now) (is_candidate c.args.atom.now)
    c.args.table.now c.loop-position.position c.entry.result.now c.loop-position.found _ c.entry.ensures
    (sym c.is_choice.ensures ∙ c.if-is_choice.true) (sym c.is_some.ensures ∙ c.if-is_some.true) c.loop-position.invariant

pub loop-position-preserved : goal.loop-position-preserved
loop-position-preserved c =
    let left = remains c.args.grammar.now (fields_at c.args.fields.now) c.args.block.now in
    elim c.if-is_choice.branch [
      | then-is_choice+else-is_some w ↦
          one_here left (is_candidate c.args.atom.now) c.args.table.now c.loop-position.position c.entry.result.now
          c.loop-position.found c.if-is_choice.found _ c.entry.ensures (sym c.is_choice.ensures ∙ w.if-is_choice.true)
          (sym w.is_some.ensures ∙ w.if-is_some.false) w.found-is c.loop-position.invariant
      | else-is_choice w ↦
          none_here left (is_candidate c.args.atom.now) c.args.table.now c.loop-position.position c.entry.result.now
          c.loop-position.found c.if-is_choice.found _ c.entry.ensures (sym c.is_choice.ensures ∙ w.if-is_choice.false) w.found-is
          c.loop-position.invariant
    ]
