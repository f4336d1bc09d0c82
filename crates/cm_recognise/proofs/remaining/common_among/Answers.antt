use Rattle.std.proofs.Common.{◌≤◌, ℕ, List, Some, ap, length, subst, sym, ◌∙◌}
use Rattle.std.specs.Option.{IfSome, option_copied, option_map_or}
use Rattle.cm_text.specs.declared.name.TheConstants.{NAME_LIMIT}
use Rattle.cm_tables.specs.Common.{shared_letters}
use Rattle.cm_blocks.specs.Once.{fields_at}
use Rattle.cm_recognise.specs.Remaining.{remains}
use Rattle.cm_recognise.proofs.Choices.{is_candidate, shares_here, shares_not}
use Rattle.cm_recognise.proofs.remaining.common_among.Goals.{else-is_choice, then-is_choice}
use Rattle.cm_recognise.proofs.remaining.common_among.Goals as goal

pub loop-position-preserved : goal.loop-position-preserved
loop-position-preserved c =
    let left = remains c.args.grammar.now (fields_at c.args.fields.now) c.args.block.now in
    let test = is_candidate c.args.atom.now in
    elim c.if-is_choice.branch [
      | then-is_choice w ↦ record {
        same =
            shares_here left test c.args.table.now c.args.atom.now c.loop-position.position c.entry-entry.result.now
            (option_copied c.loop-position.found) (option_copied c.if-is_choice.found) _ c.entry-entry.ensures
            (sym c.is_choice.ensures ∙ w.if-is_choice.true)
            (ap option_copied w.found-is
            ∙ ap (λ (text : List ℕ). Some text)
            (w.shared_with.ensures.value
            ∙ ap (λ (text : List ℕ). option_map_or (λ before. shared_letters before text) (option_copied c.loop-position.found) text)
            w.rest.ensures.value))
            c.loop-position.invariant.same;
        short =
            subst (λ found. IfSome (option_copied found) (λ text. length text ≤ NAME_LIMIT)) (sym w.found-is)
            w.shared_with.ensures.within;
      }
      | else-is_choice w ↦ record {
        same =
            shares_not left test c.args.table.now c.args.atom.now c.loop-position.position c.entry-entry.result.now
            (option_copied c.loop-position.found) (option_copied c.if-is_choice.found) _ c.entry-entry.ensures
            (sym c.is_choice.ensures ∙ w.if-is_choice.false) (ap option_copied w.found-is) c.loop-position.invariant.same;
        short =
            subst (λ found. IfSome (option_copied found) (λ text. length text ≤ NAME_LIMIT)) (sym w.found-is)
            c.loop-position.invariant.short;
      }
    ]
