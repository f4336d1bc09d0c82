use Rattle.std.proofs.Common.{◌∙◌, sym}
use Rattle.cm_tables.proofs.StartLaws.{abbreviated_is_look, exact_is_look}
use Rattle.cm_tables.proofs.search.look.Goals as goal

pub returns-then-is_first-clause-value : goal.returns-then-is_first-clause-value
returns-then-is_first-clause-value c =
    c.exact.ensures
    ∙ exact_is_look c.args.atom.now c.args.entries.now c.from_first-start.result.0 c.from_first-start.result.1.now _
    c.from_first-start.ensures.first (sym c.is_first.ensures.value ∙ c.if-is_first.true)

-- [abbreviation]
pub returns-clause-value : goal.returns-clause-value
returns-clause-value c =
    c.abbreviated.ensures.value
    ∙ abbreviated_is_look c.args.atom.now c.args.entries.now c.from_first-start.result.0 c.from_first-start.result.1.now
    c.from_first-start.ensures.first (sym c.is_first.ensures.value ∙ c.if-is_first.false)
