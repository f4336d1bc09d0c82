use Rattle.std.proofs.Common.{◌∙◌}
use Rattle.cm_tables.proofs.StartLaws.{has_text_first}
use Rattle.cm_tables.proofs.search.has_text.Goals as goal

pub returns : goal.returns
returns c =
    c.is_first.ensures.value
    ∙ has_text_first c.args.atom.now c.args.entries.now c.from_first.result.0 c.from_first.result.1.now c.from_first.ensures.first
