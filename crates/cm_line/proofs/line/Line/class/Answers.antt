use Rattle.std.proofs.Common.{sym, ◌∙◌}
use Rattle.cm_line.proofs.ClassLaws.{none_joins}
use Rattle.cm_line.proofs.line.Line.class.Goals as goal

pub returns-else-eq-clause-join : goal.returns-else-eq-clause-join
returns-else-eq-clause-join c = λ is. absurd (none_joins c.args.key (sym c.of-class.ensures.value ∙ is))
