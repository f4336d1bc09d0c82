use Rattle.std.proofs.Common.{refl}
use Rattle.ex_batch.proofs.LawLemmas.{barred_stopped, parse_stopped, text_stopped}
use Rattle.ex_batch.proofs.laws.a_refused_line_changes_nothing.Goals as goal

pub returns-clause-files : goal.returns-clause-files
returns-clause-files c = λ at code. refl

pub returns-clause-text : goal.returns-clause-text
returns-clause-text c = text_stopped

pub returns-clause-parse : goal.returns-clause-parse
returns-clause-parse c = parse_stopped

pub returns-clause-barred : goal.returns-clause-barred
returns-clause-barred c = barred_stopped

pub returns-clause-act : goal.returns-clause-act
returns-clause-act c = c.a_refused_line_changes_nothing.ensures.act
