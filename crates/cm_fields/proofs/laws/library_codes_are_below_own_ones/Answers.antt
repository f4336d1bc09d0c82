use Rattle.cm_fields.proofs.Reasons.{library_number, library_text}
use Rattle.cm_fields.proofs.laws.library_codes_are_below_own_ones.Goals as goal

pub returns-clause-numbers : goal.returns-clause-numbers
returns-clause-numbers c = library_number

pub returns-clause-texts : goal.returns-clause-texts
returns-clause-texts c = library_text
