use Rattle.cm_tables.proofs.FoundLemmas.{completed_in_any_case, completed_is_exact, found_begins, found_is_recognised}
use Rattle.cm_tables.proofs.laws.a_completed_atom_is_its_entry.Goals as goal

pub returns-clause-recognised : goal.returns-clause-recognised
returns-clause-recognised c = found_is_recognised

pub returns-clause-begins : goal.returns-clause-begins
returns-clause-begins c = found_begins

pub returns-clause-exact : goal.returns-clause-exact
returns-clause-exact c = completed_is_exact

pub returns-clause-in_any_case : goal.returns-clause-in_any_case
returns-clause-in_any_case c = completed_in_any_case
