use Rattle.cm_tables.proofs.ShareLemmas.{common_is_first, common_is_longest, common_is_shared, common_of_none}
use Rattle.cm_tables.proofs.laws.the_common_text_is_the_longest.Goals as goal

pub returns-clause-shared : goal.returns-clause-shared
returns-clause-shared c = common_is_shared

pub returns-clause-longest : goal.returns-clause-longest
returns-clause-longest c = common_is_longest

pub returns-clause-first : goal.returns-clause-first
returns-clause-first c = common_is_first

pub returns-clause-none : goal.returns-clause-none
returns-clause-none c = common_of_none
