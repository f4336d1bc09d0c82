use Rattle.cm_fields.proofs.FieldStarts.{open_of_skip, past_of_skip, skip_of_open, skip_of_past}
use Rattle.cm_fields.proofs.laws.skip_passes_blanks_and_comments.Goals as goal

pub returns-clause-past : goal.returns-clause-past
returns-clause-past c = past_of_skip

pub returns-clause-only_past : goal.returns-clause-only_past
returns-clause-only_past c = skip_of_past

pub returns-clause-open_comment : goal.returns-clause-open_comment
returns-clause-open_comment c = open_of_skip

pub returns-clause-only_open : goal.returns-clause-only_open
returns-clause-only_open c = skip_of_open
