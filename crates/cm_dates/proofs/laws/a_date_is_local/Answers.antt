use Rattle.cm_text.specs.Bytes.{is_word}
use Rattle.cm_dates.specs.Date.{date_of}
use Rattle.cm_fields.proofs.Runs.{run_is_local}
use Rattle.cm_dates.proofs.laws.a_date_is_local.Goals as goal

pub returns : goal.returns
returns c = run_is_local is_word (λ at. date_of)
