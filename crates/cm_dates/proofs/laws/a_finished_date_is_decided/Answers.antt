use Rattle.std.proofs.Common.{refl}
use Rattle.cm_text.specs.Bytes.{is_word}
use Rattle.cm_dates.specs.Date.{date_of}
use Rattle.cm_fields.proofs.LineEnds.{run_decides}
use Rattle.cm_dates.proofs.laws.a_finished_date_is_decided.Goals as goal

pub returns : goal.returns
unfolding is_word
returns c = run_decides is_word (λ at. date_of) refl
