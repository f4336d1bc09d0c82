use Rattle.std.proofs.Common.{sym}
use Rattle.cm_run.proofs.Screens.{shown_first}
use Rattle.cm_run.proofs.laws.a_run_shows_what_its_first_keys_show.Goals as goal

pub returns : goal.returns
returns g c = λ m logging state moments first more. record { rest = _; joined = sym (shown_first m logging state moments first more) }
