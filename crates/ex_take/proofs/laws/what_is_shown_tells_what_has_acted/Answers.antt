use Rattle.ex_take.proofs.Replies.{stands_as_shown}
use Rattle.ex_take.proofs.laws.what_is_shown_tells_what_has_acted.Goals as goal

pub returns : goal.returns
returns c = stands_as_shown
