use Rattle.std.proofs.Common.{◌≡◌, [], subst, sym}
use Rattle.ex_store.specs.State.{State}
use Rattle.ex_spool.specs.Spool.{pages, without_due}
use Rattle.ex_spool.proofs.Queues.{no_pages, same_left}
use Rattle.ex_spool.proofs.laws.what_was_printed_is_printed_no_more.Goals as goal

pub returns-clause-none : goal.returns-clause-none
returns-clause-none c = no_pages

pub returns-clause-same : goal.returns-clause-same
returns-clause-same c = same_left

pub returns-clause-again : goal.returns-clause-again
returns-clause-again c = λ before now next out start second moment result saves outcome known tells files began.
    let is : second ≡ without_due moment start =
    c.what_is_saved_is_read_again.ensures.began before now next out (without_due moment start) second result saves outcome known tells files began in
    subst (λ (it : State). (pages moment it ≡ []) × (without_due moment it ≡ it)) (sym is)
    (no_pages moment start, same_left moment start)
