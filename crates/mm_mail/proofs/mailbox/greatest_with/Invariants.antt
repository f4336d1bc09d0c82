-- The greatest of the numbers so far, and of those from here on.
use Rattle.std.proofs.Common.{◌≡◌, ◌≤◌, max}
use Rattle.ex_store.specs.Selection.{selected}
use Rattle.mm_mail.specs.declared.message_name.TheConstants.{MOST_MESSAGES}
use Rattle.mm_mail.specs.Mailbox.{greatest_among}
use Rattle.mm_mail.proofs.mailbox.greatest_with.Given as goal

abbrev pub invariant-loop-row : goal.invariant-loop-row
invariant-loop-row l = record {
  most : max l.greatest (greatest_among l.row-iterator) ≡ greatest_among (selected l.marked l.place l.store.state);
  few : l.greatest ≤ MOST_MESSAGES;
}
