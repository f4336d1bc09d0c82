use Rattle.mm_mail.proofs.Mailboxes.{greatest_at}
use Rattle.mm_mail.proofs.mailbox.greatest.Goals as goal

pub returns-clause-value : goal.returns-clause-value
returns-clause-value c =
    greatest_at c.args.store.now.state c.args.directory.now _ _ _ _ c.parts.ensures.lawful c.numbered_place-place.ensures
    c.greatest_with.ensures.value c.greatest_with-2.ensures.value c.max.ensures
