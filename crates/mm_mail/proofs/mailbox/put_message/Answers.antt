use Rattle.mm_mail.proofs.Mailboxes.{found_at, reads_none, reads_one}
use Rattle.mm_mail.proofs.mailbox.put_message.Goals as goal

pub returns-in-Some : goal.returns-in-Some
returns-in-Some g c =
    let state = c.args.store.now.state in
    rw (reads_one c.args.number state _ _ (found_at state _ c.args.number _ _ _ _ c.parts.ensures.lawful c.requires c.parts.ensures.value
    c.connected.ensures c.message_place-place.ensures c.selection.ensures.value c.in-Some.ensures.steps)) c.put_held.ensures

pub returns-in-None : goal.returns-in-None
returns-in-None g c =
    let state = c.args.store.now.state in
    rw (reads_none c.args.number state (found_at state _ c.args.number _ _ _ _ c.parts.ensures.lawful c.requires c.parts.ensures.value
    c.connected.ensures c.message_place-place.ensures c.selection.ensures.value c.in-None.ensures.steps.0)) c.put_refusal.ensures
