use Rattle.std.proofs.Common.{ap, sym}
use Rattle.mm_mail.proofs.Mailboxes.{deletes_none, deletes_one, found_at, marked_at, none_left, some_left}
use Rattle.ex_commands.specs.Act.{Act}
use Rattle.mm_mail.proofs.mailbox.delete.Goals as goal

pub returns-then-is_none : goal.returns-then-is_none
returns-then-is_none g c =
    let state = c.args.store.now.state in
    let none = none_left _ _ _ _ c.next.ensures.steps c.is_none.ensures c.if-is_none.true in
    let same = deletes_none c.args.number state (found_at state _ c.args.number _ _ _ _ c.parts.ensures.lawful c.requires c.parts.ensures.value
    c.connected.ensures c.message_place-place.ensures c.selection.ensures.value none) in
    record { written = rw same c.put_refusal.ensures; state = ap (λ (act : Act). act.state) (sym same) }

pub returns : goal.returns
returns g c =
    let state = c.args.store.now.state in
    let some = some_left _ _ _ _ c.next.ensures.steps c.is_none.ensures c.if-is_none.false in
    let same = deletes_one c.args.number state _ _ (found_at state _ c.args.number _ _ _ _ c.parts.ensures.lawful c.requires c.parts.ensures.value
    c.connected.ensures c.message_place-place.ensures c.selection.ensures.value some.1) in
    record {
      written = rw same c.put_deleted.ensures;
      state = rw (c.mark.ensures.marked, same) (marked_at state _ c.args.number _ _ c.parts.ensures.lawful c.requires c.parts.ensures.value
          c.connected.ensures c.message_place-place.ensures);
    }
