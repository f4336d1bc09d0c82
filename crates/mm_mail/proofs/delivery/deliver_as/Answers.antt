use Rattle.std.proofs.Common.{ap, subst, sym, ◌∙◌}
use Rattle.ex_store.specs.declared.place.Place.{Place}
use Rattle.ex_store.specs.Plan.{IsTarget}
use Rattle.ex_store.specs.State.{StoreWithRoom}
use Rattle.mm_mail.proofs.Deliveries.{delivered, is_target, refused}
use Rattle.mm_mail.proofs.delivery.deliver_as.Goals as goal

pub prepare-requires : goal.prepare-requires
prepare-requires g c =
    subst (λ (to : Place). IsTarget to c.args.store.now.state.directories) (sym c.message_place.ensures)
    (is_target c.args.store.now.state.directories c.args.message.now.receiver c.args.number c.requires.there)

pub returns-in-Ok : goal.returns-in-Ok
returns-in-Ok g c =
    let done = delivered g.S.Sink c.args.out.now c.put_sent.new.out c.args.message.now c.args.store.now.state
    c.prepare.new.self.state c.apply.new.self.state c.args.number c.message_place.result c.new.result
    c.as_bytes.result.now c.in-Ok.ready c.message_place.ensures (c.new.ensures ∙ c.in_ok-message_bytes.ensures)
    c.in-Ok.ensures.ready c.prepare.ensures.state c.as_bytes.ensures.value c.put_sent.ensures
    (ap (λ (held : StoreWithRoom). held.state) c.apply.ensures) in
    record { written = done.reply; state = done.state; unwritten = tt; same = tt }

pub returns-in-Err-Code : goal.returns-in-Err-Code
returns-in-Err-Code g c =
    let done = refused g.S.Sink c.args.out.now c.put_refusal.new.out c.args.message.now c.args.store.now.state
    c.prepare.new.self.state c.args.number c.message_place.result c.new.result c.in-Err-Code.field-0 c.in-Err-Code.code
    c.message_place.ensures (c.new.ensures ∙ c.in_ok-message_bytes.ensures) c.in-Err-Code.ensures.refused
    c.in-Err-Code.field-0-is c.prepare.ensures.state c.put_refusal.ensures in
    record { written = done.reply; state = done.state; unwritten = tt; same = tt }
