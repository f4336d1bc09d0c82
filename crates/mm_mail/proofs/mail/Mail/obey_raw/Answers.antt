use Rattle.std.proofs.Common.{sym, ◌∙◌}
use Rattle.mm_mail.proofs.MessageKeys.{dropped, more, sent_out}
use Rattle.mm_mail.proofs.mail.Mail.obey_raw.Goals as goal

pub returns-in-More-clause-obeys : goal.returns-in-More-clause-obeys
returns-in-More-clause-obeys g c =
    more c.self.inside.store.state c.self.inside.writing c.self.inside.has_ended c.args.self.now c.args.key c.in-Some.message
    (g.S.Sink.contents c.args.screen.now) c.self.view_is (sym c.take.ensures.value ∙ c.in-Some.is) c.take-2.new.self
    c.take-2.ensures.bytes (sym c.take-2.ensures.turn ∙ c.in-More.is)

pub returns-in-Write-clause-obeys : goal.returns-in-Write-clause-obeys
returns-in-Write-clause-obeys g c =
    sent_out c.self.inside.store.state c.self.inside.writing c.self.inside.has_ended c.args.self.now c.args.key c.in-Some.message
    (g.S.Sink.contents c.args.screen.now) c.self.view_is (sym c.take.ensures.value ∙ c.in-Some.is) c.take-2.new.self
    c.take-2.ensures.bytes (sym c.take-2.ensures.turn ∙ c.in-Write.is) c.take.new.self c.take.ensures.after (g.S.Sink.contents c.send.new.screen) c.send.new.self
    c.send.result c.send.ensures.obeys

pub returns-in-Dropped-clause-obeys : goal.returns-in-Dropped-clause-obeys
returns-in-Dropped-clause-obeys g c =
    dropped c.self.inside.store.state c.self.inside.writing c.self.inside.has_ended c.args.self.now c.args.key c.in-Some.message
    (g.S.Sink.contents c.args.screen.now) c.self.view_is (sym c.take.ensures.value ∙ c.in-Some.is) c.take-2.new.self
    c.take-2.ensures.bytes (sym c.take-2.ensures.turn ∙ c.in-Dropped.is) c.take.new.self c.take.ensures.after
