use Rattle.std.proofs.Common.{List, ap, ◌∙◌}
use Rattle.ex_store.specs.State.{State, has_directory}
use Rattle.ex_store.specs.declared.directory.Directory.{Directory}
use Rattle.mm_mail.proofs.MailKeys.{directories_stay}
use Rattle.mm_mail.proofs.mail.Mail.obey.Goals as goal

pub invariant_of-self : goal.invariant_of-self
invariant_of-self g c = λ message some.
    ap (λ (it : State). has_directory message.receiver it.directories) c.act.ensures.state
    ∙ ap (λ (it : List Directory). has_directory message.receiver it) (directories_stay c.args.command.now c.self.inside.store.state)
    ∙ c.self.invariant message some
