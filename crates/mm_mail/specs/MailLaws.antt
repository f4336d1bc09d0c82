-- What the hook of mail completes it takes: it completes nothing.
use Rattle.cm_hooks.specs.Meanings.{IsLawful}
use Rattle.mm_mail.specs.MailRules.{mail_meanings}

pub mail_lawful : IsLawful mail_meanings
mail_lawful = record { completes = λ id atom short. tt }
