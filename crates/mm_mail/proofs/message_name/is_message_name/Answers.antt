use Rattle.mm_mail.proofs.MessageNames.{is_tested}
use Rattle.mm_mail.proofs.message_name.is_message_name.Goals as goal

pub returns-then-digits-eq-NAME_DIGITS : goal.returns-then-digits-eq-NAME_DIGITS
returns-then-digits-eq-NAME_DIGITS c =
    let is = c.if-digits-eq-NAME_DIGITS.true in
    is_tested c.args.name.now _ _ _ _ c.prefix.ensures c.digits_of-digits.ensures c.starts_with.ensures.value is.0 is.1 c.are_digits.ensures
