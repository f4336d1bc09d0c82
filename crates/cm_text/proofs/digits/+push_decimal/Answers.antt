use Rattle.std.proofs.Common.{ap, arith, length, length-append, append_assoc}
use Rattle.std.proofs.lemmas.Fmt.{decimal_step}
use Rattle.cm_lists.proofs.Digits.{length_decimal_step}
use Rattle.cm_text.proofs.digits.+push_decimal.Goals as goal

pub push_digit-requires-else-number-lt10-clause-room : goal.push_digit-requires-else-number-lt10-clause-room
push_digit-requires-else-number-lt10-clause-room t c =
    let before = simp length-append at (ap length c.push_decimal.ensures) in
    let step = length_decimal_step c.args.number c.if-number-lt10.false (omega arith) in
    omega (arith, before, step)

pub returns-else-number-lt10 : goal.returns-else-number-lt10
returns-else-number-lt10 t c =
    let step = decimal_step c.args.number c.if-number-lt10.false (omega arith) in
    rw (c.push_digit-else-number-lt10.ensures, c.push_decimal.ensures, step) (simp append_assoc)
