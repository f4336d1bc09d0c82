use Rattle.std.proofs.Common.{ap, arith, length, length-append, append_assoc}
use Rattle.std.proofs.lemmas.Fmt.{decimal_step}
use Rattle.cm_lists.proofs.Digits.{decimal_of_two, length_decimal_step}
use Rattle.cm_io.proofs.page.+push_digits.Goals as goal

pub push_digit-requires-then-number-lt100-2-clause-room : goal.push_digit-requires-then-number-lt100-2-clause-room
push_digit-requires-then-number-lt100-2-clause-room t c =
    let both = ap length (decimal_of_two c.args.number c.if-number-lt10.false c.if-number-lt100.true) in
    omega (arith, both, c.push_digit-then-number-lt100.ensures.size)

pub returns-then-number-lt100 : goal.returns-then-number-lt100
returns-then-number-lt100 t c =
    let both = decimal_of_two c.args.number c.if-number-lt10.false c.if-number-lt100.true in
    rw (c.push_digit-then-number-lt100-2.ensures.digit, c.push_digit-then-number-lt100.ensures.digit, both) (simp append_assoc)

pub push_digit-requires-2-clause-room : goal.push_digit-requires-2-clause-room
push_digit-requires-2-clause-room t c =
    let before = simp length-append at (ap length c.push_digits.ensures) in
    let step = length_decimal_step c.args.number c.if-number-lt10.false (omega arith) in
    omega (arith, before, step)

pub returns : goal.returns
returns t c =
    let step = decimal_step c.args.number c.if-number-lt10.false (omega arith) in
    rw (c.push_digit-2.ensures.digit, c.push_digits.ensures, step) (simp append_assoc)

pub push_digit-requires-then-number-lt100-clause-room : goal.push_digit-requires-then-number-lt100-clause-room
push_digit-requires-then-number-lt100-clause-room t c =
    let both = ap length (decimal_of_two c.args.number c.if-number-lt10.false c.if-number-lt100.true) in
    omega (arith, both)

pub push_digits-requires : goal.push_digits-requires
push_digits-requires t c =
    let step = length_decimal_step c.args.number c.if-number-lt10.false (omega arith) in
    (omega arith, omega (arith, step))
