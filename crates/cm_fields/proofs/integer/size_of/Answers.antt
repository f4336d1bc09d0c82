use Rattle.std.proofs.Common.{arith, ◌+◌}
use Rattle.std.proofs.lemmas.Str.Parse.{digits_value-take-le}
use Rattle.cm_fields.proofs.Numerals.{one_digit_more, too_large}
use Rattle.cm_fields.proofs.integer.size_of.Goals as goal

pub returns-then-size-gt-NUMBER_LIMIT-clause-value : goal.returns-then-size-gt-NUMBER_LIMIT-clause-value
returns-then-size-gt-NUMBER_LIMIT-clause-value c =
    let more = one_digit_more c.args.base c.args.digits.now c.loop-digit.digit-index c.loop-digit.size c.loop-digit-test.true c.loop-digit.invariant.value in
    let most = digits_value-take-le c.args.base c.args.digits.now (c.loop-digit.digit-index + 1) c.requires.least in
    too_large _ (omega (arith, more, most, c.digit_value.ensures.value, c.if-size-gt-NUMBER_LIMIT.true))

pub loop-digit-preserved : goal.loop-digit-preserved
loop-digit-preserved c =
    let more = one_digit_more c.args.base c.args.digits.now c.loop-digit.digit-index c.loop-digit.size c.loop-digit-test.true c.loop-digit.invariant.value in
    record { value = omega (arith, more, c.digit_value.ensures.value); small = omega (arith, c.if-size-gt-NUMBER_LIMIT.false) }
