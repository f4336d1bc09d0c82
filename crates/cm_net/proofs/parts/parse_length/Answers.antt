use Rattle.std.proofs.Common.{◌≡◌, arith}
use Rattle.cm_lists.proofs.Texts.{bytes_eq_itself}
use Rattle.cm_net.proofs.PartedTexts.{length_is_text, length_read}
use Rattle.cm_net.proofs.parts.parse_length.Goals as goal
use Rattle.cm_net.proofs.parts.parse_length.Goals.{else-length-limit-via-then-length-limit+else-eq, else-length-limit-via-else-length-limit}

pub returns-in_default : goal.returns-in_default
returns-in_default c = λ value is. c.in_default.ensures.cases.0 (length_is_text c.args.limit value c.args.text.now (omega arith) is)

pub returns-in_default-parse : goal.returns-in_default-parse
returns-in_default-parse c = λ value is.
    let read =
    length_read c.args.limit value c.args.text.now c.in-Ok.digits.now c.parse.result (omega arith) is c.in-Ok.ensures.cases.0 c.parse.ensures.value.0 in
    cc (read, c.in_default-parse.is)

pub returns-else-length-limit : goal.returns-else-length-limit
returns-else-length-limit c = λ value is.
    let read =
    length_read c.args.limit value c.args.text.now c.in-Ok.digits.now c.parse.result (omega arith) is c.in-Ok.ensures.cases.0 c.parse.ensures.value.0 in
    let same : c.in-Ok-parse.length ≡ value = cc (read, c.in-Ok-parse.is) in
    let within = is.within in
    elim c.else-length-limit.branch [
      | else-length-limit-via-then-length-limit+else-eq w ↦
          cc (
            bytes_eq_itself c.args.text.now,
            w.eq.ensures,
            w.if-eq.false,
            w.as_bytes.ensures.value,
            w.as_str.ensures.value,
            w.decimal_digits.ensures.digits,
            w.from.ensures,
            same,
            is.spelled,
          )
      | else-length-limit-via-else-length-limit w ↦ omega (arith, same, within)
    ]
