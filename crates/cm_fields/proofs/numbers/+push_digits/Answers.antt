use Rattle.std.proofs.Common.{ap, arith, length, length-append, List, ℕ, ◌++◌, ◌∷◌, [], ◌∙◌, ◌/◌, ◌%◌, true}
use Rattle.std.specs.Fmt.{digit_glyph}
use Rattle.std.specs.Int.Digits.{digits_of}
use Rattle.std.proofs.Math.Nat.{div-lt_self}
use Rattle.std.proofs.lemmas.Int.Digits.{length-digits_of_step}
use Rattle.std.proofs.lemmas.List.{length-map}
use Rattle.cm_fields.proofs.Numerals.{last_digit_more}
use Rattle.cm_fields.proofs.numbers.+push_digits.Goals as goal

pub push_digits-requires : goal.push_digits-requires
push_digits-requires t c =
    let step = length-digits_of_step c.args.base c.args.size c.requires.least c.if-size-gt0.true in
    let less = div-lt_self c.if-size-gt0.true c.requires.least in
    (omega (arith, less), (omega (arith, step, c.requires.room), (c.requires.least, c.requires.most)))

pub push_digit-requires-clause-room : goal.push_digit-requires-clause-room
push_digit-requires-clause-room t c =
    let before = simp length-append at (ap length c.push_digits.ensures) in
    let digits = length-map (digits_of c.args.base (c.args.size / c.args.base)) (digit_glyph true) in
    let step = length-digits_of_step c.args.base c.args.size c.requires.least c.if-size-gt0.true in
    omega (arith, before, digits, step, c.requires.room)

pub returns-then-size-gt0 : goal.returns-then-size-gt0
returns-then-size-gt0 t c =
    c.push_digit.ensures
    ∙ ap (λ (it : List ℕ). it ++ digit_glyph true (c.args.size % c.args.base) ∷ []) c.push_digits.ensures
    ∙ last_digit_more _ c.args.base c.args.size c.requires.least c.if-size-gt0.true
