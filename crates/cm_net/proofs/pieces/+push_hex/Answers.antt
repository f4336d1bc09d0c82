use Rattle.std.proofs.Common.{ap, arith, length, length-append, append_assoc}
use Rattle.cm_net.proofs.Sizes.{hex_fits, hex_step}
use Rattle.cm_net.proofs.pieces.+push_hex.Goals as goal

pub push_digit-requires-else-segment-lt16-clause-room : goal.push_digit-requires-else-segment-lt16-clause-room
push_digit-requires-else-segment-lt16-clause-room t c =
    let before = simp length-append at (ap length c.push_hex.ensures.bytes) in
    let step = simp length-append at (ap length (hex_step c.args.segment c.if-segment-lt16.false (omega arith))) in
    omega (arith, before, step)

pub returns-else-segment-lt16-clause-bytes : goal.returns-else-segment-lt16-clause-bytes
returns-else-segment-lt16-clause-bytes t c =
    let step = hex_step c.args.segment c.if-segment-lt16.false (omega arith) in
    rw (c.push_digit-else-segment-lt16.ensures.bytes, c.push_hex.ensures.bytes, step) (simp append_assoc)

pub push_hex-requires : goal.push_hex-requires
push_hex-requires t c =
    let step = simp length-append at (ap length (hex_step c.args.segment c.if-segment-lt16.false (omega arith))) in
    (omega arith, omega (arith, step))

pub returns-else-segment-lt16-clause-size : goal.returns-else-segment-lt16-clause-size
returns-else-segment-lt16-clause-size t c =
    let before = simp length-append at (ap length (returns-else-segment-lt16-clause-bytes t c)) in
    omega (arith, before, hex_fits c.args.segment)
