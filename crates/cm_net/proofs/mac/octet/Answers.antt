use Rattle.std.proofs.Common.{◌+◌, arith}
use Rattle.cm_net.proofs.mac.octet.Goals as goal

pub value_of-requires : goal.value_of-requires
value_of-requires c =
    let place = c.args.place in
    (c.requires.shape.placed place (omega arith)).digit (λ third. omega (arith, third))

pub value_of-requires-2 : goal.value_of-requires-2
value_of-requires-2 c =
    let place = c.args.place in
    (c.requires.shape.placed (place + 1) (omega arith)).digit (λ third. omega (arith, third))
