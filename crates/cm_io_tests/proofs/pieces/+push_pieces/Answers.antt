use Rattle.cm_io_tests.proofs.Images.{next_piece}
use Rattle.cm_io_tests.proofs.pieces.+push_pieces.Goals as goal

pub returns-in_ok-extend_from_slice-in-len1-up-2 : goal.returns-in_ok-extend_from_slice-in-len1-up-2
returns-in_ok-extend_from_slice-in-len1-up-2 t c =
    let next = next_piece c.args.bytes.now.items c.args.many c.args.pieces.now _ _ c.in-len1-up.len_at_least
    c.if-many-eq0.false c.in_ok-extend_from_slice-in-len1-up-2.ensures.items in
    rw next at c.push_pieces.ensures
