use Rattle.ex_image.proofs.ReaderFields.{cut_none, cut_some}
use Rattle.ex_image.proofs.fields.cut.Goals as goal

pub returns-in-empty : goal.returns-in-empty
returns-in-empty c =
    let rest = rw c.part_size.ensures.value at c.split_at.ensures.back in
    cut_none _ _ c.args.bytes.now c.split_at.result.1.now rest c.in-empty.len_below

pub returns-in-len1-up : goal.returns-in-len1-up
returns-in-len1-up c =
    let before = rw c.part_size.ensures.value at c.split_at.ensures.front in
    let rest = rw c.part_size.ensures.value at c.split_at.ensures.back in
    cut_some _ _ c.args.bytes.now _ c.split_at.result.1.now before rest c.in-len1-up.len_at_least
