use Rattle.std.proofs.Common.{◌≤◌, length, arith}
use Rattle.std.proofs.lemmas.List.Sums.{prefix_len-le-length}
use Rattle.ex_store.specs.Rows.{first_in}
use Rattle.ex_store.proofs.firsts.first_at.Goals as goal

pub overflow_cast-result : goal.overflow_cast-result
overflow_cast-result c =
    let within : first_in c.as_bytes.result.now c.args.files.now.rows ≤ length c.args.files.now.rows =
    prefix_len-le-length _ c.args.files.now.rows in
    omega (arith, c.first_of.ensures, within, c.requires.few)
