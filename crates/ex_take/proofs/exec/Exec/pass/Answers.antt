use Rattle.std.proofs.Common.{arith}
use Rattle.ex_take.proofs.exec.Exec.pass.Goals as goal

pub push-requires : goal.push-requires
push-requires c = (omega arith, omega (arith, c.in-Some.ensures.len, c.len.ensures.fits, c.len.ensures.value))
