use Rattle.std.proofs.Common.{arith}
use Rattle.ex_generations.proofs.Ascents.{length-within}
use Rattle.ex_generations.proofs.gens.Gens.len.Goals as goal

pub overflow_cast-result : goal.overflow_cast-result
overflow_cast-result c =
    omega (arith, c.self.inside.files.ok.0, length-within c.self.inside.files.items 0 (omega arith) c.self.invariant)
