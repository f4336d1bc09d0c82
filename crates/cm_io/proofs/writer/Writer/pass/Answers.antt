use Rattle.std.proofs.Common.{rules, refl}
use Rattle.cm_io.proofs.writer.Writer.pass.Goals as goal
use Rattle.cm_io.proofs.Writers.{passes}

pub returns-then-eq : goal.returns-then-eq
returns-then-eq g c =
    passes g.S.Sink _ _ _ refl (search rules) (search rules) c.put-self.ensures.bytes c.put-self.ensures.later
    c.put-self.ensures.cause refl
