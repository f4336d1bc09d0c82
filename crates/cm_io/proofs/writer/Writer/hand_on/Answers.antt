use Rattle.std.proofs.Common.{rules, refl}
use Rattle.cm_io.proofs.Writers.{hands_on}
use Rattle.cm_io.proofs.writer.Writer.hand_on.Goals as goal

-- the sink is given what is held
pub returns-clause-writes : goal.returns-clause-writes
returns-clause-writes g c =
    hands_on g.S.Sink _ _ refl (search rules) (search rules) c.put-self.ensures.later c.put-self.ensures.cause
    (search rules)
