use Rattle.std.proofs.Common.{refl, rules}
use Rattle.cm_io.proofs.Writers.{holds_more}
use Rattle.cm_io.proofs.writer.Writer.hold.Goals as goal

pub returns : goal.returns
returns g c = holds_more g.S.Sink _ _ _ refl refl refl (search rules)
