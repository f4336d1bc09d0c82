use Rattle.std.proofs.Common.{refl, rules}
use Rattle.cm_io.proofs.Writers.{holds_more}
use Rattle.cm_io.proofs.writer.Writer.put_decimal.Goals as goal

pub returns-then-room-ge-DIGIT_LIMIT : goal.returns-then-room-ge-DIGIT_LIMIT
returns-then-room-ge-DIGIT_LIMIT g c = holds_more g.S.Sink _ _ _ refl refl refl (search rules)
