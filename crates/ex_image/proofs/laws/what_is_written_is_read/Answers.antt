use Rattle.ex_image.proofs.Versions.{written_read}
use Rattle.ex_image.proofs.laws.what_is_written_is_read.Goals as goal

pub returns : goal.returns
returns c = written_read
