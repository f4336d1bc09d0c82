use Rattle.cm_fields.proofs.Numerals.{range_fits}
use Rattle.cm_fields.proofs.laws.ranges_are_told_whole.Goals as goal

pub returns : goal.returns
returns c = range_fits
