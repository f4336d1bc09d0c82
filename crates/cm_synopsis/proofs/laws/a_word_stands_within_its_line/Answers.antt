use Rattle.cm_synopsis.proofs.Extents.{words_within}
use Rattle.cm_synopsis.proofs.laws.a_word_stands_within_its_line.Goals as goal

pub returns : goal.returns
returns c = words_within
