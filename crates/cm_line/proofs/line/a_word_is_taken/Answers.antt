use Rattle.cm_line.proofs.WordLemmas.{word_start-lt}
use Rattle.cm_line.proofs.line.a_word_is_taken.Goals as goal

pub returns : goal.returns
returns c = word_start-lt
