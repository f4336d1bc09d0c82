use Rattle.std.proofs.lemmas.Bool.Decides.{same_from_decides}
use Rattle.std.proofs.lemmas.Slice.Eq.{bytes_eq-Decides}
use Rattle.cm_text.specs.Case.{equals}
use Rattle.cm_text.proofs.case.equals.Goals as goal

pub returns : goal.returns
unfolding equals
returns c = same_from_decides _ _ c.eq_ignore_ascii_case.ensures.test (bytes_eq-Decides _ _)
