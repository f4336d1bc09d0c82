use Rattle.cm_hooks.specs.AmongLaws.{among_completes}
use Rattle.cm_hooks.proofs.laws.completions_among_names_are_taken.Goals as goal

pub returns : goal.returns
returns c = among_completes
