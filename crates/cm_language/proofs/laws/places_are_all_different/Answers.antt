use Rattle.cm_language.proofs.Differences.{places_differ}
use Rattle.cm_language.proofs.laws.places_are_all_different.Goals as goal

pub returns : goal.returns
returns c = places_differ
