use Rattle.ex_generations.proofs.KeptFiles.{Contains-unmarked}
use Rattle.ex_generations.proofs.laws.expunging_keeps_the_unmarked.Goals as goal

pub returns : goal.returns
returns c = Contains-unmarked
