use Rattle.std.proofs.Common.{◌∙◌}
use Rattle.ex_generations.proofs.Halves.{has_position}
use Rattle.ex_generations.proofs.search.has.Goals as goal

pub returns : goal.returns
returns c =
    c.is_some.ensures ∙ has_position c.args.generation c.args.files.now c.position.result c.position.ensures.place
