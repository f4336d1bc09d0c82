use Rattle.std.proofs.Common.{rules}
use Rattle.std.proofs.lemmas.List.Sorted.{IsPartitionPoint-from_clause}
use Rattle.ex_generations.proofs.Halves.{is_lower, lower_first, place_is}
use Rattle.ex_generations.proofs.search.place.Goals as goal

pub returns-clause-place : goal.returns-clause-place
returns-clause-place c =
    place_is c.args.generation c.args.files.now c.seek.result c.seek.ensures.bound
    (IsPartitionPoint-from_clause (is_lower c.args.generation) c.args.files.now c.seek.result c.seek.ensures.parted
    (lower_first c.args.generation c.args.files.now c.requires) (λ a r f k. search rules))
