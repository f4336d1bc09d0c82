use Rattle.std.proofs.Common.{refl, sym, ◌∙◌}
use Rattle.std.proofs.lemmas.Bool.{both_ways}
use Rattle.ex_generations.specs.Generations.{rewritten}
use Rattle.ex_generations.proofs.Places.{IsAscending-set, absent-from_position, set_is}
use Rattle.ex_generations.proofs.change.rewrite.Goals as goal

pub returns-clause-changed : goal.returns-clause-changed
returns-clause-changed c =
    rw c.fill.ensures (set_is c.args.generation (rewritten c.args.moment c.args.bytes) c.args.files.now c.in-Some.at c.index-files-at.result c.requires.ascending (sym c.position.ensures.place ∙ c.in-Some.is))

pub returns-clause-ascending : goal.returns-clause-ascending
returns-clause-ascending c =
    rw c.fill.ensures (IsAscending-set c.args.generation (rewritten c.args.moment c.args.bytes) c.args.files.now c.in-Some.at c.index-files-at.result (λ other. refl) (λ other short. c.requires.short) c.requires.ascending (sym c.position.ensures.place ∙ c.in-Some.is))

pub unreachable-requires : goal.unreachable-requires
unreachable-requires c =
    both_ways _ (absent-from_position c.args.generation c.args.files.now (sym c.position.ensures.place ∙ c.in-None.is)) c.requires.there
