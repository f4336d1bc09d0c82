use Rattle.std.proofs.Common.{Option, find, option_map, ap, ◌∙◌}
use Rattle.ex_generations.specs.declared.file.File.{File}
use Rattle.ex_generations.specs.Generations.{is_generation}
use Rattle.ex_store.specs.declared.family.Family.{Family}
use Rattle.ex_store.specs.Families.{row_under}
use Rattle.ex_store.proofs.FamilyLaws.{row_at_under}
use Rattle.ex_store.proofs.family.FamilyBox.find.Goals as goal

pub returns : goal.returns
returns c =
    ap (λ (it : Option File). option_map (row_under c.args.self.now.key) it) c.find.ensures.found
    ∙ ap (λ (it : Family). option_map (row_under c.args.self.now.key) (find (is_generation c.args.generation) it.gens.files)) (c.deref.ensures ∙ c.self.view_is)
    ∙ row_at_under c.args.self.now.key c.args.generation c.args.self.now.gens.files
