use Rattle.std.proofs.Common.{[], Option, find, ap, sym, ◌∙◌}
use Rattle.std.specs.Option.{option_map_or}
use Rattle.ex_generations.specs.declared.file.File.{File}
use Rattle.ex_generations.specs.Generations.{is_generation}
use Rattle.ex_store.specs.declared.family.Family.{Family}
use Rattle.ex_store.proofs.FamilyLaws.{bytes_under}
use Rattle.ex_store.proofs.family.FamilyBox.bytes_at.Goals as goal

pub returns-in-Some : goal.returns-in-Some
returns-in-Some c =
    c.as_slice.ensures
    ∙ ap (λ (it : Option File). option_map_or (λ (file : File). file.bytes) it []) c.in-Some.ensures.found
    ∙ ap (λ (it : Family). option_map_or (λ (file : File). file.bytes) (find (is_generation c.args.generation) it.gens.files) []) (c.deref.ensures ∙ c.self.view_is)
    ∙ sym (bytes_under c.args.self.now.key c.args.generation c.args.self.now.gens.files)

pub returns-in-None : goal.returns-in-None
returns-in-None c =
    ap (λ (it : Option File). option_map_or (λ (file : File). file.bytes) it []) c.in-None.ensures.found
    ∙ ap (λ (it : Family). option_map_or (λ (file : File). file.bytes) (find (is_generation c.args.generation) it.gens.files) []) (c.deref.ensures ∙ c.self.view_is)
    ∙ sym (bytes_under c.args.self.now.key c.args.generation c.args.self.now.gens.files)
