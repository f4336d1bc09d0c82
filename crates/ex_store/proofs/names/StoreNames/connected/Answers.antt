use Rattle.std.proofs.Common.{refl, arith, ap, subst, ◌∙◌}
use Rattle.std.proofs.lemmas.List.{length-map}
use Rattle.ex_store.specs.declared.directory.Directory.{Directory}
use Rattle.ex_store.specs.WellFormed.{IsWellFormed}
use Rattle.ex_store.proofs.CatalogueLaws.{number_found}
use Rattle.ex_store.proofs.names.StoreNames.connected.Goals as goal

-- src/names.rt:93:9
pub overflow_cast-result : goal.overflow_cast-result
overflow_cast-result c =
    let within = number_found c.self.inside.directories.list c.self.inside.connected c.self.invariant.well.connected_there
    c.number_of.result c.as_str.result.now c.self.inside.directories.list c.number_of.ensures c.as_str.ensures.value refl in
    let few = c.self.invariant.well.draft.few_directories in
    let sizes = length-map c.self.inside.directories.list (λ (directory : Directory). directory.name) in
    omega arith

-- src/names.rt:92:5
pub returns-clause-within : goal.returns-clause-within
returns-clause-within c =
    let well = subst (λ held. IsWellFormed held.state) c.self.view_is c.self.invariant.well in
    number_found c.args.self.now.state.directories c.args.self.now.state.connected well.connected_there
    c.number_of.result c.as_str.result.now c.self.inside.directories.list c.number_of.ensures
    (c.as_str.ensures.value ∙ ap (λ held. held.state.connected) c.self.view_is)
    (ap (λ held. held.state.directories) c.self.view_is)
