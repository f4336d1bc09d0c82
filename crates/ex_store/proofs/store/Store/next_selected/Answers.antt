use Rattle.std.proofs.Common.{refl, subst, ◌∙◌}
use Rattle.cm_files.specs.Selection.{wanted}
use Rattle.ex_store.specs.WellFormed.{IsWellFormed}
use Rattle.ex_store.proofs.CatalogueLaws.{number_found}
use Rattle.ex_store.proofs.WalkLaws.{walk_selected}
use Rattle.ex_store.proofs.store.Store.next_selected.Goals as goal

pub select-requires : goal.select-requires
select-requires c =
    number_found c.args.self.now.state.directories c.args.files.now.directory c.requires.there c.args.directory
    c.args.files.now.directory c.args.self.now.state.directories c.requires.number refl refl

pub returns : goal.returns
returns c =
    c.select.ensures
    ∙ walk_selected c.args.self.now.state (subst (λ held. IsWellFormed held.state) c.self.view_is c.self.invariant.well) c.args.deleted c.args.files.now c.args.from c.args.directory (wanted c.sought.result)
    c.requires.there c.requires.number c.sought.ensures
