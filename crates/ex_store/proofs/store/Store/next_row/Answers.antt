use Rattle.std.proofs.Common.{arith, sym, subst, ◌∙◌}
use Rattle.ex_store.specs.Views.{row_of_view}
use Rattle.ex_store.specs.WellFormed.{IsWellFormed}
use Rattle.ex_store.proofs.CatalogueLaws.{number_within}
use Rattle.ex_store.proofs.SelectionLaws.{next_none, next_some, next_within}
use Rattle.ex_store.proofs.store.Store.next_row.Goals as goal

pub returns-in_err-at : goal.returns-in_err-at
returns-in_err-at c =
    rw c.from_residual.ensures
    (next_none c.args.deleted c.args.files.now c.args.self.now.state c.args.from (sym c.in_err-at.was ∙ c.next_selected.ensures))

pub row_at-requires-clause-row : goal.row_at-requires-clause-row
row_at-requires-clause-row c =
    let well = subst (λ held. IsWellFormed held.state) c.self.view_is c.self.invariant.well in
    next_within c.args.deleted c.args.files.now c.args.self.now.state well c.args.from c.in_ok-at.at c.args.directory
    (sym c.in_ok-at.was ∙ c.next_selected.ensures) c.requires.there c.requires.number

pub row_at-requires-clause-directory : goal.row_at-requires-clause-directory
row_at-requires-clause-directory c =
    let within = number_within c.args.self.now.state.directories c.args.files.now.directory c.requires.there in
    omega (arith, within, c.requires.number)

pub returns : goal.returns
returns c =
    let well = subst (λ held. IsWellFormed held.state) c.self.view_is c.self.invariant.well in
    next_some c.args.deleted c.args.files.now c.args.self.now.state well c.args.from c.in_ok-at.at c.args.directory
    (row_of_view c.row_at.result) (sym c.in_ok-at.was ∙ c.next_selected.ensures) c.requires.there c.requires.number c.row_at.ensures.row
