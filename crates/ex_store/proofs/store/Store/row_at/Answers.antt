use Rattle.std.proofs.Common.{arith, ap, subst, ◌∙◌}
use Rattle.ex_store.specs.WellFormed.{IsWellFormed}
use Rattle.ex_store.proofs.RowsInLaws.{row_stands}
use Rattle.ex_store.proofs.store.Store.row_at.Goals as goal

pub overflow_add-first : goal.overflow_add-first
overflow_add-first c =
    let well = subst (λ held. IsWellFormed held.state) c.self.view_is c.self.invariant.well in
    let place = row_stands c.args.self.now.state well c.args.directory c.args.i c.first_at-first.result
    c.self.inside.files.rows c.first_at-first.ensures c.requires.row (ap (λ held. held.state.rows) c.self.view_is) in
    let few = place.2 in
    omega arith

pub find_row-requires : goal.find_row-requires
find_row-requires c =
    let well = subst (λ held. IsWellFormed held.state) c.self.view_is c.self.invariant.well in
    let place = row_stands c.args.self.now.state well c.args.directory c.args.i c.first_at-first.result
    c.self.inside.files.rows c.first_at-first.ensures c.requires.row (ap (λ held. held.state.rows) c.self.view_is) in
    let within = place.0 in
    omega arith

pub returns-clause-row : goal.returns-clause-row
returns-clause-row c =
    let well = subst (λ held. IsWellFormed held.state) c.self.view_is c.self.invariant.well in
    let place = row_stands c.args.self.now.state well c.args.directory c.args.i c.first_at-first.result
    c.self.inside.files.rows c.first_at-first.ensures c.requires.row (ap (λ held. held.state.rows) c.self.view_is) in
    place.1 ∙ c.find_row.ensures.row
