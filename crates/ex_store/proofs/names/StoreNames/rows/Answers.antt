use Rattle.std.proofs.Common.{arith, subst}
use Rattle.ex_store.specs.WellFormed.{IsWellFormed}
use Rattle.ex_store.proofs.RowsInLaws.{rows_between}
use Rattle.ex_store.proofs.CatalogueLaws.{catalogue_lawful}
use Rattle.ex_store.proofs.names.StoreNames.rows.Goals as goal

-- src/names.rt:103:9
pub overflow_sub-result : goal.overflow_sub-result
overflow_sub-result c =
    let well = subst (λ held. IsWellFormed held.state) c.self.view_is c.self.invariant.well in
    let counts = rows_between c.args.self.now.state well c.args.directory c.first_at.result c.end_at.result c.first_at.ensures c.end_at.ensures in
    let whole = counts.0 in
    omega arith

-- src/names.rt:103:9
pub overflow_cast-result : goal.overflow_cast-result
overflow_cast-result c =
    let well = subst (λ held. IsWellFormed held.state) c.self.view_is c.self.invariant.well in
    let counts = rows_between c.args.self.now.state well c.args.directory c.first_at.result c.end_at.result c.first_at.ensures c.end_at.ensures in
    let few = counts.1 in
    omega arith

-- src/names.rt:101:5
pub returns-clause-value : goal.returns-clause-value
returns-clause-value c =
    let well = subst (λ held. IsWellFormed held.state) c.self.view_is c.self.invariant.well in
    let counts = rows_between c.args.self.now.state well c.args.directory c.first_at.result c.end_at.result c.first_at.ensures c.end_at.ensures in
    let whole = counts.0 in
    omega arith

-- src/names.rt:101:5
pub returns-clause-lawful : goal.returns-clause-lawful
returns-clause-lawful c =
    catalogue_lawful c.args.self.now.state (subst (λ held. IsWellFormed held.state) c.self.view_is c.self.invariant.well)
