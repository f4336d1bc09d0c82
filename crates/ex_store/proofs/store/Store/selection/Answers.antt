use Rattle.std.proofs.Common.{arith, subst}
use Rattle.ex_store.specs.Selection.{IsNumber}
use Rattle.ex_store.specs.WellFormed.{IsWellFormed}
use Rattle.ex_store.proofs.SelectionLaws.{selected_all, selected_few, selected_lawful}
use Rattle.ex_store.proofs.store.Store.selection.Goals as goal

pub invariant_of-result : goal.invariant_of-result
invariant_of-result c = record {
  number = subst (λ text. IsNumber text c.args.self.now.state c.find_directory.result) c.as_str.ensures.value c.find_directory.ensures;
  few = omega arith;
}

pub returns-clause-value : goal.returns-clause-value
returns-clause-value c = selected_all c.args.deleted c.args.files.now c.args.self.now.state

pub returns-clause-lawful : goal.returns-clause-lawful
returns-clause-lawful c =
    selected_lawful c.args.deleted c.args.files.now c.args.self.now.state
    (subst (λ held. IsWellFormed held.state) c.self.view_is c.self.invariant.well)

pub returns-clause-few : goal.returns-clause-few
returns-clause-few c =
    selected_few c.args.deleted c.args.files.now c.args.self.now.state
    (subst (λ held. IsWellFormed held.state) c.self.view_is c.self.invariant.well)
