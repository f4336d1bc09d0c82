use Rattle.std.proofs.Common.{subst}
use Rattle.ex_store.specs.WellFormed.{IsWellFormed}
use Rattle.ex_store.proofs.CatalogueLaws.{catalogue_lawful}
use Rattle.ex_store.proofs.names.StoreNames.directories.Goals as goal

pub returns-clause-lawful : goal.returns-clause-lawful
returns-clause-lawful c =
    catalogue_lawful c.args.self.now.state (subst (λ held. IsWellFormed held.state) c.self.view_is c.self.invariant.well)
