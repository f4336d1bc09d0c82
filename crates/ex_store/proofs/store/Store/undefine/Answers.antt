use Rattle.std.proofs.Common.{not, ap}
use Rattle.cm_text.specs.Case.{equals}
use Rattle.ex_store.proofs.StateLaws.{fewer_well_formed}
use Rattle.ex_store.proofs.store.Store.undefine.Goals as goal

pub invariant_of-self : goal.invariant_of-self
invariant_of-self c =
    rw (ap (λ held. held.list) c.remove.ensures.gone, c.as_bytes.ensures.value)
    (record {
      well = fewer_well_formed _ (λ entry. not (equals entry.name c.args.name.now)) c.self.invariant.well;
      places = c.self.invariant.places;
    })
