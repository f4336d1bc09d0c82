use Rattle.std.proofs.Common.{◌≡◌, ◌+◌, ◌≤◌, ℕ, length, Some, ap, subst, sym, ◌∙◌}
use Rattle.std.specs.List.{slice_get}
use Rattle.std.proofs.lemmas.Bool.{ltb-false, ltb-true}
use Rattle.std.proofs.lemmas.Option.{slice_get-get_or}
use Rattle.ex_store.specs.State.{firsts_in}
use Rattle.ex_store.specs.WellFormed.{IsWellFormed}
use Rattle.ex_store.proofs.EndsLaws.{end_none, end_some}
use Rattle.ex_store.proofs.store.Store.end_at.Goals as goal

pub returns-in-Some : goal.returns-in-Some
returns-in-Some c =
    let well = subst (λ held. IsWellFormed held.state) c.self.view_is c.self.invariant.well in
    let firsts : c.deref.result.now ≡ firsts_in c.args.self.now.state.directories c.args.self.now.state.rows =
    c.deref.ensures.0
    ∙ subst (λ held. c.self.inside.firsts.items ≡ firsts_in held.state.directories held.state.rows) c.self.view_is c.self.invariant.places in
    let within = ltb-true _ _ (sym c.in-Some.ensures.lookup.0) in
    let found = slice_get-get_or c.deref.result.now (c.from.result + 1) c.in-Some.first.now within ∙ ap Some (sym c.in-Some.ensures.lookup.1) in
    end_some c.args.self.now.state well c.args.directory c.from-in-Some.result c.deref.result.now firsts
    (ap (λ (n : ℕ). slice_get c.deref.result.now (n + 1)) (sym c.from.ensures) ∙ found ∙ ap Some (sym c.from-in-Some.ensures))

pub returns-in-None : goal.returns-in-None
returns-in-None c =
    let well = subst (λ held. IsWellFormed held.state) c.self.view_is c.self.invariant.well in
    let firsts : c.deref.result.now ≡ firsts_in c.args.self.now.state.directories c.args.self.now.state.rows =
    c.deref.ensures.0
    ∙ subst (λ held. c.self.inside.firsts.items ≡ firsts_in held.state.directories held.state.rows) c.self.view_is c.self.invariant.places in
    let past = ltb-false _ _ (sym c.in-None.ensures.lookup.0) in
    end_none c.args.self.now.state well c.args.directory c.deref.result.now firsts c.requires
    (subst (λ (n : ℕ). length c.deref.result.now ≤ n + 1) c.from.ensures past)
    ∙ ap Some (ap length (sym (ap (λ held. held.state.rows) c.self.view_is)) ∙ sym c.len.ensures)
