use Rattle.std.proofs.Common.{◌≡◌, [], length, ap, arith, rules, sym, subst, ◌∙◌}
use Rattle.ex_store.specs.Selection.{IsNumber}
use Rattle.ex_store.proofs.SelectionLaws.{none_left}
use Rattle.ex_store.proofs.selection.SelectionIterator.next.Goals as goal

pub returns-in_err-directory-clause-steps : goal.returns-in_err-directory-clause-steps
returns-in_err-directory-clause-steps c =
    let state = c.self.inside.store.now.state in
    let none : c.args.self.now ≡ [] =
    sym c.self.view_is
    ∙ none_left c.self.inside.deleted c.self.inside.files.now state c.self.inside.from
    (subst (IsNumber c.self.inside.files.now.directory state) c.in_err-directory.was c.self.invariant.number) in
    rw c.from_residual.ensures (none, none)

pub returns-in_err-at-clause-steps : goal.returns-in_err-at-clause-steps
returns-in_err-at-clause-steps c =
    let none : c.args.self.now ≡ [] = sym c.self.view_is ∙ c.in_err-at.ensures in
    rw c.from_residual-in_err-at.ensures (none, none)

pub overflow_add-self : goal.overflow_add-self
overflow_add-self c = omega (arith, c.in_ok-at.ensures.1)

pub invariant_of-self : goal.invariant_of-self
invariant_of-self c = record { number = c.self.invariant.number; few = omega (arith, c.in_ok-at.ensures.1) }

pub returns-clause-steps : goal.returns-clause-steps
returns-clause-steps c = sym c.self.view_is ∙ c.in_ok-at.ensures.0

pub returns-clause-goes : goal.returns-clause-goes
returns-clause-goes c =
    let shorter = ap length (sym c.self.view_is ∙ c.in_ok-at.ensures.0) in
    search rules
