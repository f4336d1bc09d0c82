use Rattle.std.proofs.Common.{◌≡◌, ◌≤◌, length, Some, None, arith, cond, sym, subst, ◌∙◌}
use Rattle.std.proofs.lemmas.List.Sums.{prefix_len-le-length}
use Rattle.ex_store.specs.State.{StoreWithRoom, has_directory, number_of}
use Rattle.ex_store.specs.WellFormed.{IsWellFormed}
use Rattle.ex_store.proofs.WalkLaws.{found_there}
use Rattle.ex_store.proofs.SelectionLaws.{is_number}
use Rattle.ex_store.proofs.store.Store.find_directory.Goals as goal

pub returns-in_err-directory : goal.returns-in_err-directory
returns-in_err-directory c =
    let well = subst (λ held. IsWellFormed held.state) c.self.view_is c.self.invariant.well in
    let told = subst (λ (held : StoreWithRoom). c.find.result
    ≡ cond (has_directory c.args.name.now held.state.directories) (Some (number_of c.args.name.now held.state.directories)) None)
    c.self.view_is c.find.ensures in
    is_number c.args.self.now.state well c.args.name.now c.from_residual.result
    (c.from_residual.ensures ∙ sym c.in_err-directory.was ∙ told)

pub overflow_cast-result : goal.overflow_cast-result
overflow_cast-result c =
    let directories = c.self.inside.directories.list in
    let within : number_of c.args.name.now directories ≤ length directories = prefix_len-le-length _ directories in
    let number = (found_there c.args.name.now directories c.in_ok-directory.directory
    (sym c.in_ok-directory.was ∙ c.find.ensures)).1 in
    omega (arith, within, number, c.self.invariant.well.draft.few_directories)

pub returns : goal.returns
returns c =
    let well = subst (λ held. IsWellFormed held.state) c.self.view_is c.self.invariant.well in
    let told = subst (λ (held : StoreWithRoom). c.find.result
    ≡ cond (has_directory c.args.name.now held.state.directories) (Some (number_of c.args.name.now held.state.directories)) None)
    c.self.view_is c.find.ensures in
    is_number c.args.self.now.state well c.args.name.now (Some c.in_ok-directory.directory) (sym c.in_ok-directory.was ∙ told)
