use Rattle.std.proofs.Common.{◌≡◌, ◌≤◌, length, Some, refl, ap, arith, subst, sym, ◌∙◌}
use Rattle.std.proofs.lemmas.List.Sums.{prefix_len-le-length}
use Rattle.std.specs.Option.{option_copied, option_map}
use Rattle.ex_store.specs.Entries.{directory_for}
use Rattle.ex_store.specs.State.{number_of}
use Rattle.ex_store.specs.WellFormed.{IsWellFormed}
use Rattle.ex_store.proofs.CatalogueLaws.{number_found}
use Rattle.ex_store.proofs.LogicalNameLaws.{found_number, found_there}
use Rattle.ex_store.proofs.names.StoreNames.logical.Goals as goal

pub returns-in_err-directory-clause-value : goal.returns-in_err-directory-clause-value
returns-in_err-directory-clause-value c =
    let directories = c.args.self.now.state.directories in
    let none = sym c.find.ensures ∙ ap option_copied c.in_err-directory.was in
    c.from_residual.ensures
    ∙ (ap (option_map (λ directory. number_of directory directories)) (sym none ∙ ap (λ held. directory_for c.args.name.now held.state.logical) c.self.view_is)
    ∙ found_number directories c.args.name.now c.args.self.now.state.logical)

pub overflow_cast-result : goal.overflow_cast-result
overflow_cast-result c =
    let within : number_of c.as_str.result.now c.self.inside.directories.list ≤ length c.self.inside.directories.list =
    prefix_len-le-length _ c.self.inside.directories.list in
    omega (arith, within, c.number_of.ensures, c.self.invariant.well.draft.few_directories)

-- what is found
is : (c : goal.After-number_of) → directory_for c.args.name.now c.args.self.now.state.logical ≡ Some c.as_str.result.now
is c =
    sym (ap (λ held. directory_for c.args.name.now held.state.logical) c.self.view_is)
    ∙ (sym c.find.ensures ∙ ap option_copied c.in_ok-directory.was ∙ ap Some (sym c.as_str.ensures.value))

pub returns-clause-value : goal.returns-clause-value
returns-clause-value c =
    let directories = c.args.self.now.state.directories in
    ap Some (c.number_of.ensures ∙ ap (λ held. number_of c.as_str.result.now held.state.directories) c.self.view_is)
    ∙ (ap (option_map (λ directory. number_of directory directories)) (sym (is c))
    ∙ found_number directories c.args.name.now c.args.self.now.state.logical)

pub returns-clause-within : goal.returns-clause-within
returns-clause-within c =
    let well = subst (λ held. IsWellFormed held.state) c.self.view_is c.self.invariant.well in
    let state = c.args.self.now.state in
    let there = found_there state.directories c.args.name.now c.as_str.result.now state.logical well.draft.logical_within (is c) in
    number_found state.directories c.as_str.result.now there c.number_of.result
    c.as_str.result.now c.self.inside.directories.list c.number_of.ensures refl (ap (λ held. held.state.directories) c.self.view_is)
