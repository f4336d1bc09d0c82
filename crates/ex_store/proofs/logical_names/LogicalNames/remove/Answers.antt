use Rattle.std.proofs.Common.{◌≡◌, List, filter, is_some, not, ap, arith, sym, ◌∙◌}
use Rattle.std.specs.Map.{lookup, remove_entry}
use Rattle.std.specs.Str.{bytes_eq}
use Rattle.cm_lists.proofs.Quantifiers.{all_filter}
use Rattle.cm_text.specs.Case.{equals}
use Rattle.ex_store.specs.declared.directory.Definition.{Definition}
use Rattle.ex_store.specs.Entries.{definitions_of, is_kept}
use Rattle.ex_store.specs.State.{has_definition}
use Rattle.ex_store.proofs.KeptNamesLaws.{find_entry, has_found, none_has, nothing_removed, removed}
use Rattle.ex_store.proofs.logical_names.LogicalNames.remove.Goals as goal

gone : (c : goal.After-is_some) → definitions_of c.shift_remove.new.self.entries
    ≡ filter (λ entry. not (equals entry.name c.args.name.now)) (definitions_of c.self.inside.directories.entries)
gone c =
    let entries = c.self.inside.directories.entries in
    ap definitions_of (c.shift_remove.ensures.entries ∙ ap (λ name. remove_entry (bytes_eq name) entries) c.in-Some.ensures.kept)
    ∙ removed c.args.name.now entries (rw (← c.self.view_is) at c.requires) c.self.invariant.kept

pub invariant_of-self : goal.invariant_of-self
invariant_of-self c = record {
  kept = rw (gone c) (all_filter is_kept (λ entry. not (equals entry.name c.args.name.now)) (definitions_of c.self.inside.directories.entries) c.self.invariant.kept);
  within = omega (arith, c.self.invariant.within, c.shift_remove.ensures.room.0);
}

pub returns-in-Some-clause-found : goal.returns-in-Some-clause-found
returns-in-Some-clause-found c =
    let entries = c.self.inside.directories.entries in
    c.is_some.ensures
    ∙ (ap is_some (c.shift_remove.ensures.value ∙ ap (λ name. lookup (bytes_eq name) entries) c.in-Some.ensures.kept
    ∙ find_entry c.args.name.now entries c.self.invariant.kept)
    ∙ (has_found c.args.name.now (definitions_of entries) ∙ ap (λ held. has_definition c.args.name.now held.list) c.self.view_is))

pub returns-in-Some-clause-gone : goal.returns-in-Some-clause-gone
returns-in-Some-clause-gone c = rw (gone c, ← c.self.view_is)

pub returns-in-None-clause-found : goal.returns-in-None-clause-found
returns-in-None-clause-found c =
    sym (none_has c.args.name.now c.args.self.now.list (rw (← c.self.view_is) c.self.invariant.kept) c.in-None.ensures.none)

pub returns-in-None-clause-gone : goal.returns-in-None-clause-gone
returns-in-None-clause-gone c =
    let none = nothing_removed c.args.name.now c.args.self.now.list (rw (← c.self.view_is) c.self.invariant.kept) c.in-None.ensures.none in
    ap (λ (logical : List Definition). record c.args.self.now { list = logical }) (sym none)
