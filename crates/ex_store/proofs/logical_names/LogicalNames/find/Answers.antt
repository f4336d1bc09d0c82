use Rattle.std.proofs.Common.{ap, sym, ◌∙◌}
use Rattle.std.specs.Map.{lookup}
use Rattle.std.specs.Option.{option_copied}
use Rattle.std.specs.Str.{bytes_eq}
use Rattle.ex_store.specs.Entries.{directory_for}
use Rattle.ex_store.proofs.KeptNamesLaws.{find_entry, find_none}
use Rattle.ex_store.proofs.logical_names.LogicalNames.find.Goals as goal

pub returns-in_err-kept : goal.returns-in_err-kept
returns-in_err-kept c =
    ap option_copied c.from_residual.ensures
    ∙ sym (find_none c.args.name.now c.args.self.now.list (rw (← c.self.view_is) c.self.invariant.kept) c.in_err-kept.ensures.none)

pub returns : goal.returns
returns c =
    let entries = c.self.inside.directories.entries in
    c.get.ensures.value
    ∙ (ap (λ name. lookup (bytes_eq name) entries) c.in_ok-kept.ensures.kept
    ∙ (find_entry c.args.name.now entries c.self.invariant.kept
    ∙ ap (λ held. directory_for c.args.name.now held.list) c.self.view_is))
