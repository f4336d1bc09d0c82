use Rattle.std.proofs.Common.{ap, find, sym, ◌∙◌}
use Rattle.std.specs.Map.{lookup}
use Rattle.std.specs.Option.{option_map}
use Rattle.std.specs.Str.{bytes_eq}
use Rattle.cm_lists.proofs.Positions.{lookup_turned}
use Rattle.ex_store.specs.declared.directory.Directory.{Directory}
use Rattle.ex_store.specs.State.{is_named}
use Rattle.ex_store.proofs.EntriesLaws.{find_long, retention_entry}
use Rattle.ex_store.proofs.directories.Directories.retention.Goals as goal

pub returns-in_err-short : goal.returns-in_err-short
returns-in_err-short c =
    c.from_residual.ensures
    ∙ sym (ap (option_map (λ (directory : Directory). directory.retention))
    (find_long c.args.name.now c.args.self.now.list c.in_err-short.ensures.none (rw (← c.self.view_is) c.self.invariant.short)))

pub returns : goal.returns
returns c =
    let entries = c.self.inside.retentions.entries in
    c.copied.ensures ∙ c.get.ensures.value
    ∙ (ap (λ name. lookup (bytes_eq name) entries) c.in_ok-short.ensures.name
    ∙ (lookup_turned c.args.name.now entries
    ∙ (retention_entry c.args.name.now entries
    ∙ ap (λ held. option_map (λ (directory : Directory). directory.retention) (find (is_named c.args.name.now) held.list)) c.self.view_is)))
