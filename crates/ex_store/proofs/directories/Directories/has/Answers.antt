use Rattle.std.proofs.Common.{ap, is_some, sym, ◌∙◌}
use Rattle.std.specs.Map.{lookup}
use Rattle.std.specs.Str.{bytes_eq}
use Rattle.cm_lists.proofs.Positions.{lookup_turned}
use Rattle.ex_store.specs.State.{has_directory}
use Rattle.ex_store.proofs.EntriesLaws.{has_entry, has_long}
use Rattle.ex_store.proofs.directories.Directories.has.Goals as goal

pub returns-in-Some : goal.returns-in-Some
returns-in-Some c =
    let entries = c.self.inside.retentions.entries in
    c.contains_key.ensures
    ∙ (ap (λ name. is_some (lookup (bytes_eq name) entries)) c.in-Some.ensures.name
    ∙ (ap is_some (lookup_turned c.args.name.now entries)
    ∙ (has_entry c.args.name.now entries ∙ ap (λ held. has_directory c.args.name.now held.list) c.self.view_is)))

pub returns-in-None : goal.returns-in-None
returns-in-None c =
    sym (has_long c.args.name.now c.args.self.now.list c.in-None.ensures.none (rw (← c.self.view_is) c.self.invariant.short))
