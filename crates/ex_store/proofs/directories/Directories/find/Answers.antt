use Rattle.std.proofs.Common.{Some, None, cond, position, ap, sym, ◌∙◌}
use Rattle.std.specs.Map.{keys_of}
use Rattle.std.specs.Str.{bytes_eq}
use Rattle.cm_lists.proofs.Positions.{position_turned}
use Rattle.ex_store.specs.State.{has_directory, number_of}
use Rattle.ex_store.proofs.EntriesLaws.{find_entry, has_long}
use Rattle.ex_store.proofs.directories.Directories.find.Goals as goal

pub returns-in_err-short : goal.returns-in_err-short
returns-in_err-short c =
    let none = has_long c.args.name.now c.args.self.now.list c.in_err-short.ensures.none (rw (← c.self.view_is) c.self.invariant.short) in
    c.from_residual.ensures ∙ sym (ap (λ there. cond there (Some (number_of c.args.name.now c.args.self.now.list)) None) none)

pub returns : goal.returns
returns c =
    let entries = c.self.inside.retentions.entries in
    c.get_index_of.ensures.index
    ∙ (ap (λ name. position (bytes_eq name) (keys_of entries)) c.in_ok-short.ensures.name
    ∙ (position_turned c.args.name.now entries
    ∙ (find_entry c.args.name.now entries
    ∙ ap (λ held. cond (has_directory c.args.name.now held.list) (Some (number_of c.args.name.now held.list)) None) c.self.view_is)))
