use Rattle.std.proofs.Common.{◌≡◌, true, subst, sym}
use Rattle.std.specs.List.{list_all}
use Rattle.ex_store.specs.State.{State}
use Rattle.ex_commands.specs.Commands.Information.{is_shown}
use Rattle.ex_commands.proofs.Entries.{entries_shown}
use Rattle.ex_commands.proofs.commands.information.put_topic_text.Goals as goal

pub put_entries-requires : goal.put_entries-requires
put_entries-requires g c =
    rw c.queue.ensures
    (subst (λ (state : State). list_all is_shown state.queue ≡ true) (sym c.parts-in-3.ensures.value)
    (entries_shown c.args.store.now.state.directories c.args.store.now.state.queue c.parts-in-3.ensures.lawful.draft.queue_within))
