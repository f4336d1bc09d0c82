use Rattle.std.proofs.Common.{◌≡◌, true}
use Rattle.ex_store.specs.State.{has_directory}
use Rattle.ex_store.proofs.StateLaws.{name_is_short}
use Rattle.ex_store.proofs.store.Store.connect.Goals as goal

pub new-self-inside-requires : goal.new-self-inside-requires
new-self-inside-requires c =
    let there : has_directory c.args.directory.now c.self.inside.directories.list ≡ true = rw (← c.self.view_is) at c.requires in
    name_is_short c.args.directory.now c.self.inside.directories.list c.self.invariant.well.draft.directories_within there
