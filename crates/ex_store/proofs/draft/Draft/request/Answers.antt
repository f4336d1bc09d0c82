use Rattle.ex_store.specs.Views.{queue_entry}
use Rattle.ex_store.proofs.DraftLaws.{entry_is_short}
use Rattle.ex_store.proofs.draft.Draft.request.Goals as goal

pub owned-entry-requires-clause-directory : goal.owned-entry-requires-clause-directory
owned-entry-requires-clause-directory c =
    (entry_is_short c.args.self.now.directories c.args.self.now.queue (queue_entry c.args.request)
    c.requires.directories_within c.requires.queue_within).file.directory

pub owned-entry-requires-clause-job : goal.owned-entry-requires-clause-job
owned-entry-requires-clause-job c =
    (entry_is_short c.args.self.now.directories c.args.self.now.queue (queue_entry c.args.request)
    c.requires.directories_within c.requires.queue_within).job
