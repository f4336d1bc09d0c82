use Rattle.ex_store.proofs.DraftLaws.{definition_is_kept, definition_is_short}
use Rattle.ex_store.proofs.draft.Draft.logical.Goals as goal

pub new-name-requires : goal.new-name-requires
new-name-requires c =
    (definition_is_short c.args.self.now.directories c.args.self.now.logical (record { name = c.args.name.now; directory = c.args.directory.now })
    c.requires.directories_within c.requires.logical_within).0

pub new-directory-requires : goal.new-directory-requires
new-directory-requires c =
    (definition_is_short c.args.self.now.directories c.args.self.now.logical (record { name = c.args.name.now; directory = c.args.directory.now })
    c.requires.directories_within c.requires.logical_within).1

pub push-requires-clause-kept : goal.push-requires-clause-kept
push-requires-clause-kept c =
    rw c.new-name.ensures
    (definition_is_kept c.args.self.now.directories c.args.self.now.logical (record { name = c.args.name.now; directory = c.args.directory.now })
    c.requires.logical_within)
