use Rattle.ex_store.specs.declared.row.Row.{Row}
use Rattle.ex_store.proofs.DraftLaws.{row_is_lawful, row_is_short}
use Rattle.ex_store.proofs.draft.Draft.file.Goals as goal

pub new-requires : goal.new-requires
new-requires c =
    let row : Row = record {
      key = record { directory = c.args.directory.now; name = c.args.name.now; kind = c.args.kind.now };
      file = c.args.file;
    } in
    (row_is_short c.args.self.now.directories c.args.self.now.rows row c.requires.directories_within c.requires.rows.within).directory

pub new-requires-3 : goal.new-requires-3
new-requires-3 c =
    let row : Row = record {
      key = record { directory = c.args.directory.now; name = c.args.name.now; kind = c.args.kind.now };
      file = c.args.file;
    } in
    (row_is_short c.args.self.now.directories c.args.self.now.rows row c.requires.directories_within c.requires.rows.within).kind

pub push-requires-clause-short : goal.push-requires-clause-short
push-requires-clause-short c = (row_is_lawful c.args.self.now.directories c.args.self.now.rows _ c.requires.rows.within).1

pub push-requires-clause-number : goal.push-requires-clause-number
push-requires-clause-number c = (row_is_lawful c.args.self.now.directories c.args.self.now.rows _ c.requires.rows.within).0
