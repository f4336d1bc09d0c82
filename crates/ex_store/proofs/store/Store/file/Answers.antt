use Rattle.std.proofs.Common.{subst, ◌<◌, ℕ}
use Rattle.std.proofs.lemmas.List.{length-map}
use Rattle.ex_store.specs.declared.directory.Directory.{Directory}
use Rattle.ex_store.proofs.RowsInLaws.{catalogue_rows}
use Rattle.ex_store.proofs.store.Store.file.Goals as goal

pub row_at-requires-clause-directory : goal.row_at-requires-clause-directory
row_at-requires-clause-directory c =
    subst (λ (n : ℕ). c.args.directory < n) (length-map c.args.self.now.state.directories (λ (directory : Directory). directory.name)) c.requires.directory

pub row_at-requires-clause-row : goal.row_at-requires-clause-row
row_at-requires-clause-row c =
    subst (λ (n : ℕ). c.args.i < n) (catalogue_rows c.args.self.now.state c.args.directory) c.requires.row
