-- A state with one part more: the names of that part are short.
-- Each call of Draft that adds asks that the state with the part is a draft, so its invariant closes with nothing.
use Rattle.std.proofs.Common.{◌≡◌, ℕ, ◌≤◌, true, nat_le, List, [], ◌∷◌, ◌++◌, length}
use Rattle.std.specs.List.{list_all}
use Rattle.std.proofs.lemmas.Bool.{and_from, le-leb, leb-true}
use Rattle.cm_lists.proofs.Bools.{and_first, and_second}
use Rattle.cm_lists.proofs.Quantifiers.{all_last}
use Rattle.cm_text.specs.declared.name.TheConstants.{NAME_LIMIT}
use Rattle.cm_files.proofs.LogicalNames.{short_name}
use Rattle.ex_generations.specs.declared.file.TheConstants.{FILE_LIMIT}
use Rattle.ex_store.specs.declared.directory.Definition.{Definition}
use Rattle.ex_store.specs.declared.directory.Directory.{Directory}
use Rattle.ex_store.specs.declared.key.Key.{Key}
use Rattle.ex_store.specs.declared.queue.QueueEntry.{QueueEntry}
use Rattle.ex_store.specs.declared.row.Row.{Row}
use Rattle.ex_store.specs.Entries.{is_kept}
use Rattle.ex_store.specs.WellFormed.{is_definition_among, is_directory, is_entry_among, is_file_name, is_file_type, is_numbered, is_row_among}
use Rattle.ex_store.proofs.StateLaws.{name_is_short}

short : (name : List ℕ) → nat_le (length name) NAME_LIMIT ≡ true → length name ≤ NAME_LIMIT
short name within = leb-true (length name) NAME_LIMIT within

file_name_is_short : (name : List ℕ) → is_file_name name ≡ true → length name ≤ NAME_LIMIT
file_name_is_short name is = short name (and_second _ _ (and_first _ _ is))

file_type_is_short : (kind : List ℕ) → is_file_type kind ≡ true → length kind ≤ NAME_LIMIT
file_type_is_short kind is = short kind (and_first _ _ is)

-- a logical name that is added, and the directory that it stands for
pub definition_is_short : (directories : List Directory) (entries : List Definition) (entry : Definition) → list_all is_directory directories ≡ true
    → list_all (is_definition_among directories) (entries ++ entry ∷ []) ≡ true
    → (length entry.name ≤ NAME_LIMIT) × (length entry.directory ≤ NAME_LIMIT)
definition_is_short directories entries entry within all =
    let is = all_last (is_definition_among directories) entries entry all in (
      short_name entry.name (and_second _ _ (and_first _ _ is)),
      name_is_short entry.directory directories within (and_first _ _ (and_first _ _ is)),
    )

-- it is in upper case
pub definition_is_kept : (directories : List Directory) (entries : List Definition) (entry : Definition)
    → list_all (is_definition_among directories) (entries ++ entry ∷ []) ≡ true → is_kept entry ≡ true
definition_is_kept directories entries entry all =
    let is = all_last (is_definition_among directories) entries entry all in
    and_from _ _ (le-leb _ _ (short_name entry.name (and_second _ _ (and_first _ _ is)))) (and_second _ _ is)

-- the names of a file
pub record IsShort (key : Key) : Type 0 where
  pub directory : length key.directory ≤ NAME_LIMIT
  pub name : length key.name ≤ NAME_LIMIT
  pub kind : length key.kind ≤ NAME_LIMIT

-- the last of some rows has a number and bytes that a file may have
pub row_is_lawful : (directories : List Directory) (rows : List Row) (row : Row) → list_all (is_row_among directories) (rows ++ row ∷ []) ≡ true
    → (is_numbered row.file.generation ≡ true) × (length row.file.bytes ≤ FILE_LIMIT)
row_is_lawful directories rows row all =
    let is = all_last (is_row_among directories) rows row all in
    (and_second _ _ (and_first _ _ (and_first _ _ is)), leb-true _ _ (and_second _ _ is))

-- a file that is added
pub row_is_short : (directories : List Directory) (rows : List Row) (row : Row) → list_all is_directory directories ≡ true
    → list_all (is_row_among directories) (rows ++ row ∷ []) ≡ true → IsShort row.key
row_is_short directories rows row within all =
    let named = and_first _ _ (and_first _ _ (and_first _ _ (all_last (is_row_among directories) rows row all))) in
    record {
      directory = name_is_short row.key.directory directories within (and_first _ _ (and_first _ _ named));
      name = file_name_is_short row.key.name (and_second _ _ (and_first _ _ named));
      kind = file_type_is_short row.key.kind (and_second _ _ named);
    }

-- the names of an entry of the queue
pub record AreShort (entry : QueueEntry) : Type 0 where
  pub file : IsShort entry.file.key
  pub job : length entry.job ≤ NAME_LIMIT
  pub note : length entry.note ≤ NAME_LIMIT

-- an entry that is added
pub entry_is_short : (directories : List Directory) (queue : List QueueEntry) (entry : QueueEntry) → list_all is_directory directories ≡ true
    → list_all (is_entry_among directories) (queue ++ entry ∷ []) ≡ true → AreShort entry
entry_is_short directories queue entry within all =
    let is = all_last (is_entry_among directories) queue entry all in
    let after = and_first _ _ (and_first _ _ is) in
    let named = and_first _ _ (and_first _ _ (and_first _ _ (and_first _ _ (and_first _ _ (and_first _ _ after))))) in
    record {
      file = record {
        directory = name_is_short entry.file.key.directory directories within (and_first _ _ (and_first _ _ named));
        name = file_name_is_short entry.file.key.name (and_second _ _ (and_first _ _ named));
        kind = file_type_is_short entry.file.key.kind (and_second _ _ named);
      };
      job = file_name_is_short entry.job (and_second _ _ after);
      note = short entry.note (and_second _ _ (and_first _ _ is));
    }
