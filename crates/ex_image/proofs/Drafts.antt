-- What was read so far is a draft of a store.
use Rattle.std.proofs.Common.{◌≡◌, ℕ, ◌+◌, true, nat_le, nat_lt, List, [], ◌∷◌, ◌++◌, length, refl, subst, sym, ◌∙◌, arith}
use Rattle.std.proofs.lemmas.Bool.{and_from, and_parts, leb-true}
use Rattle.std.proofs.lemmas.List.Sums.{sum_by-append}
use Rattle.cm_lists.proofs.Pieces.{push_within}
use Rattle.cm_lists.proofs.Quantifiers.{all_none, all_push}
use Rattle.cm_files.specs.Catalogue.{is_directory_name, is_upper_name}
use Rattle.cm_files.specs.LogicalName.{is_logical_name}
use Rattle.ex_generations.specs.declared.file.TheConstants.{FILE_LIMIT}
use Rattle.ex_store.specs.declared.directory.Directory as directories
use Rattle.ex_store.specs.declared.limits.TheConstants.{DIRECTORY_LIMIT, LOGICAL_LIMIT, QUEUE_LIMIT, ROW_LIMIT, STORE_LIMIT}
use Rattle.ex_store.specs.declared.queue.QueueEntry.{QueueEntry}
use Rattle.ex_store.specs.declared.row.Row.{Row}
use Rattle.ex_store.specs.Draft.{and_directory, and_logical, and_request, and_row, empty_state}
use Rattle.ex_store.specs.Rows.{by_row, total}
use Rattle.ex_store.specs.State.{State, has_directory}
use Rattle.ex_store.specs.WellFormed.{AreRows, IsDraft, is_definition_among, is_directory, is_entry_among, is_row_among}
use Rattle.ex_image.specs.declared.version.Version.{Version}
use Rattle.ex_image.specs.Grammar.{Leads, Makes, MayStand, is_shaped}
use Rattle.ex_image.specs.Fields.{is_logical}
use Rattle.ex_image.specs.Reading.{Reading, is_in_range, stands_above, start, with_entry, with_record}
use Rattle.ex_image.specs.Record.{Entry, Head, Directory, Connected, Logical, File, Request, End}
use Rattle.ex_image.proofs.Ascents.{above_same, ascends_more}
use Rattle.ex_image.proofs.LineLaws.{file_shape}
use Rattle.ex_image.proofs.RequestLaws.{IsRequestShape, request_shape}
use Rattle.ex_image.proofs.Stands.{IsFaultless, Stands, faultless_of, only_directories, stands_more}

empty_draft : IsDraft empty_state
empty_draft = record {
  directories_ascend = refl;
  directories_within = refl;
  few_directories = omega arith;
  logical_ascend = refl;
  logical_within = refl;
  few_logical = omega arith;
  rows = record { ascend = refl; within = refl; few = omega arith; small = omega arith };
  queue_within = refl;
  few_entries = omega arith;
}

directory_more : (state : State) (name : List ℕ) (retention : ℕ) → IsDraft state
    → (state.logical ≡ []) × (state.rows ≡ []) × (state.queue ≡ []) → is_shaped (Directory name retention) ≡ true
    → IsFaultless state (Directory name retention) → IsDraft (and_directory (record { name = name; retention = retention }) state)
directory_more state name retention draft none shape good =
    let named = (and_parts (is_directory_name name) _ shape).0 in
    record {
      directories_ascend = ascends_more _ state.directories _ draft.directories_ascend good.above;
      directories_within =
          all_push is_directory state.directories _ draft.directories_within (and_from _ _ named good.range);
      few_directories = push_within state.directories _ DIRECTORY_LIMIT good.room;
      logical_ascend = draft.logical_ascend;
      logical_within = all_none _ state.logical none.0;
      few_logical = draft.few_logical;
      rows = record {
        ascend = draft.rows.ascend;
        within = all_none _ state.rows none.1;
        few = draft.rows.few;
        small = draft.rows.small;
      };
      queue_within = all_none _ state.queue none.2;
      few_entries = draft.few_entries;
    }

connected_more : (state : State) (name : List ℕ) → IsDraft state → IsDraft (record state { connected = name })
connected_more state name draft = record {
  directories_ascend = draft.directories_ascend;
  directories_within = draft.directories_within;
  few_directories = draft.few_directories;
  logical_ascend = draft.logical_ascend;
  logical_within = draft.logical_within;
  few_logical = draft.few_logical;
  rows = draft.rows;
  queue_within = draft.queue_within;
  few_entries = draft.few_entries;
}

logical_more : (state : State) (name directory : List ℕ) → IsDraft state → is_shaped (Logical name directory) ≡ true
    → IsFaultless state (Logical name directory)
    → IsDraft (and_logical (record { name = name; directory = directory }) state)
logical_more state name directory draft shape good =
    let named = and_parts (is_logical_name name) (is_upper_name name) (and_parts (is_logical name) _ shape).0 in
    record {
      directories_ascend = draft.directories_ascend;
      directories_within = draft.directories_within;
      few_directories = draft.few_directories;
      logical_ascend = ascends_more _ state.logical _ draft.logical_ascend good.above;
      logical_within =
          all_push (is_definition_among state.directories) state.logical _ draft.logical_within
          (and_from _ _ (and_from _ _ good.there named.0) named.1);
      few_logical = push_within state.logical _ LOGICAL_LIMIT good.room;
      rows = draft.rows;
      queue_within = draft.queue_within;
      few_entries = draft.few_entries;
    }

-- a row with its bytes
abbrev filled : Row → List ℕ → Row
filled row bytes = record row { file = record row.file { bytes = bytes } }

rows_more : (directories : List directories.Directory) (rows : List Row) (row : Row) (bytes : List ℕ)
    → AreRows directories rows → is_row_among directories (filled row bytes) ≡ true
    → stands_above by_row rows row ≡ true → nat_lt (length rows) ROW_LIMIT ≡ true
    → nat_le (total rows + length bytes) STORE_LIMIT ≡ true → AreRows directories (rows ++ filled row bytes ∷ [])
rows_more directories rows row bytes are among above room fits = record {
  ascend =
      ascends_more by_row rows (filled row bytes) are.ascend
      (sym (above_same by_row rows row (filled row bytes) (λ other. refl)) ∙ above);
  within = all_push (is_row_among directories) rows (filled row bytes) are.within among;
  few = push_within rows (filled row bytes) ROW_LIMIT room;
  small =
      let less = leb-true (total rows + length bytes) STORE_LIMIT fits in
      omega (arith, sum_by-append (λ (each : Row). length each.file.bytes) rows (filled row bytes ∷ []));
}

row_more : (state : State) (version : Version) (row : Row) (size : ℕ) (bytes : List ℕ) → IsDraft state
    → is_shaped (File version row size) ≡ true → length bytes ≡ size → IsFaultless state (File version row size)
    → IsDraft (and_row (filled row bytes) state)
row_more state version row size bytes draft shape content good =
    let is = file_shape version row size shape in
    let range = and_parts _ _ good.range in
    let numbers = and_parts _ _ range.0 in
    let room = and_parts _ _ good.room in
    let fits : nat_le (length bytes) FILE_LIMIT ≡ true = rw content range.1 in
    let all_fit : nat_le (total state.rows + length bytes) STORE_LIMIT ≡ true = rw content room.1 in
    record {
      directories_ascend = draft.directories_ascend;
      directories_within = draft.directories_within;
      few_directories = draft.few_directories;
      logical_ascend = draft.logical_ascend;
      logical_within = draft.logical_within;
      few_logical = draft.few_logical;
      rows =
          rows_more state.directories state.rows row bytes draft.rows
          (and_from _ _
          (and_from _ _
          (and_from _ _ (and_from _ _ (and_from _ _ good.there is.file.name) is.file.kind) numbers.0)
          numbers.1)
          fits)
          good.above room.0 all_fit;
      queue_within = draft.queue_within;
      few_entries = draft.few_entries;
    }

entry_among : (directories : List directories.Directory) (entry : QueueEntry) → IsRequestShape entry
    → has_directory entry.file.key.directory directories ≡ true → is_in_range (Request entry) ≡ true
    → is_entry_among directories entry ≡ true
entry_among directories entry is there ranged =
    let day = and_parts _ _ ranged in
    let copies = and_parts _ _ day.0 in
    let numbered = and_parts _ _ copies.0 in
    let note = and_parts _ _ is.note in
    and_from _ _
    (and_from _ _
    (and_from _ _
    (and_from _ _
    (and_from _ _
    (and_from _ _
    (and_from _ _ (and_from _ _ (and_from _ _ (and_from _ _ there is.file.name) is.file.kind) numbered.0) numbered.1)
    copies.1)
    is.form)
    day.1)
    is.job)
    note.0)
    note.1

request_more : (state : State) (entry : QueueEntry) → IsDraft state → is_shaped (Request entry) ≡ true
    → IsFaultless state (Request entry) → IsDraft (and_request entry state)
request_more state entry draft shape good =
    record {
      directories_ascend = draft.directories_ascend;
      directories_within = draft.directories_within;
      few_directories = draft.few_directories;
      logical_ascend = draft.logical_ascend;
      logical_within = draft.logical_within;
      few_logical = draft.few_logical;
      rows = draft.rows;
      queue_within =
          all_push (is_entry_among state.directories) state.queue entry draft.queue_within
          (entry_among state.directories entry (request_shape entry shape) good.there good.range);
      few_entries = push_within state.queue entry QUEUE_LIMIT good.room;
    }

-- with a record that may be after it, a draft is one still
pub draft_more : (reading : Reading) (entry : Entry) (bytes : List ℕ) → IsDraft reading.state
    → Stands reading.last reading.state → MayStand reading (entry, bytes)
    → IsDraft (with_entry reading.state entry bytes)
draft_more reading (Head version) bytes draft stands may = draft
draft_more reading (Directory name retention) bytes draft stands may =
    directory_more reading.state name retention draft (only_directories reading.last reading.state stands may.place)
    may.shape (faultless_of reading.state (Directory name retention) may.faultless)
draft_more reading (Connected name) bytes draft stands may = connected_more reading.state name draft
draft_more reading (Logical name directory) bytes draft stands may =
    logical_more reading.state name directory draft may.shape
    (faultless_of reading.state (Logical name directory) may.faultless)
draft_more reading (File version row size) bytes draft stands may =
    row_more reading.state version row size bytes draft may.shape may.content
    (faultless_of reading.state (File version row size) may.faultless)
draft_more reading (Request entry) bytes draft stands may =
    request_more reading.state entry draft may.shape (faultless_of reading.state (Request entry) may.faultless)
draft_more reading End bytes draft stands may = draft

-- what holds of all that was read so far
pub record IsSound (reading : Reading) : Type 0 where
  pub draft : IsDraft reading.state
  pub stands : Stands reading.last reading.state

pub start_sound : IsSound start
start_sound = record { draft = empty_draft; stands = (refl, refl, refl, refl) }

pub sound_more : (reading : Reading) (next : Entry × List ℕ) → IsSound reading → MayStand reading next
    → IsSound (with_record reading next)
sound_more reading next sound may = record {
  draft = draft_more reading next.0 next.1 sound.draft sound.stands may;
  stands =
      stands_more reading.last reading.state next.0 next.1 sound.stands may.place
      (faultless_of reading.state next.0 may.faultless).there;
}

pub leads_sound : (from to : Reading) (records : List (Entry × List ℕ)) → IsSound from
    → Leads from records to → IsSound to
leads_sound from to [] sound leads = subst IsSound (sym leads) sound
leads_sound from to (next ∷ records) sound leads =
    leads_sound (with_record from next) to records (sound_more from next sound leads.0) leads.1

pub makes_sound : (bytes : List ℕ) (reading : Reading) (rest : List ℕ) → Makes bytes reading rest → IsSound reading
unfolding Makes
makes_sound bytes reading rest made = leads_sound start reading made.0 start_sound made.1
