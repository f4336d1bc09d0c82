-- The records of a well-formed state may stand one after the other.
use Rattle.std.proofs.Common.{◌≡◌, ℕ, ◌+◌, ◌<◌, ◌≤◌, ◌^◌, ℤ, pos, negsuc, Bool, true, false, ◌||◌, nat_le, nat_lt, List, [], ◌∷◌, ◌++◌, length, Option, Some, None, refl, ap, subst, sym, ◌∙◌, arith}
use Rattle.std.specs.List.{list_all}
use Rattle.std.specs.Str.{bytes_eq}
use Rattle.std.specs.declared.cmp.Ordering.{Ordering}
use Rattle.std.proofs.lemmas.Bool.{and_from, and_parts, leb-true, lt-ltb, le-leb}
use Rattle.std.proofs.lemmas.List.Sums.{sum_by-append, sum_by-cons}
use Rattle.std.proofs.lemmas.Slice.Eq.{bytes_eq-Decides}
use Rattle.cm_lists.proofs.Pieces.{front_within}
use Rattle.cm_lists.proofs.Quantifiers.{all_at_split}
use Rattle.cm_lists.specs.Ascent.{ascends}
use Rattle.cm_files.specs.Catalogue.{is_directory_name}
use Rattle.ex_generations.specs.declared.file.TheConstants.{FILE_LIMIT, GENERATION_LIMIT}
use Rattle.ex_store.specs.declared.directory.Definition.{Definition}
use Rattle.ex_store.specs.declared.directory.Directory as directories
use Rattle.ex_store.specs.declared.limits.TheConstants.{COPIES_LIMIT, DIRECTORY_LIMIT, LOGICAL_LIMIT, MOMENT_LIMIT, QUEUE_LIMIT, RETENTION_LIMIT, ROW_LIMIT, STORE_LIMIT}
use Rattle.ex_store.specs.declared.queue.QueueEntry.{QueueEntry}
use Rattle.ex_store.specs.declared.row.Row.{Row}
use Rattle.ex_store.specs.Draft.{empty_state}
use Rattle.ex_store.specs.Rows.{by_row, total}
use Rattle.ex_store.specs.State.{State, has_directory}
use Rattle.ex_store.specs.WellFormed.{IsDraft, IsWellFormed, is_day, is_definition_among, is_directory, is_entry_among, is_reading, is_row_among, is_stamped}
use Rattle.ex_image.specs.declared.tag.Tag.{Tag}
use Rattle.ex_image.specs.declared.tag.Tag.TheVariants as tags
use Rattle.ex_image.specs.declared.version.Version.{Version}
use Rattle.ex_image.specs.Grammar.{MayStand, are_told_in, is_shaped, is_short, is_short_day, is_short_optional, is_stamp, is_told_in}
use Rattle.ex_image.specs.Image.{bare, directory_record, file_record, logical_record, request_record}
use Rattle.ex_image.specs.Reading.{Reading, is_in_range, may_follow, stands_above}
use Rattle.ex_image.specs.Record.{Connected, File, Request, stamp_of}
use Rattle.ex_image.proofs.Ascents.{above_of, above_same}
use Rattle.ex_image.proofs.RequestLaws.{request_shaped}
use Rattle.ex_image.proofs.Runs.{IsRun}
use Rattle.ex_image.proofs.Stands.{faultless_is}

short_of : (n limit : ℕ) → nat_le n limit ≡ true → limit < 10 ^ 10 → is_short n ≡ true
short_of n limit most small = let le = leb-true n limit most in lt-ltb n (10 ^ 10) (omega arith)

short_day_of : (after : Option ℤ) → is_day after ≡ true → is_short_day after ≡ true
short_day_of None day = refl
short_day_of (Some (pos n)) day =
    let both = and_parts _ _ day in
    and_from _ _ both.0 (short_of n 47481 both.1 (omega arith))
short_day_of (Some (negsuc n)) day = absurd (cc)

-- what is before an element of a list that ascends
above_there : {X : Type 0} (compare : X → X → Ordering) (all before : List X) (x : X) (more : List X)
    → all ≡ before ++ x ∷ more → ascends compare all ≡ true → stands_above compare before x ≡ true
above_there compare all before x more same ascend =
    above_of compare before x more (subst (λ xs. ascends compare xs ≡ true) same ascend)

-- a directory that is there has a name of the form
named_there : (name : List ℕ) (all : List directories.Directory) → has_directory name all ≡ true
    → list_all is_directory all ≡ true → is_directory_name name ≡ true
named_there name [] there within = absurd (cc)
named_there name (directory ∷ all) there within =
    by (bytes_eq directory.name name) (bytes_eq-Decides directory.name name).0 there
    (λ later. named_there name all later (and_parts (is_directory directory) (list_all is_directory all) within).1)
  where
    by : (same : Bool) → (same ≡ true → directory.name ≡ name) → (same || has_directory name all) ≡ true
        → (has_directory name all ≡ true → is_directory_name name ≡ true) → is_directory_name name ≡ true
    by true means there later =
        let first = (and_parts (is_directory directory) (list_all is_directory all) within).0 in
        subst (λ name. is_directory_name name ≡ true) (means refl)
        (and_parts (is_directory_name directory.name) (nat_le directory.retention RETENTION_LIMIT) first).0
    by false means there later = later there

-- the directories
abbrev pub at_directories : Version → Tag → List directories.Directory → Reading
at_directories version last directories =
    record { version = version; last = last; state = record empty_state { directories = directories } }

directory_stands : (version : Version) (state : State) → IsDraft state → (last : Tag) (before : List directories.Directory)
    (directory : directories.Directory) (more : List directories.Directory)
    → state.directories ≡ before ++ directory ∷ more → may_follow last tags.Directory ≡ true
    → MayStand (at_directories version last before) (directory_record directory)
directory_stands version state draft last before directory more same place =
    let is = and_parts (is_directory_name directory.name) (nat_le directory.retention RETENTION_LIMIT)
    (all_at_split is_directory state.directories before directory more same draft.directories_within) in
    record {
      shape = and_from _ _ is.0 (short_of directory.retention RETENTION_LIMIT is.1 (omega arith));
      written = tt;
      place = place;
      content = refl;
      faultless = faultless_is (record empty_state { directories = before }) (directory_record directory).0 (record {
        range = is.1;
        there = refl;
        above = above_there _ state.directories before directory more same draft.directories_ascend;
        room = front_within state.directories before directory more DIRECTORY_LIMIT same draft.few_directories;
      });
    }

pub directories_run : (version : Version) (state : State) → IsDraft state
    → IsRun state.directories (at_directories version) directory_record tags.Directory
directories_run version state draft =
    record { again = refl; step = λ last before x. refl; stands = directory_stands version state draft }

-- the connected directory
abbrev pub connected_state : State → State
connected_state state =
    record { directories = state.directories; connected = state.connected; logical = []; rows = []; queue = [] }

pub connected_stands : (version : Version) (state : State) → IsWellFormed state → (last : Tag)
    → may_follow last tags.Connected ≡ true
    → MayStand (at_directories version last state.directories) (Connected state.connected, [])
connected_stands version state good last place = record {
  written = tt;
  shape = named_there state.connected state.directories good.connected_there good.draft.directories_within;
  place = place;
  content = refl;
  faultless =
      faultless_is (record empty_state { directories = state.directories }) (Connected state.connected)
      (record { range = refl; there = good.connected_there; above = refl; room = refl });
}

-- the logical names
abbrev pub at_logical : Version → State → Tag → List Definition → Reading
at_logical version state last logical =
    record { version = version; last = last; state = record (connected_state state) { logical = logical } }

logical_stands : (version : Version) (state : State) → IsDraft state → (last : Tag) (before : List Definition) (entry : Definition)
    (more : List Definition) → state.logical ≡ before ++ entry ∷ more → may_follow last tags.Logical ≡ true
    → MayStand (at_logical version state last before) (logical_record entry)
logical_stands version state draft last before entry more same place =
    let is =
    and_parts _ _
    (all_at_split (is_definition_among state.directories) state.logical before entry more same draft.logical_within) in
    let named = and_parts _ _ is.0 in
    record {
      shape =
          and_from _ _ (and_from _ _ named.1 is.1)
          (named_there entry.directory state.directories named.0 draft.directories_within);
      written = tt;
      place = place;
      content = refl;
      faultless = faultless_is (record (connected_state state) { logical = before }) (logical_record entry).0 (record {
        range = refl;
        there = named.0;
        above = above_there _ state.logical before entry more same draft.logical_ascend;
        room = front_within state.logical before entry more LOGICAL_LIMIT same draft.few_logical;
      });
    }

pub logical_run : (version : Version) (state : State) → IsDraft state
    → IsRun state.logical (at_logical version state) logical_record tags.Logical
logical_run version state draft =
    record { again = refl; step = λ last before x. refl; stands = logical_stands version state draft }

-- the files
abbrev pub named_state : State → State
named_state state = record (connected_state state) { logical = state.logical }

abbrev pub at_rows : Version → State → Tag → List Row → Reading
at_rows version state last rows =
    record { version = version; last = last; state = record (named_state state) { rows = rows } }

-- a moment that may be told
short_reading : (read : Option ℕ) → is_reading read ≡ true → is_short_optional read ≡ true
short_reading None within = refl
short_reading (Some moment) within = short_of moment MOMENT_LIMIT within (omega arith)

-- what a row of a store tells beside its name
stamp_told : (version : Version) (row : Row) → is_told_in version (stamp_of row) ≡ true → is_stamped row.file ≡ true
    → is_stamp version (stamp_of row) ≡ true
stamp_told version row told stamped =
    let read = and_parts _ _ stamped in
    let moment = and_parts _ _ read.0 in
    and_from _ _
    (and_from _ _
    (and_from _ _ told (short_of row.file.keep RETENTION_LIMIT moment.0 (omega arith)))
    (short_of row.file.moment MOMENT_LIMIT moment.1 (omega arith)))
    (short_reading row.file.read read.1)

-- what a row of a store has
record IsRow (version : Version) (state : State) (row : Row) : Type 0 where
  shape : is_shaped (File version (bare row) (length row.file.bytes)) ≡ true
  range : is_in_range (File version (bare row) (length row.file.bytes)) ≡ true
  there : has_directory row.key.directory state.directories ≡ true

row_is : (version : Version) (state : State) → IsDraft state → (row : Row)
    → is_row_among state.directories row ≡ true → is_told_in version (stamp_of row) ≡ true → IsRow version state row
row_is version state draft row among told =
    let size = and_parts _ _ among in
    let stamp = and_parts _ _ size.0 in
    let generation = and_parts _ _ stamp.0 in
    let kind = and_parts _ _ generation.0 in
    let name = and_parts _ _ kind.0 in
    let named = named_there row.key.directory state.directories name.0 draft.directories_within in
    let numbered =
    and_parts (nat_lt 0 row.file.generation) (nat_le row.file.generation GENERATION_LIMIT) generation.1 in
    record {
      shape =
          and_from _ _ (and_from _ _ (and_from _ _ (and_from _ _ (and_from _ _ (and_from _ _ named name.1) kind.1)
          (short_of row.file.generation GENERATION_LIMIT numbered.1 (omega arith)))
          (stamp_told version row told stamp.1))
          (short_of (length row.file.bytes) FILE_LIMIT size.1 (omega arith))) refl;
      range = and_from _ _ (and_from _ _ generation.1 stamp.1) size.1;
      there = name.0;
    }

row_fits : (all before : List Row) (row : Row) (more : List Row) → all ≡ before ++ row ∷ more → total all ≤ STORE_LIMIT
    → nat_le (total before + length row.file.bytes) STORE_LIMIT ≡ true
row_fits all before row more same small =
    let size : total all ≡ total (before ++ row ∷ more) = ap total same in
    let parts = sum_by-append (λ (each : Row). length each.file.bytes) before (row ∷ more) in
    let first = sum_by-cons (λ (each : Row). length each.file.bytes) row more in
    le-leb (total before + length row.file.bytes) STORE_LIMIT (omega arith)

row_stands : (version : Version) (state : State) → IsDraft state → are_told_in version state.rows ≡ true
    → (last : Tag) (before : List Row) (row : Row) (more : List Row) → state.rows ≡ before ++ row ∷ more
    → may_follow last tags.File ≡ true → MayStand (at_rows version state last before) (file_record version row)
row_stands version state draft told last before row more same place =
    let is =
    row_is version state draft row
    (all_at_split (is_row_among state.directories) state.rows before row more same draft.rows.within)
    (all_at_split (λ (each : Row). is_told_in version (stamp_of each)) state.rows before row more same told) in
    record {
      shape = is.shape;
      written = refl;
      place = place;
      content = refl;
      faultless = faultless_is (record (named_state state) { rows = before }) (file_record version row).0 (record {
        range = is.range;
        there = is.there;
        above =
            sym (above_same by_row before row (bare row) (λ other. refl))
            ∙ above_there by_row state.rows before row more same draft.rows.ascend;
        room =
            and_from _ _ (front_within state.rows before row more ROW_LIMIT same draft.rows.few)
            (row_fits state.rows before row more same draft.rows.small);
      });
    }

pub rows_run : (version : Version) (state : State) → IsDraft state → are_told_in version state.rows ≡ true
    → IsRun state.rows (at_rows version state) (file_record version) tags.File
rows_run version state draft told =
    record { again = refl; step = λ last before x. refl; stands = row_stands version state draft told }

-- the queue
abbrev pub filed_state : State → State
filed_state state = record (named_state state) { rows = state.rows }

abbrev pub at_queue : Version → State → Tag → List QueueEntry → Reading
at_queue version state last queue =
    record { version = version; last = last; state = record (filed_state state) { queue = queue } }

-- what an entry of the queue of a store has
record IsEntry (state : State) (entry : QueueEntry) : Type 0 where
  shape : is_shaped (Request entry) ≡ true
  range : is_in_range (Request entry) ≡ true
  there : has_directory entry.file.key.directory state.directories ≡ true

entry_is : (state : State) → IsDraft state → (entry : QueueEntry) → is_entry_among state.directories entry ≡ true
    → IsEntry state entry
entry_is state draft entry among =
    let noted = and_parts _ _ among in
    let note = and_parts _ _ noted.0 in
    let job = and_parts _ _ note.0 in
    let after = and_parts _ _ job.0 in
    let form = and_parts _ _ after.0 in
    let copies = and_parts _ _ form.0 in
    let some = and_parts _ _ copies.0 in
    let generation = and_parts _ _ some.0 in
    let kind = and_parts _ _ generation.0 in
    let name = and_parts _ _ kind.0 in
    let named = named_there entry.file.key.directory state.directories name.0 draft.directories_within in
    let numbered =
    and_parts (nat_lt 0 entry.file.generation) (nat_le entry.file.generation GENERATION_LIMIT) generation.1 in
    record {
      shape =
          request_shaped entry (record {
            directory = named;
            file = record {
              directory_is = refl;
              name = name.1;
              kind = kind.1;
              generation = short_of entry.file.generation GENERATION_LIMIT numbered.1 (omega arith);
            };
            copies = short_of entry.copies COPIES_LIMIT copies.1 (omega arith);
            form = form.1;
            after = short_day_of entry.after after.1;
            job = job.1;
            note = and_from _ _ note.1 noted.1;
          });
      range = and_from _ _ (and_from _ _ (and_from _ _ generation.1 some.1) copies.1) after.1;
      there = name.0;
    }

request_stands : (version : Version) (state : State) → IsDraft state → (last : Tag) (before : List QueueEntry) (entry : QueueEntry)
    (more : List QueueEntry) → state.queue ≡ before ++ entry ∷ more → may_follow last tags.Request ≡ true
    → MayStand (at_queue version state last before) (request_record entry)
request_stands version state draft last before entry more same place =
    let is =
    entry_is state draft entry
    (all_at_split (is_entry_among state.directories) state.queue before entry more same draft.queue_within) in
    record {
      shape = is.shape;
      written = tt;
      place = place;
      content = refl;
      faultless = faultless_is (record (filed_state state) { queue = before }) (request_record entry).0 (record {
        range = is.range;
        there = is.there;
        above = refl;
        room = front_within state.queue before entry more QUEUE_LIMIT same draft.few_entries;
      });
    }

pub queue_run : (version : Version) (state : State) → IsDraft state
    → IsRun state.queue (at_queue version state) request_record tags.Request
queue_run version state draft =
    record { again = refl; step = λ last before x. refl; stands = request_stands version state draft }
