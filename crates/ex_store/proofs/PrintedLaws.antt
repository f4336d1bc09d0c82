-- Files are queued for printing: what is well formed stays so, and the outcome of the plan.
-- A loop over places that maps is made_more.
use Rattle.std.proofs.Common.{◌≡◌, ℕ, ◌+◌, ◌≤◌, nat_lt, nat_le, Bool, true, false, cond, List, [], ◌∷◌, ◌++◌, length, map, unwrap_or, Option, Some, None, Result, Ok, Err, refl, ap, sym, subst, ◌∙◌, arith, append_assoc, length-append}
use Rattle.std.specs.List.{list_all}
use Rattle.std.proofs.lemmas.Bool.{and_from, and_parts, le-leb, lt-ltb, ltb-false}
use Rattle.std.proofs.lemmas.List.{length-map}
use Rattle.std.proofs.lemmas.List.Folds.{list_all-append}
use Rattle.cm_lists.proofs.Quantifiers.{all_filter}
use Rattle.cm_text.specs.Bytes.{is_text}
use Rattle.cm_text.specs.declared.name.TheConstants.{NAME_LIMIT}
use Rattle.cm_fields.specs.declared.code.Code.{Code}
use Rattle.cm_fields.specs.declared.code.Code.TheVariants.{QueueLimit}
use Rattle.ex_store.specs.declared.directory.Directory.{Directory}
use Rattle.ex_store.specs.declared.key.NamePair.{NamePair}
use Rattle.ex_store.specs.declared.limits.TheConstants.{COPIES_LIMIT, FORMS, QUEUE_LIMIT}
use Rattle.ex_store.specs.declared.place.Place.{Place}
use Rattle.ex_store.specs.declared.plan.Plan.TheVariants as plans
use Rattle.ex_store.specs.declared.print.Request.{Request}
use Rattle.ex_store.specs.declared.queue.QueueEntry.{QueueEntry}
use Rattle.ex_store.specs.declared.row.Row.{Row}
use Rattle.ex_store.specs.Plan.{IsRequest, may_be_job, planned, sources}
use Rattle.ex_store.specs.Positions.{elements_at, positions_from}
use Rattle.ex_store.specs.Printing.{entries_for, entry_for, limit_check, own_pairs}
use Rattle.ex_store.specs.Ready.{Change, applied, done_on, of_entries}
use Rattle.ex_store.specs.Rows.{full_of}
use Rattle.ex_store.specs.Selection.{is_selected_by}
use Rattle.ex_store.specs.State.{State}
use Rattle.ex_store.specs.WellFormed.{IsWellFormed, is_entry_among, is_file_name, is_row_among}
use Rattle.ex_store.proofs.AdmittedLaws.{and_then_ok, ok_same}
use Rattle.ex_store.proofs.ElementsLaws.{length_elements}
use Rattle.ex_store.proofs.PositionsLaws.{elements_filter}
use Rattle.ex_store.proofs.RemarkLaws.{length-positions_from}

-- one more of some files in a walk
pub made_more : {X : Type 0} (make : Row → X) (row : Row) (files rest : List Row) (made : X) (before after whole : List X)
    → after ≡ before ++ made ∷ [] → made ≡ make row → files ≡ row ∷ rest → before ++ map make files ≡ whole
    → after ++ map make rest ≡ whole
made_more make row files rest made before after whole pushed is next all =
    rw (pushed, is) (append_assoc before _ _ ∙ (ap (λ others. before ++ map make others) (sym next) ∙ all))

-- a file is its own source
abbrev pub own_pair : Row → NamePair
own_pair row = record { source = full_of row; target = full_of row }

pub few_pairs : (rows : List Row) (positions : List ℕ) (limit : ℕ) → length positions ≤ limit
    → length (own_pairs (elements_at rows positions)) ≤ limit
few_pairs rows positions limit few =
    let counted = length-map (elements_at rows positions) own_pair in
    omega (arith, few, length_elements rows positions, counted)

-- the entry of a file is one that may be
job_is : (job : Option (List ℕ)) (own : List ℕ) → may_be_job job ≡ true → is_file_name own ≡ true
    → is_file_name (unwrap_or job own) ≡ true
job_is None own may is = is
job_is (Some job) own may is = may

entry_within : (directories : List Directory) (request : Request) (row : Row) → IsRequest request
    → is_row_among directories row ≡ true → is_entry_among directories (entry_for request row) ≡ true
entry_within directories request row asked is =
    let moment = and_parts _ _ (and_parts _ _ is).0 in
    let generation = and_parts _ _ moment.0 in
    let kind = and_parts _ _ generation.0 in
    let name = and_parts _ _ kind.0 in
    let note = and_parts (nat_le (length request.note) NAME_LIMIT) (list_all is_text request.note) asked.note in
    let file = and_from _ _ (and_from _ _ kind.0 kind.1) generation.1 in
    let copies = and_from _ _ (and_from _ _ file (lt-ltb 0 request.copies asked.some)) (le-leb request.copies COPIES_LIMIT asked.few) in
    let form = and_from _ _ copies (lt-ltb request.form FORMS asked.form) in
    let job = and_from _ _ (and_from _ _ form asked.after) (job_is request.job row.key.name asked.job name.1) in
    and_from _ _ (and_from _ _ job note.0) note.1

entries_within : (directories : List Directory) (request : Request) (rows : List Row) → IsRequest request
    → list_all (is_row_among directories) rows ≡ true
    → list_all (is_entry_among directories) (map (entry_for request) rows) ≡ true
entries_within directories request [] asked all = refl
entries_within directories request (row ∷ more) asked all =
    let parts = and_parts _ _ all in
    and_from _ _ (entry_within directories request row asked parts.0) (entries_within directories request more asked parts.1)

-- what is queued, and that there is room for it
record IsQueued (request : Request) (rows : List Row) (queue entries : List QueueEntry) : Type 0 where
  is : map (entry_for request) rows ≡ entries
  room : length queue + length rows ≤ QUEUE_LIMIT

-- what fits, does not pass the limit
fits_within : (queue more : ℕ) (done : Unit {0}) → limit_check queue more ≡ Ok done → queue + more ≤ QUEUE_LIMIT
fits_within queue more done is = by (nat_lt QUEUE_LIMIT (queue + more)) refl is
  where
    by : (full : Bool) → nat_lt QUEUE_LIMIT (queue + more) ≡ full → cond full (Err QueueLimit) (Ok tt) ≡ Ok done
        → queue + more ≤ QUEUE_LIMIT
    by true limit is = absurd (cc)
    by false limit is = omega (arith, ltb-false QUEUE_LIMIT (queue + more) limit)

queued_parts : (request : Request) (rows : List Row) (queue entries : List QueueEntry)
    → entries_for request rows queue ≡ Ok entries → IsQueued request rows queue entries
queued_parts request rows queue entries is =
    let parts = and_then_ok (λ (_ : Unit {0}). Ok (map (entry_for request) rows)) (limit_check (length queue) (length rows)) entries is in
    record { is = ok_same _ _ entries refl parts.2; room = fits_within (length queue) (length rows) parts.0 parts.1 }

well_formed_with_queue : (state : State) (queue : List QueueEntry) → IsWellFormed state
    → list_all (is_entry_among state.directories) queue ≡ true → length queue ≤ QUEUE_LIMIT
    → IsWellFormed (record state { queue = queue })
well_formed_with_queue state queue well within few = record {
  draft = record {
    directories_ascend = well.draft.directories_ascend;
    directories_within = well.draft.directories_within;
    few_directories = well.draft.few_directories;
    logical_ascend = well.draft.logical_ascend;
    logical_within = well.draft.logical_within;
    few_logical = well.draft.few_logical;
    rows = well.draft.rows;
    queue_within = within;
    few_entries = few;
  };
  connected_there = well.connected_there;
}

-- the state with the files of a place in its queue is well formed
pub well_formed_printed : (state : State) (files : Place) (request : Request) (entries : List QueueEntry) → IsWellFormed state
    → IsRequest request → entries_for request (sources files state) state.queue ≡ Ok entries
    → IsWellFormed (record state { queue = state.queue ++ entries })
well_formed_printed state files request entries well asked is =
    let parts = queued_parts request (sources files state) state.queue entries is in
    let selected = all_filter (is_row_among state.directories) (is_selected_by files.flags.deleted files state) state.rows well.draft.rows.within in
    let all : list_all (is_entry_among state.directories) entries ≡ true =
    subst (λ each. list_all (is_entry_among state.directories) each ≡ true) parts.is
    (entries_within state.directories request (sources files state) asked selected) in
    let count : length entries ≡ length (sources files state) =
    ap length (sym parts.is) ∙ length-map (sources files state) (entry_for request) in
    let room = parts.room in
    let longer : length (state.queue ++ entries) ≡ length state.queue + length entries = length-append state.queue entries in
    well_formed_with_queue state (state.queue ++ entries) well
    (list_all-append (is_entry_among state.directories) state.queue entries ∙ and_from _ _ well.draft.queue_within all)
    (omega (arith, room, count, longer))

-- there are as many places as files
pub count_is : (state : State) (files : Place) (positions : List ℕ) (count : ℕ) → count ≡ length positions
    → positions ≡ positions_from (is_selected_by files.flags.deleted files state) 0 state.rows
    → count ≡ length (sources files state)
count_is state files positions count counted found =
    counted ∙ ap length found ∙ length-positions_from (is_selected_by files.flags.deleted files state) 0 state.rows

-- the files are found by the places that the code walks
pub files_are : (state : State) (files : Place) (rows : List Row) (given positions : List ℕ) → rows ≡ state.rows → given ≡ positions
    → positions ≡ positions_from (is_selected_by files.flags.deleted files state) 0 state.rows
    → elements_at rows given ≡ sources files state
files_are state files rows given positions same told found =
    rw (same, told, found) (elements_filter (is_selected_by files.flags.deleted files state) state.rows)

-- whether there is room for one entry more for each file
pub asked_is : (state : State) (files : Place) (rows : List Row) (queue count : ℕ) (answer plan : Result (Unit {0}) Code)
    → rows ≡ sources files state → queue ≡ length state.queue → count ≡ length (sources files state)
    → answer ≡ limit_check queue count → answer ≡ plan → limit_check (length state.queue) (length rows) ≡ plan
asked_is state files rows queue count answer plan same long many is comes =
    rw (same, ← long, ← many) (sym is ∙ comes)

pub planned_printed : (state : State) (files : Place) (request : Request) (rows : List Row) (change : Change) (done : Unit {0}) (moment : ℕ)
    → rows ≡ sources files state → limit_check (length state.queue) (length rows) ≡ Ok done
    → change ≡ of_entries (map (entry_for request) rows) (own_pairs rows)
    → planned (plans.Print files request) moment state ≡ Ok (done_on state change)
unfolding planned
planned_printed state files request rows change done moment same fits only = rw (only, ← same, fits) refl

pub planned_full : (state : State) (files : Place) (request : Request) (rows : List Row) (code : Code) (moment : ℕ)
    → rows ≡ sources files state → limit_check (length state.queue) (length rows) ≡ Err code
    → planned (plans.Print files request) moment state ≡ Err code
unfolding planned
planned_full state files request rows code moment same full = rw (← same, full) refl

pub sound_printed : (state : State) (files : Place) (request : Request) (rows : List Row) (change : Change) (done : Unit {0})
    → IsWellFormed state → IsRequest request → rows ≡ sources files state
    → limit_check (length state.queue) (length rows) ≡ Ok done
    → change ≡ of_entries (map (entry_for request) rows) (own_pairs rows)
    → IsWellFormed (applied change state)
sound_printed state files request rows change done well asked same fits only =
    let queued : entries_for request (sources files state) state.queue ≡ Ok (map (entry_for request) rows) = rw (← same, fits) refl in
    subst (λ (each : Change). IsWellFormed (applied each state)) (sym only)
    (well_formed_printed state files request (map (entry_for request) rows) well asked queued)
