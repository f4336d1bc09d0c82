-- What a plan makes of a state that is well formed is well formed.
-- A law over all plans is each_sound over each_in_turn, with one lemma a step.
use Rattle.std.proofs.Common.{◌≡◌, ℕ, nat_le, Bool, true, false, cond, List, [], ◌∷◌, ◌++◌, length, Result, Ok, Err, Option, Some, None, refl, ap, subst}
use Rattle.std.specs.List.{list_all}
use Rattle.std.proofs.lemmas.Bool.{and_parts}
use Rattle.cm_lists.proofs.Quantifiers.{all_filter}
use Rattle.cm_fields.specs.declared.code.Code.{Code}
use Rattle.cm_fields.specs.declared.code.Code.TheVariants.{NameNeeded}
use Rattle.ex_generations.specs.declared.file.Remark.TheVariants as remarks
use Rattle.ex_store.specs.declared.directory.Definition.{Definition}
use Rattle.ex_store.specs.declared.directory.Directory.{Directory}
use Rattle.ex_store.specs.declared.key.FullName.{FullName}
use Rattle.ex_store.specs.declared.limits.TheConstants.{RETENTION_LIMIT}
use Rattle.ex_store.specs.declared.place.Place.{Place}
use Rattle.ex_store.specs.declared.plan.Plan.{Plan}
use Rattle.ex_store.specs.declared.plan.Plan.TheVariants as plans
use Rattle.ex_store.specs.declared.queue.QueueEntry.{QueueEntry}
use Rattle.ex_store.specs.declared.row.Row.{Row}
use Rattle.ex_store.specs.Adding.{Outcome, admitted, and_then, each_in_turn, keep_at, new_row, placed}
use Rattle.ex_store.specs.Appending.{appended, bytes_at, opened, pairs_to, concatenation, row_changes_of}
use Rattle.ex_store.specs.Building.{built, with_directory}
use Rattle.ex_store.specs.Copying.{all_copied, copied, key_from, lacks_name, moment_of, own_key, written}
use Rattle.ex_store.specs.Defining.{definition_of, with_definition}
use Rattle.ex_store.specs.Plan.{IsOneFile, IsTarget, MayPlan, Planned, planned, read_at, retention_at, sources, with_rows}
use Rattle.ex_store.specs.Printing.{entries_for, own_pairs}
use Rattle.ex_store.specs.Ready.{rows_after_all}
use Rattle.ex_store.specs.Renaming.{all_renamed, renamed}
use Rattle.ex_store.specs.Rows.{full_of, is_full, row_at, total, with_name, without}
use Rattle.ex_store.specs.Selection.{is_selected_by}
use Rattle.ex_store.specs.State.{State}
use Rattle.ex_store.specs.WellFormed.{AreRows, IsWellFormed, is_row_among}
use Rattle.ex_store.proofs.AdmittedLaws.{admitted_is, and_then_ok, counted_target, ok_same, rows_added}
use Rattle.ex_store.proofs.AllCopiedLaws.{from_formed, keep_within, moment_within, renamed_formed}
use Rattle.ex_store.proofs.AllRenamedLaws.{rows_without}
use Rattle.ex_store.proofs.AppendedLaws.{append_ready, append_sound}
use Rattle.ex_store.proofs.BuiltLaws.{retention_within, well_formed_built}
use Rattle.ex_store.proofs.DefinedLaws.{well_formed_defined}
use Rattle.ex_store.proofs.PrintedLaws.{well_formed_printed}
use Rattle.ex_store.proofs.RemarkLaws.{rows_of_remark, well_formed_with_rows}
use Rattle.ex_store.proofs.WrittenLaws.{rows_written, written_row}

-- a step for one source, after which the rows are those of a store
abbrev KeepsRows : List Directory → (Row → Outcome → Result Outcome Code) → Type 0
KeepsRows directories step =
    (source : Row) → (before after : Outcome) → is_row_among directories source ≡ true → AreRows directories before.rows
    → step source before ≡ Ok after → AreRows directories after.rows

each_sound : (directories : List Directory) (step : Row → Outcome → Result Outcome Code) → KeepsRows directories step
    → (taken : List Row) (before after : Outcome) → list_all (is_row_among directories) taken ≡ true
    → AreRows directories before.rows → each_in_turn step taken before ≡ Ok after → AreRows directories after.rows
each_sound directories step sound [] before after all are is =
    let same : before ≡ after = cc in
    subst (λ (outcome : Outcome). AreRows directories outcome.rows) same are
each_sound directories step sound (source ∷ more) before after all are is =
    let parts = and_then_ok (each_in_turn step more) (step source before) after is in
    let forms = and_parts _ _ all in
    each_sound directories step sound more parts.0 after forms.1 (sound source before parts.0 forms.0 are parts.1) parts.2

copied_sound : (directories : List Directory) (retention moment : ℕ) (to : Place) → IsTarget to directories
    → nat_le retention RETENTION_LIMIT ≡ true → KeepsRows directories (copied retention moment to)
copied_sound directories retention moment to target few source before after form are is =
    let key = key_from to source.key in
    let keep = keep_at retention key before.rows in
    let parts = and_then_ok
    (λ generation. Ok (placed (full_of source) before (new_row key keep (moment_of moment) source.file.bytes generation)))
    (admitted key to.generation (length source.file.bytes) before.rows) after is in
    let new = new_row key keep (moment_of moment) source.file.bytes parts.0 in
    let known = admitted_is key to.generation (length source.file.bytes) before.rows parts.0 (counted_target to.generation target.generation) parts.1 in
    let shape = from_formed directories to source keep (moment_of moment) parts.0 target form (keep_within directories retention key before.rows few are.within)
    (moment_within moment) known.free.within in
    let same : placed (full_of source) before new ≡ after = ok_same _ _ after refl parts.2 in
    subst (λ (outcome : Outcome). AreRows directories outcome.rows) same
    (rows_added directories keep new before.rows are known shape)

-- without a row that is not there, the rows are the same
without_none : (full : FullName) (rows : List Row) → row_at full rows ≡ None → without full rows ≡ rows
without_none full [] is = refl
without_none full (row ∷ more) is = by (is_full full row) (without_none full more) is
  where
    by : (b : Bool) → (row_at full more ≡ None → without full more ≡ more) → cond b (Some row) (row_at full more) ≡ None
        → cond b more (row ∷ without full more) ≡ row ∷ more
    by true rest is = absurd (cc)
    by false rest is = ap (λ others. row ∷ others) (rest is)

left_sound : (directories : List Directory) (full : FullName) (rows : List Row) → AreRows directories rows
    → AreRows directories (without full rows)
left_sound directories full rows are = by (row_at full rows) refl
  where
    by : (found : Option Row) → row_at full rows ≡ found → AreRows directories (without full rows)
    by None is = rw (without_none full rows is) are
    by (Some row) is = rows_without directories full rows row are is

renamed_sound : (directories : List Directory) (to : Place) → IsTarget to directories
    → KeepsRows directories (renamed to)
renamed_sound directories to target source before after form are is =
    let key = key_from to source.key in
    let left : Outcome = record before { rows = without (full_of source) before.rows } in
    let parts = and_then_ok
    (λ generation. Ok (placed (full_of source) left (with_name (record { key = key; generation = generation }) source.file)))
    (admitted key to.generation (length source.file.bytes) left.rows) after is in
    let new = with_name (record { key = key; generation = parts.0 }) source.file in
    let known = admitted_is key to.generation (length source.file.bytes) left.rows parts.0 (counted_target to.generation target.generation) parts.1 in
    let shape = renamed_formed directories to source parts.0 target form known.free.within in
    let same : placed (full_of source) left new ≡ after = ok_same _ _ after refl parts.2 in
    subst (λ (outcome : Outcome). AreRows directories outcome.rows) same
    (rows_added directories source.file.keep new left.rows
    (left_sound directories (full_of source) before.rows are) known shape)

appended_sound : (directories : List Directory) (retention moment : ℕ) (to : Place) (taken rows : List Row) (after : Outcome)
    → AreRows directories rows → IsOneFile to directories → nat_le retention RETENTION_LIMIT ≡ true
    → appended retention moment to taken rows ≡ Ok after → AreRows directories after.rows
appended_sound directories retention moment to taken rows after are one few is =
    let opens = and_then_ok _ (opened retention moment (own_key to) to.generation rows) after is in
    let pours = and_then_ok _ (concatenation (total rows) (bytes_at opens.0.target rows) taken) after opens.2 in
    let done = row_changes_of opens.0 (moment_of moment) pours.0 in
    let pairs = pairs_to opens.0.target taken in
    let comes = append_ready retention moment to rows taken opens.0 pours.0 done pairs opens.1 pours.1 refl refl in
    let same : record { rows = rows_after_all rows done; pairs = pairs } ≡ after = ok_same _ _ after comes is in
    subst (λ (outcome : Outcome). AreRows directories outcome.rows) same
    (append_sound directories retention moment to rows taken opens.0 pours.0 done are one few opens.1 pours.1 refl)

written_sound : (directories : List Directory) (retention moment : ℕ) (to : Place) (bytes : List ℕ) (rows : List Row) (after : Outcome)
    → AreRows directories rows → IsTarget to directories → nat_le retention RETENTION_LIMIT ≡ true
    → written retention moment to bytes rows ≡ Ok after → AreRows directories after.rows
written_sound directories retention moment to bytes rows after are target few is = by (lacks_name to) refl is
  where
    added_as : ℕ → Outcome
    added_as generation =
        let row = written_row to (keep_at retention (own_key to) rows) moment bytes generation in
        placed (full_of row) (record { rows = rows; pairs = [] }) row

    by : (lacks : Bool) → lacks_name to ≡ lacks
        → cond lacks (Err NameNeeded) (and_then (λ generation. Ok (added_as generation)) (admitted (own_key to) to.generation (length bytes) rows)) ≡ Ok after
        → AreRows directories after.rows
    by true known is = absurd (cc)
    by false known is =
        let parts = and_then_ok (λ generation. Ok (added_as generation)) (admitted (own_key to) to.generation (length bytes) rows) after is in
        let same : added_as parts.0 ≡ after = ok_same _ _ after refl parts.2 in
        subst (λ (outcome : Outcome). AreRows directories outcome.rows) same
        (rows_written directories (keep_at retention (own_key to) rows) moment to bytes rows parts.0 are target
        (keep_within directories retention (own_key to) rows few are.within) known parts.1)

-- a plan that changes files alone
rows_sound : (state : State) (plan : Result Outcome Code) (made : Planned) → IsWellFormed state
    → ((outcome : Outcome) → plan ≡ Ok outcome → AreRows state.directories outcome.rows)
    → with_rows state plan ≡ Ok made → IsWellFormed made.state
rows_sound state (Ok outcome) made well sound is =
    let same : record { state = record state { rows = outcome.rows }; pairs = outcome.pairs } ≡ made = cc in
    subst (λ (each : Planned). IsWellFormed each.state) same (well_formed_with_rows state outcome.rows well (sound outcome refl))
rows_sound state (Err code) made well sound is = absurd (cc)

-- the sources are files of the store
sources_within : (state : State) (from : Place) → IsWellFormed state → list_all (is_row_among state.directories) (sources from state) ≡ true
sources_within state from well =
    all_filter (is_row_among state.directories) (is_selected_by from.flags.deleted from state) state.rows well.draft.rows.within

-- when they are read, the rows are those of a store
rows_read_at : (moment : ℕ) (from : Place) (state : State) → IsWellFormed state → AreRows state.directories (read_at moment from state)
rows_read_at moment from state well =
    rows_of_remark state.directories state.rows (is_selected_by from.flags.deleted from state) (remarks.Read (moment_of moment)) (moment_within moment) well.draft.rows

-- a directory keeps no more generations than one may
few_kept : (state : State) (to : Place) → IsWellFormed state → nat_le (retention_at to state) RETENTION_LIMIT ≡ true
few_kept state to well = retention_within to.directory state.directories well.draft.directories_within

pub plan_sound : (plan : Plan) (moment : ℕ) (state : State) (made : Planned) → IsWellFormed state → MayPlan plan state
    → planned plan moment state ≡ Ok made → IsWellFormed made.state
unfolding planned
plan_sound (plans.Build name retention) moment state made well may is =
    let parts = and_then_ok
    (λ (directory : Directory). Ok (record { state = record state { directories = with_directory directory state.directories }; pairs = [] }))
    (built name retention state.directories) made is in
    subst (λ (each : Planned). IsWellFormed each.state) (ok_same _ _ made refl parts.2)
    (well_formed_built state name retention parts.0 well may.0 may.1 parts.1)
plan_sound (plans.Define name directory) moment state made well may is =
    let parts = and_then_ok
    (λ (definition : Definition). Ok (record { state = record state { logical = with_definition definition state.logical }; pairs = [] }))
    (definition_of name directory state.logical) made is in
    subst (λ (each : Planned). IsWellFormed each.state) (ok_same _ _ made refl parts.2)
    (well_formed_defined state name directory parts.0 well may.0 may.1 parts.1)
plan_sound (plans.Copy from to) moment state made well may is =
    let retention = retention_at to state in
    rows_sound state (all_copied retention moment to (sources from state) (read_at moment from state)) made well
    (λ outcome comes.
    each_sound state.directories (copied retention moment to) (copied_sound state.directories retention moment to may.1 (few_kept state to well))
    (sources from state) (record { rows = read_at moment from state; pairs = [] }) outcome (sources_within state from well) (rows_read_at moment from state well) comes) is
plan_sound (plans.Rename from to) moment state made well may is =
    rows_sound state (all_renamed to (sources from state) state.rows) made well
    (λ outcome comes.
    each_sound state.directories (renamed to) (renamed_sound state.directories to may.1)
    (sources from state) (record { rows = state.rows; pairs = [] }) outcome (sources_within state from well) well.draft.rows comes) is
plan_sound (plans.Append from to) moment state made well may is =
    let retention = retention_at to state in
    rows_sound state (appended retention moment to (sources from state) (read_at moment from state)) made well
    (λ outcome comes. appended_sound state.directories retention moment to (sources from state) (read_at moment from state) outcome (rows_read_at moment from state well) may.1
    (few_kept state to well) comes) is
plan_sound (plans.Write to bytes) moment state made well may is =
    let retention = retention_at to state in
    rows_sound state (written retention moment to bytes state.rows) made well
    (λ outcome comes. written_sound state.directories retention moment to bytes state.rows outcome well.draft.rows may (few_kept state to well) comes) is
plan_sound (plans.Print files request) moment state made well may is =
    let parts = and_then_ok
    (λ (entries : List QueueEntry). Ok (record { state = record state { queue = state.queue ++ entries }; pairs = own_pairs (sources files state) }))
    (entries_for request (sources files state) state.queue) made is in
    subst (λ (each : Planned). IsWellFormed each.state) (ok_same _ _ made refl parts.2)
    (well_formed_printed state files request parts.0 well may.1 parts.1)
