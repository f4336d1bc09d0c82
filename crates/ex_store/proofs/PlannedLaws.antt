-- [plan] What is made of the sources of a plan is what the plan makes of the state.
-- Appending nothing does not compute away: one lemma for each form of change (changes_files, makes, defines), by
-- append-nil. planned and is_selected_by are unfoldable.
use Rattle.std.proofs.Common.{◌≡◌, ℕ, true, List, Option, Result, Ok, Err, refl, ap, subst, sym, ◌∙◌}
use Rattle.std.proofs.lemmas.List.{append-nil}
use Rattle.cm_fields.specs.declared.code.Code.{Code}
use Rattle.ex_store.specs.declared.directory.Directory.{Directory}
use Rattle.ex_store.specs.declared.key.NamePair.{NamePair}
use Rattle.ex_store.specs.declared.place.Place.{Place}
use Rattle.ex_store.specs.declared.plan.Refusal.{Refusal}
use Rattle.ex_store.specs.declared.plan.Refusal.TheVariants as refusals
use Rattle.ex_store.specs.declared.queue.QueueEntry.{QueueEntry}
use Rattle.ex_store.specs.declared.ready.Reading.{Reading}
use Rattle.ex_store.specs.declared.ready.RowChange.{RowChange}
use Rattle.ex_store.specs.declared.row.Row.{Row}
use Rattle.ex_store.specs.Adding.{Outcome}
use Rattle.ex_store.specs.Plan.{IsRefused, sources, with_rows}
use Rattle.ex_store.specs.Positions.{elements_at, positions_from}
use Rattle.ex_store.specs.Ready.{Change, IsMade, applied, are_doable, done_on, of_files, outcome_of, rows_after_all, rows_read}
use Rattle.ex_store.specs.Selection.{is_selected_by}
use Rattle.ex_store.specs.State.{State}
use Rattle.ex_store.specs.WellFormed.{AreRows, IsWellFormed}
use Rattle.ex_store.proofs.PositionsLaws.{elements_filter}
use Rattle.ex_store.proofs.RemarkLaws.{well_formed_with_rows}

-- the directories, sources and rows that a plan is made of are those of the state
pub record IsOver (state : State) (from : Place) (directories : List Directory) (taken rows : List Row) : Type 0 where
  pub directories_are : directories ≡ state.directories
  pub sources_are : taken ≡ sources from state
  pub rows_are : rows ≡ state.rows

-- the sources are taken by the places that the code walks
pub is_over : (state : State) (from : Place) (directories : List Directory) (rows : List Row) (given positions : List ℕ)
    → directories ≡ state.directories → rows ≡ state.rows → given ≡ positions
    → positions ≡ positions_from (is_selected_by from.flags.deleted from state) 0 state.rows
    → IsOver state from directories (elements_at rows given) rows
is_over state from directories rows given positions same_directories same_rows told found = record {
  directories_are = same_directories;
  sources_are = rw (same_rows, told, found) (elements_filter (is_selected_by from.flags.deleted from state) state.rows);
  rows_are = same_rows;
}

-- what is done where files alone are changed, and are read before
pub changes_files : (state : State) (reading : Option Reading) (row_changes : List RowChange) (pairs : List NamePair)
    → applied (of_files reading row_changes pairs) state
    ≡ record state { rows = rows_after_all (rows_read reading state) row_changes }
changes_files state reading row_changes pairs =
    ap (λ (queue : List QueueEntry). record state { rows = rows_after_all (rows_read reading state) row_changes; queue = queue })
    (append-nil state.queue)

only_files : (state : State) (reading : Option Reading) (change : Change) → change ≡ of_files reading change.row_changes change.pairs
    → applied change state ≡ record state { rows = rows_after_all (rows_read reading state) change.row_changes }
only_files state reading change files =
    ap (λ (each : Change). applied each state) files ∙ changes_files state reading change.row_changes change.pairs

-- a plan that is made of the directories and sources that the code has is that of the state
asked_of : (plan : List Directory → List Row → List Row → Result Outcome Code) (state : State) (from : Place)
    (directories : List Directory) (taken before rows : List Row) → IsOver state from directories taken before
    → plan directories taken rows ≡ plan state.directories (sources from state) rows
asked_of plan state from directories taken before rows over =
    ap (λ (it : List Directory). plan it taken rows) over.directories_are ∙ ap (λ (it : List Row). plan state.directories it rows) over.sources_are

-- what is made of the rows, when they are read, is the plan, done on the state
pub made_by : (plan : List Directory → List Row → List Row → Result Outcome Code) (state : State) (from : Place) (reading : Option Reading)
    (directories : List Directory) (taken before : List Row) (change : Change) → IsOver state from directories taken before
    → IsMade directories (rows_read reading state) (plan directories taken (rows_read reading state)) reading change
    → with_rows state (plan state.directories (sources from state) (rows_read reading state)) ≡ Ok (done_on state change)
made_by plan state from reading directories taken before change over made =
    let comes : plan state.directories (sources from state) (rows_read reading state) ≡ Ok (outcome_of (rows_read reading state) change) =
    sym (asked_of plan state from directories taken before (rows_read reading state) over) ∙ made.outcome in
    rw comes
    (ap (λ (next : State). Ok (record { state = next; pairs = change.pairs })) (sym (only_files state reading change made.files)))

-- it leads to a state that is well formed
pub sound_by : (plan : List Directory → List Row → List Row → Result Outcome Code) (state : State) (from : Place) (reading : Option Reading)
    (directories : List Directory) (taken before : List Row) (change : Change) → IsOver state from directories taken before → IsWellFormed state
    → IsMade directories (rows_read reading state) (plan directories taken (rows_read reading state)) reading change
    → IsWellFormed (applied change state)
sound_by plan state from reading directories taken before change over well made =
    subst IsWellFormed (sym (only_files state reading change made.files))
    (well_formed_with_rows state (rows_after_all (rows_read reading state) change.row_changes) well
    (subst (λ (it : List Directory). AreRows it (rows_after_all (rows_read reading state) change.row_changes)) over.directories_are made.sound))

-- and can be done
pub doable_by : (plan : List Directory → List Row → List Row → Result Outcome Code) (state : State) (reading : Option Reading)
    (directories : List Directory) (taken : List Row) (change : Change)
    → IsMade directories (rows_read reading state) (plan directories taken (rows_read reading state)) reading change
    → are_doable (rows_read change.reading state) change.row_changes ≡ true
doable_by plan state reading directories taken change made =
    let read : change.reading ≡ reading = ap (λ (it : Change). it.reading) made.files in
    ap (λ (it : Option Reading). are_doable (rows_read it state) change.row_changes) read ∙ made.doable

-- what is refused of the rows, when they are read, the plan refuses
pub refused_by : (plan : List Directory → List Row → List Row → Result Outcome Code) (state : State) (from : Place)
    (directories : List Directory) (taken before rows : List Row) (refusal : Refusal) → IsOver state from directories taken before
    → IsRefused (plan directories taken rows) refusal
    → IsRefused (with_rows state (plan state.directories (sources from state) rows)) refusal
refused_by plan state from directories taken before rows refusals.NoMemory over refused = tt
refused_by plan state from directories taken before rows (refusals.Code code) over refused =
    let comes : plan state.directories (sources from state) rows ≡ Err code =
    sym (asked_of plan state from directories taken before rows over) ∙ refused in
    rw comes refl
