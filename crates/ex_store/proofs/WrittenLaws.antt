-- A file is written: the row that is added, and the outcome of the plan.
use Rattle.std.proofs.Common.{◌≡◌, ℕ, nat_le, Bool, true, false, not, cond, List, [], ◌∷◌, length, unwrap_or, Result, Ok, Err, Option, Some, None, refl, ap, sym, subst, ◌∙◌}
use Rattle.std.proofs.lemmas.Bool.{and_from, le-leb, or_parts}
use Rattle.cm_lists.proofs.Bools.{second_of_or}
use Rattle.cm_fields.specs.declared.code.Code.{Code}
use Rattle.cm_fields.specs.declared.code.Code.TheVariants.{NameNeeded}
use Rattle.cm_fields.specs.declared.value.Gen.{Gen}
use Rattle.ex_generations.specs.declared.file.TheConstants.{FILE_LIMIT}
use Rattle.ex_store.specs.declared.directory.Directory.{Directory}
use Rattle.ex_store.specs.declared.key.Key.{Key}
use Rattle.ex_store.specs.declared.limits.TheConstants.{RETENTION_LIMIT}
use Rattle.ex_store.specs.declared.place.Place.{Place}
use Rattle.ex_store.specs.declared.plan.Plan.TheVariants as plans
use Rattle.ex_store.specs.declared.ready.RowChange.TheVariants as changes
use Rattle.ex_store.specs.declared.row.Row.{Row}
use Rattle.ex_store.specs.Adding.{admitted, and_then, keep_at, limited, new_row, numbered, placed}
use Rattle.ex_store.specs.Copying.{is_star, lacks_name, moment_of, own_key, written}
use Rattle.ex_store.specs.Plan.{IsTarget, retention_at, may_be, planned, with_rows}
use Rattle.ex_store.specs.Ready.{Change, applied, are_doable, done_on, of_files, rows_read}
use Rattle.ex_store.specs.Rows.{files_of, full_of, total, added}
use Rattle.ex_store.specs.State.{State}
use Rattle.ex_store.specs.WellFormed.{AreRows, IsWellFormed, is_file_name, is_file_type, is_row_among}
use Rattle.ex_store.proofs.AdmittedLaws.{admitted_is, counted_target, rows_added}
use Rattle.ex_store.proofs.AllCopiedLaws.{formed_is, moment_within, new_stamped}
use Rattle.ex_store.proofs.PlannedLaws.{changes_files}
use Rattle.ex_store.proofs.RemarkLaws.{well_formed_with_rows}

-- what is asked of the rows that the code has is what is asked of those of the state
pub asked_is : (key given : Key) (generation : Gen) (size count files all : ℕ) (rows before : List Row) (answer : Result ℕ Code) → given ≡ key → before ≡ rows
    → files ≡ length rows → all ≡ total rows → count ≡ size → answer ≡ and_then (limited files all count) (numbered generation (files_of given before))
    → answer ≡ admitted key generation size rows
asked_is key given generation size count files all rows before answer same from counted sum sized is =
    rw (is, same, from, counted, sum, sized) refl

-- the row that is written
abbrev pub written_row : Place → ℕ → ℕ → List ℕ → ℕ → Row
written_row to keep moment bytes generation = new_row (own_key to) keep (moment_of moment) bytes generation

-- the change that adds one row, which is its own source
abbrev pub adds_one : Row → Change
adds_one row =
    of_files None (changes.Add row ∷ []) ((record { source = full_of row; target = full_of row }) ∷ [])

nameless : {A : Type 0} (b : Bool) (rest : Result A Code) → b ≡ true → cond b (Err NameNeeded) rest ≡ Err NameNeeded
nameless true rest is = refl
nameless false rest is = absurd (cc)

named : {A : Type 0} (b : Bool) (rest out : Result A Code) → b ≡ false → rest ≡ out → cond b (Err NameNeeded) rest ≡ out
named true rest out is e = absurd (cc)
named false rest out is e = e

pub write_nameless : (state : State) (to : Place) (bytes : List ℕ) (moment : ℕ) → lacks_name to ≡ true
    → planned (plans.Write to bytes) moment state ≡ Err NameNeeded
unfolding planned
write_nameless state to bytes moment lacks = ap (with_rows state) (nameless (lacks_name to) _ lacks)

pub write_refused : (state : State) (to : Place) (bytes : List ℕ) (moment : ℕ) (code : Code) → lacks_name to ≡ false
    → admitted (own_key to) to.generation (length bytes) state.rows ≡ Err code
    → planned (plans.Write to bytes) moment state ≡ Err code
unfolding planned
write_refused state to bytes moment code has refused =
    ap (with_rows state) (named (lacks_name to) _ (Err code) has (rw refused refl))

pub write_ready : (state : State) (to : Place) (bytes : List ℕ) (moment keep generation : ℕ) (change : Change) → lacks_name to ≡ false
    → admitted (own_key to) to.generation (length bytes) state.rows ≡ Ok generation
    → keep ≡ keep_at (retention_at to state) (own_key to) state.rows
    → change ≡ adds_one (written_row to keep moment bytes generation)
    → planned (plans.Write to bytes) moment state ≡ Ok (done_on state change)
unfolding planned
write_ready state to bytes moment keep generation change has admits kept is =
    let row = written_row to (keep_at (retention_at to state) (own_key to) state.rows) moment bytes generation in
    let done : written (retention_at to state) moment to bytes state.rows ≡ Ok (placed (full_of row) (record { rows = state.rows; pairs = [] }) row) =
    named (lacks_name to) _ _ has (rw admits refl) in
    rw (is, kept)
    (ap (with_rows state) done
    ∙ ap (λ (next : State). Ok (record { state = next; pairs = (record { source = full_of row; target = full_of row }) ∷ [] }))
    (sym (changes_files state None (changes.Add row ∷ []) ((record { source = full_of row; target = full_of row }) ∷ []))))

pub write_doable : (state : State) (to : Place) (bytes : List ℕ) (moment keep generation : ℕ) (change : Change)
    → IsTarget to state.directories → admitted (own_key to) to.generation (length bytes) state.rows ≡ Ok generation
    → change ≡ adds_one (written_row to keep moment bytes generation)
    → are_doable (rows_read change.reading state) change.row_changes ≡ true
write_doable state to bytes moment keep generation change target admits is =
    let known = admitted_is (own_key to) to.generation (length bytes) state.rows generation (counted_target to.generation target.generation) admits in
    rw is (and_from _ _ (ap not known.free.absent) refl)

-- name and type of a target that has a name have their forms
own_forms : (to : Place) (name kind : Option (List ℕ)) → lacks_name (record to { name = name; kind = kind }) ≡ false
    → may_be is_file_name name ≡ true → may_be is_file_type kind ≡ true
    → (is_file_name (unwrap_or name []) ≡ true) × (is_file_type (unwrap_or kind []) ≡ true)
own_forms to None kind has may_name may_kind = absurd (cc)
own_forms to (Some name) None has may_name may_kind =
    let parts = or_parts (is_star name) false has in
    (second_of_or (is_star name) (is_file_name name) parts.0 may_name, refl)
own_forms to (Some name) (Some kind) has may_name may_kind =
    let parts = or_parts (is_star name) (is_star kind) has in
    (second_of_or (is_star name) (is_file_name name) parts.0 may_name, second_of_or (is_star kind) (is_file_type kind) parts.1 may_kind)

-- the rows with the one that is written are those of a store
pub rows_written : (directories : List Directory) (keep moment : ℕ) (to : Place) (bytes : List ℕ) (rows : List Row) (generation : ℕ)
    → AreRows directories rows → IsTarget to directories → nat_le keep RETENTION_LIMIT ≡ true → lacks_name to ≡ false
    → admitted (own_key to) to.generation (length bytes) rows ≡ Ok generation
    → AreRows directories (added keep (written_row to keep moment bytes generation) rows)
rows_written directories keep moment to bytes rows generation are target kept has admits =
    let known = admitted_is (own_key to) to.generation (length bytes) rows generation (counted_target to.generation target.generation) admits in
    let forms = own_forms to to.name to.kind has target.name target.kind in
    let form : is_row_among directories (written_row to keep moment bytes generation) ≡ true =
    formed_is directories (written_row to keep moment bytes generation) (record {
      there = target.there;
      name = forms.0;
      kind = forms.1;
      generation = known.free.within;
      stamped = new_stamped keep (moment_of moment) generation (own_key to) bytes kept (moment_within moment);
      short = le-leb (length bytes) FILE_LIMIT known.roomy.short;
    }) in
    rows_added directories keep (written_row to keep moment bytes generation) rows are known form

pub write_sound : (state : State) (to : Place) (bytes : List ℕ) (moment keep generation : ℕ) (change : Change) → IsWellFormed state
    → IsTarget to state.directories → nat_le keep RETENTION_LIMIT ≡ true → lacks_name to ≡ false
    → admitted (own_key to) to.generation (length bytes) state.rows ≡ Ok generation
    → change ≡ adds_one (written_row to keep moment bytes generation)
    → IsWellFormed (applied change state)
write_sound state to bytes moment keep generation change well target kept has admits is =
    let row = written_row to keep moment bytes generation in
    subst (λ (next : State). IsWellFormed next)
    (sym (ap (λ (each : Change). applied each state) is
    ∙ changes_files state None (changes.Add row ∷ []) ((record { source = full_of row; target = full_of row }) ∷ [])))
    (well_formed_with_rows state _ well
    (rows_written state.directories keep moment to bytes state.rows generation well.draft.rows target kept has admits))
