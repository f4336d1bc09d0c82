-- [expunge] What stays: the rows that are not expunged, and the directories under every plan.
use Rattle.std.proofs.Common.{◌≡◌, ℕ, ◌&&◌, Bool, true, false, not, cond, List, [], ◌++◌, map, Contains, Result, Ok, Err, refl, ap, ◌∙◌, subst}
use Rattle.std.proofs.lemmas.Bool.{not-true, not_from_false}
use Rattle.cm_lists.specs.Ascent.{insertion}
use Rattle.cm_lists.proofs.Filters.{Contains-filter, Contains_of_filter}
use Rattle.cm_fields.specs.declared.code.Code.{Code}
use Rattle.ex_store.specs.declared.directory.Definition.{Definition}
use Rattle.ex_store.specs.declared.directory.Directory.{Directory}
use Rattle.ex_store.specs.declared.plan.Plan.{Plan}
use Rattle.ex_store.specs.declared.plan.Plan.TheVariants as plans
use Rattle.ex_store.specs.declared.queue.QueueEntry.{QueueEntry}
use Rattle.ex_store.specs.declared.row.Row.{Row}
use Rattle.ex_store.specs.Adding.{Outcome, and_then}
use Rattle.ex_store.specs.Building.{built, by_directory, with_directory}
use Rattle.ex_store.specs.Defining.{definition_of, with_definition}
use Rattle.ex_store.specs.Plan.{Planned, planned, sources, with_rows}
use Rattle.ex_store.specs.Printing.{entries_for, own_pairs}
use Rattle.ex_store.specs.Rows.{expunged, is_in}
use Rattle.ex_store.specs.State.{State, has_directory}
use Rattle.ex_store.proofs.BuiltLaws.{inserted_has, kept_as, kept_has}

pub expunged_rows : (directory : List ℕ) (row : Row) (rows : List Row)
    → (Contains (expunged directory rows) row → Contains rows row × ((is_in directory row && row.file.deleted) ≡ false))
    × (Contains rows row × ((is_in directory row && row.file.deleted) ≡ false) → Contains (expunged directory rows) row)
expunged_rows directory row rows = (there, back)
  where
    left : Row → Bool
    left other = not (is_in directory other && other.file.deleted)

    there : Contains (expunged directory rows) row → Contains rows row × ((is_in directory row && row.file.deleted) ≡ false)
    there stays =
        let found : Contains rows row × (left row ≡ true) = Contains_of_filter left row rows stays in
        (found.0, not-true (is_in directory row && row.file.deleted) found.1)

    back : Contains rows row × ((is_in directory row && row.file.deleted) ≡ false) → Contains (expunged directory rows) row
    back stands = Contains-filter left row rows stands.0.0 stands.0.1 stands.0.2 (not_from_false (is_in directory row && row.file.deleted) stands.1)

with_there : (made : Directory) (directories : List Directory) (name : List ℕ) → has_directory name directories ≡ true
    → has_directory name (with_directory made directories) ≡ true
with_there made directories name there = by (has_directory made.name directories)
  where
    by : (b : Bool) → has_directory name (cond b (map (kept_as made.name made.retention) directories) (insertion by_directory made directories)) ≡ true
    by true = kept_has name made.name made.retention directories ∙ there
    by false = inserted_has name made directories there

built_there : (state : State) (plan : Result Directory Code) (made : Planned)
    → and_then (λ (directory : Directory).
    Ok (record { state = record state { directories = with_directory directory state.directories }; pairs = [] })) plan ≡ Ok made
    → (name : List ℕ) → has_directory name state.directories ≡ true → has_directory name made.state.directories ≡ true
built_there state (Ok directory) made is name there =
    let same : record { state = record state { directories = with_directory directory state.directories }; pairs = [] } ≡ made = cc in
    subst (λ (each : Planned). has_directory name each.state.directories ≡ true) same (with_there directory state.directories name there)
built_there state (Err code) made is name there = absurd (cc)

rows_there : (state : State) (plan : Result Outcome Code) (made : Planned) → with_rows state plan ≡ Ok made
    → (name : List ℕ) → has_directory name state.directories ≡ true → has_directory name made.state.directories ≡ true
rows_there state (Ok outcome) made is name there =
    let same : record { state = record state { rows = outcome.rows }; pairs = outcome.pairs } ≡ made = cc in
    subst (λ (each : Planned). has_directory name each.state.directories ≡ true) same there
rows_there state (Err code) made is name there = absurd (cc)

-- a plan that changes no directory
others_there : {A : Type 0} (state : State) (next : A → Planned) (plan : Result A Code)
    → ((value : A) → (next value).state.directories ≡ state.directories) → (made : Planned)
    → and_then (λ value. Ok (next value)) plan ≡ Ok made
    → (name : List ℕ) → has_directory name state.directories ≡ true → has_directory name made.state.directories ≡ true
others_there state next (Ok value) stays made is name there =
    let same : next value ≡ made = cc in
    subst (λ (each : Planned). has_directory name each.state.directories ≡ true) same
    (ap (has_directory name) (stays value) ∙ there)
others_there state next (Err code) stays made is name there = absurd (cc)

-- no plan takes a directory away
pub directories_stay : (plan : Plan) (moment : ℕ) (state : State) (made : Planned) → planned plan moment state ≡ Ok made
    → (name : List ℕ) → has_directory name state.directories ≡ true → has_directory name made.state.directories ≡ true
unfolding planned
directories_stay (plans.Build directory retention) moment state made is = built_there state (built directory retention state.directories) made is
directories_stay (plans.Define name directory) moment state made is = others_there state
    (λ (definition : Definition). record { state = record state { logical = with_definition definition state.logical }; pairs = [] })
    (definition_of name directory state.logical) (λ definition. refl) made is
directories_stay (plans.Copy from to) moment state made is = rows_there state _ made is
directories_stay (plans.Rename from to) moment state made is = rows_there state _ made is
directories_stay (plans.Append from to) moment state made is = rows_there state _ made is
directories_stay (plans.Write to bytes) moment state made is = rows_there state _ made is
directories_stay (plans.Print files request) moment state made is = others_there state
    (λ (entries : List QueueEntry). record { state = record state { queue = state.queue ++ entries }; pairs = own_pairs (sources files state) })
    (entries_for request (sources files state) state.queue) (λ entries. refl) made is
