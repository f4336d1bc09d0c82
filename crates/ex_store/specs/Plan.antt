-- What a plan makes of a state, and from which file to which one each went; or the first refusal.
use Rattle.std.specs.Prelude.{ℕ, ◌≡◌, ◌<◌, ◌≤◌, ◌||◌, ◌&&◌, nat_le, Bool, true, false, List, [], ◌++◌, length, Option, None, Some, Result, Ok, Err, IfSome}
use Rattle.std.specs.List.{list_all}
use Rattle.cm_text.specs.Bytes.{is_text}
use Rattle.cm_text.specs.declared.name.TheConstants.{NAME_LIMIT}
use Rattle.cm_fields.specs.declared.code.Code.{Code}
use Rattle.cm_fields.specs.declared.value.Gen.{Gen}
use Rattle.cm_fields.specs.declared.value.Gen.TheVariants.{Missing, Highest, Next, Lowest, All, Number}
use Rattle.cm_files.specs.Catalogue.{is_directory_name}
use Rattle.cm_files.specs.LogicalName.{is_logical_name}
use Rattle.ex_store.specs.declared.directory.Directory.{Directory}
use Rattle.ex_store.specs.declared.key.NamePair.{NamePair}
use Rattle.ex_store.specs.declared.limits.TheConstants.{COPIES_LIMIT, FORMS, RETENTION_LIMIT}
use Rattle.ex_store.specs.declared.place.Place.{Place}
use Rattle.ex_store.specs.declared.plan.Plan.{Plan}
use Rattle.ex_store.specs.declared.plan.Plan.TheVariants as plans
use Rattle.ex_store.specs.declared.plan.Refusal.{Refusal}
use Rattle.ex_store.specs.declared.plan.Refusal.TheVariants as refusals
use Rattle.ex_store.specs.declared.print.Request.{Request}
use Rattle.ex_store.specs.declared.row.Row.{Row}
use Rattle.ex_store.specs.Adding.{Outcome, and_then}
use Rattle.ex_store.specs.Appending.{appended}
use Rattle.ex_store.specs.Building.{built, with_directory}
use Rattle.ex_store.specs.Copying.{all_copied, is_star, moment_of, written}
use Rattle.ex_store.specs.Defining.{definition_of, with_definition}
use Rattle.ex_store.specs.Printing.{entries_for, own_pairs}
use Rattle.ex_store.specs.Renaming.{all_renamed}
use Rattle.ex_store.specs.Selection.{selected, touched}
use Rattle.ex_store.specs.State.{State, has_directory, retention_of}
use Rattle.ex_store.specs.WellFormed.{is_day, is_file_name, is_file_type, is_numbered}

-- the state after a plan, and its pairs in order
pub record Planned : Type 0 where
  pub state : State
  pub pairs : List NamePair

-- the rows that a place selects by its own flag
abbrev pub sources : Place → State → List Row
sources from state = selected from.flags.deleted from state

-- the state with these rows
abbrev pub with_rows : State → Result Outcome Code → Result Planned Code
with_rows state =
    and_then (λ outcome. Ok (record { state = record state { rows = outcome.rows }; pairs = outcome.pairs }))

-- how many generations the directory of a target keeps
abbrev pub retention_at : Place → State → ℕ
retention_at to state = retention_of to.directory state.directories

-- the rows, where the sources are read at the moment of the line
abbrev pub read_at : ℕ → Place → State → List Row
read_at moment from state = touched (moment_of moment) from state

-- [plan]
-- sources are those of the start, in ascending order, and each is taken in turn; a copy and an appending read them
-- first
unfoldable pub planned : Plan → ℕ → State → Result Planned Code
planned (plans.Build directory retention) moment state =
    and_then (λ made.
    Ok (record { state = record state { directories = with_directory made state.directories }; pairs = [] }))
    (built directory retention state.directories)
planned (plans.Define name directory) moment state =
    and_then (λ made.
    Ok (record { state = record state { logical = with_definition made state.logical }; pairs = [] }))
    (definition_of name directory state.logical)
planned (plans.Copy from to) moment state =
    with_rows state (all_copied (retention_at to state) moment to (sources from state) (read_at moment from state))
planned (plans.Rename from to) moment state =
    with_rows state (all_renamed to (sources from state) state.rows)
planned (plans.Append from to) moment state =
    with_rows state (appended (retention_at to state) moment to (sources from state) (read_at moment from state))
planned (plans.Write to bytes) moment state =
    with_rows state (written (retention_at to state) moment to bytes state.rows)
planned (plans.Print files request) moment state =
    and_then (λ entries.
    Ok (record { state = record state { queue = state.queue ++ entries }; pairs = own_pairs (sources files state) }))
    (entries_for request (sources files state) state.queue)

-- a part of a target's name: none, `*`, or one that a file may have
abbrev pub may_be : (List ℕ → Bool) → Option (List ℕ) → Bool
may_be test None = true
may_be test (Some part) = is_star part || test part

-- a generation that a file can be added under
abbrev pub may_number : Gen → Bool
may_number Missing = true
may_number Highest = false
may_number Next = true
may_number Lowest = false
may_number All = false
may_number (Number number) = is_numbered number

-- where a plan may put files: in a directory that is there, under a name, `*` or none, and a number or the next
pub record IsTarget (to : Place) (directories : List Directory) : Type 0 where
  pub there : has_directory to.directory directories ≡ true
  pub name : may_be is_file_name to.name ≡ true
  pub kind : may_be is_file_type to.kind ≡ true
  pub generation : may_number to.generation ≡ true

abbrev pub has_plain_name : Option (List ℕ) → Bool
has_plain_name None = false
has_plain_name (Some name) = is_file_name name

abbrev pub has_plain_kind : Option (List ℕ) → Bool
has_plain_kind None = true
has_plain_kind (Some kind) = is_file_type kind

-- a generation that bytes can be put after
abbrev pub may_grow : Gen → Bool
may_grow Missing = true
may_grow Highest = true
may_grow Next = true
may_grow Lowest = true
may_grow All = false
may_grow (Number number) = is_numbered number

-- what bytes may be put after: one file
pub record IsOneFile (to : Place) (directories : List Directory) : Type 0 where
  pub there : has_directory to.directory directories ≡ true
  pub name : has_plain_name to.name ≡ true
  pub kind : has_plain_kind to.kind ≡ true
  pub generation : may_grow to.generation ≡ true

-- a job that has a name, or none
abbrev pub may_be_job : Option (List ℕ) → Bool
may_be_job None = true
may_be_job (Some job) = is_file_name job

-- what may be asked for with files that are printed: what an entry of the queue may have
pub record IsRequest (request : Request) : Type 0 where
  pub some : 0 < request.copies
  pub few : request.copies ≤ COPIES_LIMIT
  pub form : request.form < FORMS
  pub after : is_day request.after ≡ true
  pub job : may_be_job request.job ≡ true
  pub note : (nat_le (length request.note) NAME_LIMIT && list_all is_text request.note) ≡ true

-- where files may be taken from
abbrev pub IsSource : Place → State → Type 0
IsSource from state = has_directory from.directory state.directories ≡ true

-- a plan that can be prepared
abbrev pub MayPlan : Plan → State → Type 0
MayPlan (plans.Build directory retention) state =
    (is_directory_name directory ≡ true) × IfSome retention (λ count. count ≤ RETENTION_LIMIT)
MayPlan (plans.Define name directory) state =
    (is_logical_name name ≡ true) × (has_directory directory state.directories ≡ true)
MayPlan (plans.Copy from to) state = IsSource from state × IsTarget to state.directories
MayPlan (plans.Rename from to) state = IsSource from state × IsTarget to state.directories
MayPlan (plans.Append from to) state = IsSource from state × IsOneFile to state.directories
MayPlan (plans.Write to bytes) state = IsTarget to state.directories
MayPlan (plans.Print files request) state = IsSource files state × IsRequest request

-- a plan is refused with this code, or there was no memory for it
abbrev pub IsRefused : {A : Type 0} → Result A Code → Refusal → Type 0
IsRefused plan (refusals.Code code) = plan ≡ Err code
IsRefused plan refusals.NoMemory = Unit {0}
