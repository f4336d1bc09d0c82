-- What an answer says of what a command does.
use Rattle.std.specs.Prelude.{◌≡◌, ℕ, ◌<◌, ℤ, Bool, true, false, not, ◌&&◌, nat_le, is_some, length, ◌≤◌, IfSome, List, Option, None, Some}
use Rattle.std.specs.List.{list_all}
use Rattle.cm_text.specs.Bytes.{is_text}
use Rattle.cm_text.specs.declared.name.TheConstants.{NAME_LIMIT}
use Rattle.cm_files.specs.Catalogue.{is_directory_name}
use Rattle.cm_files.specs.LogicalName.{is_logical_name}
use Rattle.cm_io.specs.declared.sink.Put.{Put}
use Rattle.cm_io.specs.declared.sink.Put.TheVariants.{Done, Failed}
use Rattle.cm_io.specs.Fault.{Rose}
use Rattle.cm_io.specs.Contents.{Contents, add, AddsPart}
use Rattle.ex_store.specs.declared.limits.TheConstants.{FORMS, RETENTION_LIMIT}
use Rattle.ex_store.specs.Plan.{IsOneFile, IsSource, IsTarget, may_be_job}
use Rattle.ex_store.specs.State.{State, has_directory}
use Rattle.ex_store.specs.WellFormed.{is_day}
use Rattle.ex_commands.specs.declared.acted.Acted.{Acted}
use Rattle.ex_commands.specs.declared.acted.Acted.TheVariants as answers
use Rattle.ex_commands.specs.declared.command.Command.{Command}
use Rattle.ex_commands.specs.declared.command.Command.TheVariants as commands
use Rattle.ex_commands.specs.Effect.{Act}

-- it is done: this is its answer, its whole reply is put, and it leaves its state
pub record IsDone (before now : Contents) (act : Act) (left : State) (answer : Acted) : Type 0 where
  pub answer_is : act.answer ≡ answer
  pub contents : now ≡ add before act.reply
  pub state : left ≡ act.state

-- memory ran out where it may be: nothing is put, and nothing changes
pub record IsLacking (before now : Contents) (lacks : Bool) (start left : State) : Type 0 where
  pub may_allocate : lacks ≡ true
  pub contents : now ≡ before
  pub state : left ≡ start

-- the reply was cut: a part of it is put, and the act leaves its state all the same
pub record IsCut (before now : Contents) (act : Act) (left : State) : Type 0 where
  pub contents : AddsPart before now act.reply
  pub state : left ≡ act.state

-- [cut-reply] what the answer says of an act, given whether memory may run out for it
abbrev pub Answers : Contents → Contents → Act → Bool → State → State → Acted → Type 0
Answers before now act lacks state left answers.NoMemory = IsLacking before now lacks state left
Answers before now act lacks state left answers.Failed = IsCut before now act left
Answers before now act lacks state left answers.Ok = IsDone before now act left answers.Ok
Answers before now act lacks state left (answers.Refused code) = IsDone before now act left (answers.Refused code)
Answers before now act lacks state left answers.Pending = IsDone before now act left answers.Pending
Answers before now act lacks state left answers.Data = IsDone before now act left answers.Data
Answers before now act lacks state left answers.Take = IsDone before now act left answers.Take
Answers before now act lacks state left answers.Logout = IsDone before now act left answers.Logout

-- the answer to an act whose reply was put so
abbrev pub answer_by : Acted → Put → Acted
answer_by done Done = done
answer_by done Failed = answers.Failed

-- the count of faults rose where the reply was cut, and else stayed
abbrev pub ActCause : ℕ → ℕ → Acted → Type 0
ActCause before now answers.Failed = Rose before now
ActCause before now answers.NoMemory = now ≡ before
ActCause before now answers.Ok = now ≡ before
ActCause before now (answers.Refused code) = now ≡ before
ActCause before now answers.Pending = now ≡ before
ActCause before now answers.Data = now ≡ before
ActCause before now answers.Take = now ≡ before
ActCause before now answers.Logout = now ≡ before

-- the commands that take memory
abbrev pub may_allocate : Command → Bool
may_allocate (commands.Append from to) = true
may_allocate (commands.Build directory retention sub) = not sub
may_allocate (commands.Copy from to) = true
may_allocate (commands.Define name directory) = is_some directory
may_allocate (commands.Print files copies form after job note) = true
may_allocate (commands.Rename from to) = true
may_allocate command = false

-- the directory is one of the state
abbrev pub IsThere : Option (List ℕ) → State → Type 0
IsThere None state = Unit {0}
IsThere (Some directory) state = has_directory directory state.directories ≡ true

-- what may be asked for with files that are printed, whatever the number of copies
pub record MayAsk (form : ℕ) (after : Option ℤ) (job : Option (List ℕ)) (note : List ℕ) : Type 0 where
  pub on_form : form < FORMS
  pub on_day : is_day after ≡ true
  pub in_job : may_be_job job ≡ true
  pub with_note : (nat_le (length note) NAME_LIMIT && list_all is_text note) ≡ true

-- a command that can be done: its directories are there, and its names and numbers have their forms
abbrev pub MayAct : Command → State → Type 0
MayAct (commands.Append from to) state = IsSource from state × IsOneFile to state.directories
MayAct (commands.Build directory retention sub) state =
    (is_directory_name directory ≡ true) × IfSome retention (λ count. count ≤ RETENTION_LIMIT)
MayAct (commands.Connect directory) state = has_directory directory state.directories ≡ true
MayAct (commands.Copy from to) state = IsSource from state × IsTarget to state.directories
MayAct (commands.Rename from to) state = IsSource from state × IsTarget to state.directories
MayAct (commands.CopyTty to) state = IsTarget to state.directories
MayAct (commands.Delete files) state = IsSource files state
MayAct (commands.Undelete files) state = IsSource files state
MayAct (commands.Directory files since before deleted read sub) state = IsSource files state
MayAct (commands.Set files keep) state = IsSource files state × (keep ≤ RETENTION_LIMIT)
MayAct (commands.Take file) state = IsSource file state
MayAct (commands.TypeOut files) state = IsSource files state
MayAct (commands.Expunge directory) state = IsThere directory state
MayAct commands.Empty state = Unit {0}
MayAct (commands.Define name None) state = Unit {0}
MayAct (commands.Define name (Some directory)) state =
    (is_logical_name name ≡ true) × (has_directory directory state.directories ≡ true)
MayAct (commands.Print files copies form after job note) state = IsSource files state × MayAsk form after job note
MayAct (commands.Information what) state = Unit {0}
MayAct commands.Logout state = Unit {0}
MayAct commands.Remark state = Unit {0}
