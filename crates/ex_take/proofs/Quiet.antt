-- What lines leave of the command files: none is open, or the next line of one can be taken.
-- That no file is open after a typed line is a predicate of what acts leave (Stands), with a lemma for each word of the
-- definition, here and in QuietLines, and one induction that takes what follows as a function (QuietKeys).
use Rattle.std.proofs.Common.{◌≡◌, ◌⊎◌, inl, inr, ℕ, suc, ◌-◌, ◌==◌, ◌&&◌, Bool, true, false, cond, List, [], ◌∷◌, ◌++◌, map, length, slice_get, Option, None, Some, refl, sym, ap, ◌∙◌, subst, arith}
use Rattle.std.specs.Option.{option_map_or}
use Rattle.cm_lists.proofs.Pieces.{cons_is_not_empty}
use Rattle.cm_fields.specs.declared.code.Code.{Code}
use Rattle.cm_run.specs.Semantics.{Effect}
use Rattle.cm_run.specs.Obey.{left_by}
use Rattle.cm_run.proofs.Acts.{left_append}
use Rattle.ex_store.specs.declared.place.Place.{Place}
use Rattle.ex_commands.specs.Act.{act_of}
use Rattle.cm_blocks.specs.FieldView.{FieldView}
use Rattle.cm_blocks.specs.declared.function.Role.TheVariants as roles
use Rattle.cm_state.specs.Roles.{field_of}
use Rattle.ex_commands.specs.Line.{keyword_code}
use Rattle.ex_commands.specs.Command.{added, complete, is_pending, with_sub}
use Rattle.ex_commands.specs.declared.acted.Acted.{Acted}
use Rattle.ex_commands.specs.declared.acted.Acted.TheVariants as answers
use Rattle.ex_commands.specs.declared.command.Command.{Command}
use Rattle.ex_commands.specs.declared.command.Command.TheVariants as commands
use Rattle.ex_take.specs.Exec.{after_end, closes, completion_effects, end_effects, fault_effects, follows, innermost, is_over, lifted, looks_ahead, next_fault, open_files, settles, stopped, taken_by, unwaiting}
use Rattle.ex_take.specs.ExecState.{ExecState}
use Rattle.ex_take.specs.Interpreter.{becomes, completion_answer, effect_of, pending_complete, subcommand_effects}
use Rattle.ex_take.specs.InterpreterState.{InterpreterState}
use Rattle.ex_take.specs.Quiet.{IsQuiet, Waits}
use Rattle.ex_take.specs.declared.pending.Pending.{Pending}
use Rattle.ex_take.proofs.States.{otherwise}
use Rattle.ex_take.proofs.Sequels.{left_lifted}

-- a file is open, of which the next line can be taken; so many were taken
pub record IsOpen (taken : ℕ) (at : ExecState) : Type 0 where
  pub line : at.interpreter.typing ≡ None
  pub waits : Waits at.interpreter.pending
  pub some : (length at.files == 0) ≡ false
  pub on : is_over (innermost at.files) ≡ false
  pub fault : next_fault at.taken (innermost at.files) ≡ None
  pub count : at.taken ≡ taken

-- none is open, or one is, unless LOGOUT has acted
abbrev pub Stands : ℕ → ExecState → Type 0
Stands taken at = at.interpreter.ended ≡ false → IsQuiet at ⊎ IsOpen taken at

-- none is open, no command waits, and no file is typed in
pub record AreClosed (at : ExecState) : Type 0 where
  pub files : at.files ≡ []
  pub taken : at.taken ≡ 0
  pub line : at.interpreter.typing ≡ None
  pub free : at.interpreter.pending ≡ None

abbrev pub StandsClosed : ℕ → ExecState → Type 0
StandsClosed taken at = at.interpreter.ended ≡ false → AreClosed at ⊎ IsOpen taken at

none_waits : (pending : Option Pending) → pending ≡ None → Waits pending
none_waits pending none = subst (λ (it : Option Pending). Waits it) (sym none) tt

pub closed_quiet : (at : ExecState) → AreClosed at → IsQuiet at
closed_quiet at closed = record {
  files = closed.files;
  taken = closed.taken;
  waits = none_waits at.interpreter.pending closed.free;
}

pub closed_stands : (taken : ℕ) (at : ExecState) → StandsClosed taken at → Stands taken at
closed_stands taken at stands = λ going. by (stands going) where
  by : AreClosed at ⊎ IsOpen taken at → IsQuiet at ⊎ IsOpen taken at
  by (inl closed) = inl (closed_quiet at closed)
  by (inr held) = inr held

-- a refusal closes all files
pub stopped_stands : (taken : ℕ) (code : Code) (at : ExecState) → Stands taken (stopped code at)
stopped_stands taken code at = λ going. inl (record { files = refl; taken = refl; waits = tt })

pub stopped_closed : (taken : ℕ) (code : Code) (at : ExecState) → at.interpreter.typing ≡ None → StandsClosed taken (stopped code at)
stopped_closed taken code at line = λ going. inl (record { files = refl; taken = refl; line = line; free = refl })

pub quiet_stands : (taken : ℕ) (at : ExecState) → IsQuiet at → Stands taken at
quiet_stands taken at quiet = λ going. inl quiet

-- the last of the files that go on is not over
last_of_more : (one file : List (List ℕ)) (files : List (List (List ℕ))) → innermost (one ∷ file ∷ files) ≡ innermost (file ∷ files)
last_of_more one file files =
    let size : length (one ∷ file ∷ files) ≡ suc (length (file ∷ files)) = refl in
    let more : length (file ∷ files) ≡ suc (length files) = refl in
    let last : length (one ∷ file ∷ files) - 1 ≡ suc (length (file ∷ files) - 1) = omega (arith, size, more) in
    ap (λ (n : ℕ). slice_get (one ∷ file ∷ files) n) last

last_is_on : (files : List (List (List ℕ))) → is_over (innermost (open_files files)) ≡ false
last_is_on [] = refl
last_is_on (one ∷ files) = by (open_files files) (length one == 0) refl (last_is_on files) where
  by : (others : List (List (List ℕ))) (over : Bool) → (length one == 0) ≡ over → is_over (innermost others) ≡ false
      → is_over (innermost (cond (length others == 0 && over) [] (one ∷ others))) ≡ false
  by [] true is on = refl
  by [] false is on = is
  by (file ∷ others) over is on =
      ap (λ (none : Bool). is_over (innermost (cond (none && over) [] (one ∷ file ∷ others)))) (cons_is_not_empty file others)
      ∙ ap is_over (last_of_more one file others) ∙ on

-- the next line is looked at
looks_stand : (at : ExecState) → at.interpreter.typing ≡ None → Waits at.interpreter.pending → (length at.files == 0) ≡ false
    → is_over (innermost at.files) ≡ false → StandsClosed at.taken (left_by at (looks_ahead at))
unfolding looks_ahead
looks_stand at line waits some on = by (next_fault at.taken (innermost at.files)) refl where
  by : (fault : Option Code) → next_fault at.taken (innermost at.files) ≡ fault → StandsClosed at.taken (left_by at (fault_effects at fault))
  by None is = λ going. inr (record { line = line; waits = waits; some = some; on = on; fault = is; count = refl })
  by (Some code) is = stopped_closed at.taken code at line

-- where no file is open none has a next line
looks_none : (at : ExecState) → at.files ≡ [] → looks_ahead at ≡ []
unfolding looks_ahead
looks_none at none = ap (λ (files : List (List (List ℕ))). fault_effects at (next_fault at.taken (innermost files))) none

-- files that are at their end are closed
abbrev with_files : ExecState → List (List (List ℕ)) → ExecState
with_files at files = record at { files = files; taken = taken_by files at.taken }

goes_on_with : (at : ExecState) (files : List (List (List ℕ))) → at.interpreter.typing ≡ None → at.interpreter.pending ≡ None
    → is_over (innermost files) ≡ false → StandsClosed at.taken (left_by (with_files at files) (looks_ahead (with_files at files)))
goes_on_with at [] line free on =
    subst (λ (effects : List (Effect ExecState)). StandsClosed at.taken (left_by (with_files at []) effects)) (sym (looks_none (with_files at []) refl))
    (λ going. inl (record { files = refl; taken = refl; line = line; free = free }))
goes_on_with at (file ∷ files) line free on =
    subst (λ (n : ℕ). StandsClosed n (left_by (with_files at (file ∷ files)) (looks_ahead (with_files at (file ∷ files)))))
    (ap (λ (none : Bool). cond none 0 at.taken) (cons_is_not_empty file files))
    (looks_stand (with_files at (file ∷ files)) line (none_waits at.interpreter.pending free) (cons_is_not_empty file files) on)

closes_stand : (at : ExecState) → at.interpreter.typing ≡ None → at.interpreter.pending ≡ None → StandsClosed at.taken (left_by at (closes at))
unfolding closes
closes_stand at line free = goes_on_with at (open_files at.files) line free (last_is_on at.files)

-- after the end of a file
after_stands : (at : ExecState) (answer : Acted) → at.interpreter.typing ≡ None → at.interpreter.pending ≡ None
    → StandsClosed at.taken (left_by at (after_end at answer))
unfolding after_end
after_stands at (answers.Refused code) line free = stopped_closed at.taken code at line
after_stands at answers.Ok line free = closes_stand at line free
after_stands at answers.Pending line free = closes_stand at line free
after_stands at answers.Data line free = closes_stand at line free
after_stands at answers.Take line free = closes_stand at line free
after_stands at answers.Logout line free = closes_stand at line free
after_stands at answers.NoMemory line free = closes_stand at line free
after_stands at answers.Failed line free = closes_stand at line free

-- only BUILD and DIRECTORY have subcommands, with which they stay what they are
abbrev pub takes_subs : Command → Bool
takes_subs (commands.Build directory retention sub) = true
takes_subs (commands.Directory files since before deleted read sub) = true
takes_subs command = false

chosen : (test : Bool) (a b : Command) → takes_subs a ≡ true → takes_subs b ≡ true → takes_subs (cond test a b) ≡ true
chosen true a b one other = one
chosen false a b one other = other

mapped : (f : FieldView → Command) (verb : Option FieldView) (command : Command) → ((it : FieldView) → takes_subs (f it) ≡ true)
    → takes_subs command ≡ true → takes_subs (option_map_or f verb command) ≡ true
mapped f None command each is = is
mapped f (Some it) command each is = each it

pub added_stays : (fields : List FieldView) (command : Command) → is_pending command ≡ true → takes_subs (added fields command) ≡ true
added_stays fields (commands.Build directory retention sub) is =
    chosen (length fields == 0) (commands.Build directory retention false) _ refl
    (mapped (λ (verb : FieldView). with_sub (keyword_code verb.value) (field_of roles.Value fields) (commands.Build directory retention sub)) (field_of roles.Verb fields)
    (commands.Build directory retention sub) (λ it. refl) refl)
added_stays fields (commands.Directory files since before deleted read sub) is =
    chosen (length fields == 0) (commands.Directory files since before deleted read false) _ refl
    (mapped (λ (verb : FieldView). with_sub (keyword_code verb.value) (field_of roles.Value fields) (commands.Directory files since before deleted read sub)) (field_of roles.Verb fields)
    (commands.Directory files since before deleted read sub) (λ it. refl) refl)
added_stays fields command is = absurd (cc)

pub complete_stays : (command : Command) → is_pending command ≡ true → takes_subs (complete command) ≡ true
complete_stays (commands.Build directory retention sub) is = refl
complete_stays (commands.Directory files since before deleted read sub) is = refl
complete_stays command is = absurd (cc)

pub complete_waits_not : (command : Command) → is_pending command ≡ true → is_pending (complete command) ≡ false
complete_waits_not (commands.Build directory retention sub) is = refl
complete_waits_not (commands.Directory files since before deleted read sub) is = refl
complete_waits_not command is = absurd (cc)

pub no_logout : (command : Command) → takes_subs command ≡ true → command ≡ commands.Logout → ⊥
no_logout command takes is = let wrong : true ≡ false = sym takes ∙ ap takes_subs is in cc

no_copy : (command : Command) → takes_subs command ≡ true → (to : Place) → command ≡ commands.CopyTty to → ⊥
no_copy command takes to is = let wrong : true ≡ false = sym takes ∙ ap takes_subs is in cc

-- such a command becomes nothing else by its act
module _ (interpreter : InterpreterState) (moment : ℕ) (command : Command) (takes : takes_subs command ≡ true) (acts : is_pending command ≡ false) where
  same : interpreter ≡ becomes interpreter moment command (act_of command moment interpreter.state).answer
  same = otherwise interpreter moment command acts (no_logout command takes) (no_copy command takes)

  pub sub_line : (effect_of interpreter moment command).state.typing ≡ interpreter.typing
  sub_line = ap (λ (it : InterpreterState). it.typing) (sym same)

  pub sub_free : (effect_of interpreter moment command).state.pending ≡ interpreter.pending
  sub_free = ap (λ (it : InterpreterState). it.pending) (sym same)

  pub sub_goes : (effect_of interpreter moment command).state.ended ≡ interpreter.ended
  sub_goes = ap (λ (it : InterpreterState). it.ended) (sym same)

-- acts of the EXEC's, and what follows them
pub followed_left : (at : ExecState) (effects : List (Effect InterpreterState)) (more : List (Effect ExecState))
    → left_by at (map (lifted at) effects ++ more) ≡ left_by (record at { interpreter = left_by at.interpreter effects }) more
followed_left at effects more =
    left_append (map (lifted at) effects) more at ∙ ap (λ (it : ExecState). left_by it more) (left_lifted at effects at.interpreter)

-- at the end of a file a command that waits acts
completion_stands : (at : ExecState) (pending : Pending) → at.interpreter.typing ≡ None → is_pending pending.command ≡ true
    → StandsClosed at.taken (left_by at (completion_effects (unwaiting at) (pending_complete pending)))
completion_stands at pending line waits =
    let on = unwaiting at in
    let whole = pending_complete pending in
    let effects = subcommand_effects on.interpreter whole in
    let answer = completion_answer on.interpreter whole in
    let takes : takes_subs whole.command ≡ true = complete_stays pending.command waits in
    let over : is_pending whole.command ≡ false = complete_waits_not pending.command waits in
    let left : left_by on.interpreter effects ≡ (effect_of on.interpreter whole.moment whole.command).state
    = ap (λ (more : Bool). left_by (record on.interpreter { pending = Some whole })
    (cond more [] (effect_of on.interpreter whole.moment whole.command ∷ []))) over in
    subst (λ (it : ExecState). StandsClosed at.taken it) (sym (followed_left on effects (after_end (record on { interpreter = left_by on.interpreter effects }) answer)))
    (after_stands (record on { interpreter = left_by on.interpreter effects }) answer
    (ap (λ (it : InterpreterState). it.typing) left ∙ sub_line on.interpreter whole.moment whole.command takes over ∙ line)
    (ap (λ (it : InterpreterState). it.pending) left ∙ sub_free on.interpreter whole.moment whole.command takes over))

end_stands : (at : ExecState) → at.interpreter.typing ≡ None → Waits at.interpreter.pending
    → StandsClosed at.taken (left_by at (end_effects at at.interpreter.pending))
end_stands at line waits = by at.interpreter.pending refl waits where
  by : (pending : Option Pending) → at.interpreter.pending ≡ pending → Waits pending → StandsClosed at.taken (left_by at (end_effects at pending))
  by None is free = closes_stand at line is
  by (Some pending) is waits = completion_stands at pending line waits

-- after an act the files that are open go on
pub settles_stand : (at : ExecState) → at.interpreter.typing ≡ None → Waits at.interpreter.pending → (length at.files == 0) ≡ false
    → StandsClosed at.taken (left_by at (settles at))
unfolding settles
settles_stand at line waits some = by (is_over (innermost at.files)) refl where
  by : (over : Bool) → is_over (innermost at.files) ≡ over
      → StandsClosed at.taken (left_by at (cond over (end_effects at at.interpreter.pending) (looks_ahead at)))
  by true is = end_stands at line waits
  by false is = looks_stand at line waits some is

-- and where none is open nothing follows
settles_none : (at : ExecState) → at.files ≡ [] → settles at ≡ []
unfolding settles looks_ahead
settles_none at none =
    ap (λ (files : List (List (List ℕ))). cond (is_over (innermost files)) (end_effects at at.interpreter.pending)
    (fault_effects at (next_fault at.taken (innermost files)))) none

settles_quiet : (at : ExecState) (taken : ℕ) → IsQuiet at → Stands taken (left_by at (settles at))
settles_quiet at taken quiet =
    subst (λ (effects : List (Effect ExecState)). Stands taken (left_by at effects)) (sym (settles_none at quiet.files)) (quiet_stands taken at quiet)

settles_closed : (at : ExecState) (taken : ℕ) → AreClosed at → StandsClosed taken (left_by at (settles at))
settles_closed at taken closed =
    subst (λ (effects : List (Effect ExecState)). StandsClosed taken (left_by at effects)) (sym (settles_none at closed.files)) (λ going. inl closed)

pub follows_quiet : (at : ExecState) (taken : ℕ) (answer : Acted) → IsQuiet at → Stands taken (left_by at (follows at answer))
unfolding follows
follows_quiet at taken (answers.Refused code) quiet = stopped_stands taken code at
follows_quiet at taken answers.Logout quiet = quiet_stands taken at quiet
follows_quiet at taken answers.Ok quiet = settles_quiet at taken quiet
follows_quiet at taken answers.Pending quiet = settles_quiet at taken quiet
follows_quiet at taken answers.Data quiet = settles_quiet at taken quiet
follows_quiet at taken answers.Take quiet = settles_quiet at taken quiet
follows_quiet at taken answers.NoMemory quiet = settles_quiet at taken quiet
follows_quiet at taken answers.Failed quiet = settles_quiet at taken quiet

pub follows_closed : (at : ExecState) (taken : ℕ) (answer : Acted) → AreClosed at → StandsClosed taken (left_by at (follows at answer))
unfolding follows
follows_closed at taken (answers.Refused code) closed = stopped_closed taken code at closed.line
follows_closed at taken answers.Logout closed = λ going. inl closed
follows_closed at taken answers.Ok closed = settles_closed at taken closed
follows_closed at taken answers.Pending closed = settles_closed at taken closed
follows_closed at taken answers.Data closed = settles_closed at taken closed
follows_closed at taken answers.Take closed = settles_closed at taken closed
follows_closed at taken answers.NoMemory closed = settles_closed at taken closed
follows_closed at taken answers.Failed closed = settles_closed at taken closed

pub ended_not : (at : ExecState) (taken : ℕ) → at.interpreter.ended ≡ true → StandsClosed taken at
ended_not at taken ended = λ going. let wrong : true ≡ false = sym ended ∙ going in absurd (cc)

pub follows_stand : (at : ExecState) (answer : Acted) → at.interpreter.typing ≡ None → Waits at.interpreter.pending → (length at.files == 0) ≡ false
    → (answer ≡ answers.Logout → at.interpreter.ended ≡ true) → StandsClosed at.taken (left_by at (follows at answer))
unfolding follows
follows_stand at (answers.Refused code) line waits some ends = stopped_closed at.taken code at line
follows_stand at answers.Logout line waits some ends = ended_not at at.taken (ends refl)
follows_stand at answers.Ok line waits some ends = settles_stand at line waits some
follows_stand at answers.Pending line waits some ends = settles_stand at line waits some
follows_stand at answers.Data line waits some ends = settles_stand at line waits some
follows_stand at answers.Take line waits some ends = settles_stand at line waits some
follows_stand at answers.NoMemory line waits some ends = settles_stand at line waits some
follows_stand at answers.Failed line waits some ends = settles_stand at line waits some
