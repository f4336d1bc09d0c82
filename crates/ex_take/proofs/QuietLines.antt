-- What each line leaves of the command files, a typed one and one of a file.
use Rattle.std.proofs.Common.{◌≡◌, ℕ, ◌-◌, ◌==◌, Bool, true, false, cond, List, [], ◌∷◌, ◌++◌, map, length, take, drop, Option, None, Some, refl, sym, ap, ◌∙◌, subst}
use Rattle.std.specs.Option.{option_map_or}
use Rattle.cm_lists.proofs.Pieces.{push_is_not_empty}
use Rattle.cm_io.specs.Fault.{next_count}
use Rattle.cm_blocks.specs.declared.field.Ending.{Ending}
use Rattle.cm_blocks.specs.declared.field.Ending.TheVariants as endings
use Rattle.cm_fields.specs.declared.code.Code.TheVariants.{NotInTake, TakeDepth}
use Rattle.cm_state.specs.SessionState.{SessionState}
use Rattle.cm_run.specs.Semantics.{Effect}
use Rattle.cm_run.specs.Obey.{left_by}
use Rattle.ex_store.specs.declared.place.Place.{Place}
use Rattle.ex_commands.specs.Act.{Act, act_of}
use Rattle.ex_commands.specs.Commands.Take.{bytes_of}
use Rattle.ex_commands.specs.Command.{is_pending}
use Rattle.ex_commands.specs.declared.acted.Acted.{Acted}
use Rattle.ex_commands.specs.declared.acted.Acted.TheVariants as answers
use Rattle.ex_commands.specs.declared.command.Command.{Command}
use Rattle.ex_commands.specs.declared.command.Command.TheVariants as commands
use Rattle.ex_commands.proofs.Outcomes.{Comes, comes, ends_by_logout}
use Rattle.ex_take.specs.Exec.{acts, command_effects, ending_effects, file_line_effects, follows, innermost, lifted, line_by, line_effects, opened, opens, passed, pending_effects, refuses, settles, take_effects, typing_effects, unwaiting}
use Rattle.ex_take.specs.ExecState.{ExecState}
use Rattle.ex_take.specs.Interpreter.{becomes, command_at, effect_of, pending_with}
use Rattle.ex_take.specs.InterpreterState.{InterpreterState}
use Rattle.ex_take.specs.Lines.{file_lines}
use Rattle.ex_take.specs.Quiet.{IsQuiet, Waits}
use Rattle.ex_take.specs.declared.exec.TheConstants.{MOST_FILES}
use Rattle.ex_take.specs.declared.pending.Pending.{Pending}
use Rattle.ex_take.proofs.Files.{some_last}
use Rattle.ex_take.proofs.Quiet.{AreClosed, IsOpen, Stands, StandsClosed, added_stays, closed_quiet, closed_stands, follows_closed, follows_quiet, follows_stand, no_logout, settles_stand, stopped_closed, stopped_stands, sub_free, sub_line, takes_subs}

-- after an act a command waits only for its subcommands
pub waits_by : (interpreter : InterpreterState) (moment : ℕ) (command : Command) (act : Act) → Comes command interpreter.state act
    → Waits interpreter.pending → Waits (becomes interpreter moment command act.answer).pending
unfolding becomes
waits_by interpreter moment command act (Comes.done is) waits =
    subst (λ (it : Acted). Waits (becomes interpreter moment command it).pending) (sym is) waits
waits_by interpreter moment command act (Comes.refused code is) waits =
    subst (λ (it : Acted). Waits (becomes interpreter moment command it).pending) (sym (ap (λ (it : Act). it.answer) is)) waits
waits_by interpreter moment command act (Comes.waits pending is) waits =
    subst (λ (it : Acted). Waits (becomes interpreter moment command it).pending) (sym (ap (λ (it : Act). it.answer) is)) pending
waits_by interpreter moment command act (Comes.begun to named is) waits =
    subst (λ (it : Acted). Waits (becomes interpreter moment command it).pending) (sym is) waits
waits_by interpreter moment command act (Comes.taken file named is) waits =
    subst (λ (it : Acted). Waits (becomes interpreter moment command it).pending) (sym is) waits
waits_by interpreter moment command act (Comes.ended named is) waits =
    subst (λ (it : Acted). Waits (becomes interpreter moment command it).pending) (sym is) waits

-- and only COPY TTY: types a file in
line_by_act : (interpreter : InterpreterState) (moment : ℕ) (command : Command) (act : Act) → Comes command interpreter.state act
    → ((to : Place) → command ≡ commands.CopyTty to → ⊥) → interpreter.typing ≡ None
    → (becomes interpreter moment command act.answer).typing ≡ None
unfolding becomes
line_by_act interpreter moment command act (Comes.done is) other line =
    subst (λ (it : Acted). (becomes interpreter moment command it).typing ≡ None) (sym is) line
line_by_act interpreter moment command act (Comes.refused code is) other line =
    subst (λ (it : Acted). (becomes interpreter moment command it).typing ≡ None) (sym (ap (λ (it : Act). it.answer) is)) line
line_by_act interpreter moment command act (Comes.waits pending is) other line =
    subst (λ (it : Acted). (becomes interpreter moment command it).typing ≡ None) (sym (ap (λ (it : Act). it.answer) is)) line
line_by_act interpreter moment command act (Comes.begun to named is) other line = absurd (other to named)
line_by_act interpreter moment command act (Comes.taken file named is) other line =
    subst (λ (it : Acted). (becomes interpreter moment command it).typing ≡ None) (sym is) line
line_by_act interpreter moment command act (Comes.ended named is) other line =
    subst (λ (it : Acted). (becomes interpreter moment command it).typing ≡ None) (sym is) line

-- and only one with subcommands waits
free_by_act : (interpreter : InterpreterState) (moment : ℕ) (command : Command) (act : Act) → Comes command interpreter.state act
    → is_pending command ≡ false → interpreter.pending ≡ None → (becomes interpreter moment command act.answer).pending ≡ None
unfolding becomes
free_by_act interpreter moment command act (Comes.done is) acts free =
    subst (λ (it : Acted). (becomes interpreter moment command it).pending ≡ None) (sym is) free
free_by_act interpreter moment command act (Comes.refused code is) acts free =
    subst (λ (it : Acted). (becomes interpreter moment command it).pending ≡ None) (sym (ap (λ (it : Act). it.answer) is)) free
free_by_act interpreter moment command act (Comes.waits pending is) acts free = let wrong : true ≡ false = sym pending ∙ acts in absurd (cc)
free_by_act interpreter moment command act (Comes.begun to named is) acts free =
    subst (λ (it : Acted). (becomes interpreter moment command it).pending ≡ None) (sym is) free
free_by_act interpreter moment command act (Comes.taken file named is) acts free =
    subst (λ (it : Acted). (becomes interpreter moment command it).pending ≡ None) (sym is) free
free_by_act interpreter moment command act (Comes.ended named is) acts free =
    subst (λ (it : Acted). (becomes interpreter moment command it).pending ≡ None) (sym is) free

ends_by_answer : (interpreter : InterpreterState) (moment : ℕ) (command : Command) (answer : Acted) → answer ≡ answers.Logout
    → (becomes interpreter moment command answer).ended ≡ true
unfolding becomes
ends_by_answer interpreter moment command answer is = ap (λ (it : Acted). (becomes interpreter moment command it).ended) is

-- what a command leaves that acts
module _ (at : ExecState) (moment : ℕ) (command : Command) where
  abbrev pub acted : ExecState
  acted = record at { interpreter = (effect_of at.interpreter moment command).state }

  abbrev pub act : Act
  act = act_of command moment at.interpreter.state

  acts_quiet : IsQuiet at → Stands 0 (left_by at (acts at moment command))
  acts_quiet quiet =
      follows_quiet acted 0 act.answer (record {
        files = quiet.files;
        taken = quiet.taken;
        waits = waits_by at.interpreter moment command act (comes command moment at.interpreter.state) quiet.waits;
      })

  acts_closed : AreClosed at → ((to : Place) → command ≡ commands.CopyTty to → ⊥) → is_pending command ≡ false
      → StandsClosed 0 (left_by at (acts at moment command))
  acts_closed closed other done =
      follows_closed acted 0 act.answer (record {
        files = closed.files;
        taken = closed.taken;
        line = line_by_act at.interpreter moment command act (comes command moment at.interpreter.state) other closed.line;
        free = free_by_act at.interpreter moment command act (comes command moment at.interpreter.state) done closed.free;
      })

  acts_stand : at.interpreter.typing ≡ None → Waits at.interpreter.pending → (length at.files == 0) ≡ false
      → ((to : Place) → command ≡ commands.CopyTty to → ⊥) → StandsClosed at.taken (left_by at (acts at moment command))
  acts_stand line waits some other =
      follows_stand acted act.answer
      (line_by_act at.interpreter moment command act (comes command moment at.interpreter.state) other line)
      (waits_by at.interpreter moment command act (comes command moment at.interpreter.state) waits)
      some (λ is. ends_by_answer at.interpreter moment command act.answer is)

module _ (at : ExecState) where
  take_stands : (file : Place) → at.interpreter.typing ≡ None → Waits at.interpreter.pending → StandsClosed at.taken (left_by at (take_effects at file))
  take_stands file line waits = by (length at.files == MOST_FILES) where
    by : (full : Bool) → StandsClosed at.taken (left_by at (cond full (refuses TakeDepth at ∷ []) (opens at file ∷ settles (opened at file))))
    by true = stopped_closed at.taken TakeDepth at line
    by false = settles_stand (opened at file) line waits (push_is_not_empty at.files (file_lines (bytes_of file at.interpreter.state)))

  typing_stands : (moment : ℕ) (to : Place) → at.interpreter.typing ≡ None → (length at.files == 0) ≡ false
      → StandsClosed at.taken (left_by at (typing_effects at moment to))
  typing_stands moment to line some =
      subst (λ (none : Bool). StandsClosed at.taken (left_by at (cond none (acts at moment (commands.CopyTty to)) (refuses NotInTake at ∷ []))))
      (sym some) (stopped_closed at.taken NotInTake at line)

  typing_quiet : (moment : ℕ) (to : Place) → IsQuiet at → Stands 0 (left_by at (typing_effects at moment to))
  typing_quiet moment to quiet = by (length at.files == 0) where
    by : (none : Bool) → Stands 0 (left_by at (cond none (acts at moment (commands.CopyTty to)) (refuses NotInTake at ∷ [])))
    by true = acts_quiet at moment (commands.CopyTty to) quiet
    by false = stopped_stands 0 NotInTake at

abbrev is_copy : Command → Bool
is_copy (commands.CopyTty to) = true
is_copy command = false

no_copy : (command : Command) → is_copy command ≡ false → (to : Place) → command ≡ commands.CopyTty to → ⊥
no_copy command other to is = let wrong : false ≡ true = sym other ∙ ap is_copy is in cc

-- what a line commands
commands_stand : (at : ExecState) (moment : ℕ) (command : Command) → at.interpreter.typing ≡ None → Waits at.interpreter.pending
    → (length at.files == 0) ≡ false → StandsClosed at.taken (left_by at (command_effects at moment command))
unfolding command_effects
commands_stand at moment (commands.Take file) line waits some = take_stands at file line waits
commands_stand at moment (commands.CopyTty to) line waits some = typing_stands at moment to line some
commands_stand at moment command line waits some = acts_stand at moment command line waits some (no_copy command refl)

commands_quiet : (at : ExecState) (moment : ℕ) (command : Command) → at.interpreter.typing ≡ None → IsQuiet at
    → Stands 0 (left_by at (command_effects at moment command))
unfolding command_effects
commands_quiet at moment (commands.Take file) line quiet =
    subst (λ (n : ℕ). Stands n (left_by at (take_effects at file))) quiet.taken
    (closed_stands at.taken (left_by at (take_effects at file)) (take_stands at file line quiet.waits))
commands_quiet at moment (commands.CopyTty to) line quiet = typing_quiet at moment to quiet
commands_quiet at moment command line quiet = acts_quiet at moment command quiet

-- one that neither types a file in nor waits
pub commands_closed : (at : ExecState) (moment : ℕ) (command : Command) → AreClosed at → ((to : Place) → command ≡ commands.CopyTty to → ⊥)
    → is_pending command ≡ false → StandsClosed 0 (left_by at (command_effects at moment command))
unfolding command_effects
commands_closed at moment (commands.Take file) closed other done =
    subst (λ (n : ℕ). StandsClosed n (left_by at (take_effects at file))) closed.taken (take_stands at file closed.line (closed_quiet at closed).waits)
commands_closed at moment (commands.CopyTty to) closed other done = absurd (other to refl)
commands_closed at moment command closed other done = acts_closed at moment command closed other done

-- a line of subcommands: the command waits on, or acts
module _ (at : ExecState) (session : SessionState) (pending : Pending) (waits : is_pending pending.command ≡ true) where
  abbrev pub on : ExecState
  on = unwaiting at

  abbrev pub more : Pending
  more = pending_with session pending

  pub takes : takes_subs more.command ≡ true
  takes = added_stays session.fields pending.command waits

  -- what it leaves where it waits on, and where it acts
  abbrev pub waiting : ExecState
  waiting = record on { interpreter = record on.interpreter { pending = Some more } }

  abbrev pub done : ExecState
  done = record on { interpreter = (effect_of on.interpreter more.moment more.command).state }

  abbrev pub answer : Acted
  answer = (act_of more.command more.moment on.interpreter.state).answer

  abbrev pub by_test : Bool → List (Effect ExecState)
  by_test test = lifted on (record { may_allocate = false; state = record on.interpreter { pending = Some more }; reply = [] })
      ∷ cond test (follows waiting answers.Pending) (lifted on (effect_of on.interpreter more.moment more.command) ∷ follows done answer)

  pub pending_as : pending_effects on session pending ≡ by_test (is_pending more.command)
  pending_as = by (is_pending more.command) where
    by : (test : Bool) → lifted on (record { may_allocate = false; state = record on.interpreter { pending = Some more }; reply = [] })
        ∷ (map (lifted on) (cond test [] (effect_of on.interpreter more.moment more.command ∷ []))
        ++ follows (record on { interpreter = left_by (record on.interpreter { pending = Some more }) (cond test [] (effect_of on.interpreter more.moment more.command ∷ [])) })
        (cond test answers.Pending answer)) ≡ by_test test
    by true = refl
    by false = refl

  no_end : answer ≡ answers.Logout → ⊥
  no_end is = no_logout more.command takes ((ends_by_logout more.command more.moment on.interpreter.state).0 is)

  pub free : is_pending more.command ≡ false → Waits done.interpreter.pending
  free over = subst (λ (it : Option Pending). Waits it) (sym (sub_free on.interpreter more.moment more.command takes over)) tt

  pending_stands : at.interpreter.typing ≡ None → (length at.files == 0) ≡ false → StandsClosed at.taken (left_by at (pending_effects on session pending))
  pending_stands line some =
      subst (λ (effects : List (Effect ExecState)). StandsClosed at.taken (left_by at effects)) (sym pending_as) (by (is_pending more.command) refl) where
        by : (test : Bool) → is_pending more.command ≡ test → StandsClosed at.taken (left_by at (by_test test))
        by true is = follows_stand waiting answers.Pending line is some (λ (other : answers.Pending ≡ answers.Logout). absurd (cc))
        by false is =
            follows_stand done answer (sub_line on.interpreter more.moment more.command takes is ∙ line) (free is) some (λ logout. absurd (no_end logout))

  pending_quiet : IsQuiet at → Stands 0 (left_by at (pending_effects on session pending))
  pending_quiet quiet =
      subst (λ (effects : List (Effect ExecState)). Stands 0 (left_by at effects)) (sym pending_as) (by (is_pending more.command) refl) where
        by : (test : Bool) → is_pending more.command ≡ test → Stands 0 (left_by at (by_test test))
        by true is = follows_quiet waiting 0 answers.Pending (record { files = quiet.files; taken = quiet.taken; waits = is })
        by false is = follows_quiet done 0 answer (record { files = quiet.files; taken = quiet.taken; waits = free is })

module _ (at : ExecState) (session : SessionState) (moment : ℕ) (line : at.interpreter.typing ≡ None) where
  line_stands : Waits at.interpreter.pending → (length at.files == 0) ≡ false → StandsClosed at.taken (left_by at (line_effects at session moment))
  unfolding line_effects
  line_stands waits some = by at.interpreter.pending waits where
    by : (pending : Option Pending) → Waits pending → StandsClosed at.taken (left_by at (line_by at session moment pending))
    by None none = commands_stand at moment (command_at at.interpreter session) line waits some
    by (Some pending) is = pending_stands at session pending is line some

  pub line_quiet : IsQuiet at → Stands 0 (left_by at (line_effects at session moment))
  unfolding line_effects
  line_quiet quiet = by at.interpreter.pending quiet.waits where
    by : (pending : Option Pending) → Waits pending → Stands 0 (left_by at (line_by at session moment pending))
    by None none = commands_quiet at moment (command_at at.interpreter session) line quiet
    by (Some pending) is = pending_quiet at session pending is quiet

-- the line of a file is passed, and then does what it says
passed_some : (files : List (List (List ℕ))) (last : Option (List (List ℕ))) → innermost files ≡ last → (length files == 0) ≡ false
    → (length (take (length files - 1) files ++ option_map_or (λ (file : List (List ℕ)). drop 1 file ∷ []) last []) == 0) ≡ false
passed_some files (Some file) is some = push_is_not_empty (take (length files - 1) files) (drop 1 file)
passed_some [] None is some = absurd (cc)
passed_some (file ∷ files) None is some = absurd (some_last file files is)

endings_stand : (at : ExecState) (session : SessionState) (moment : ℕ) (ending : Ending) → at.interpreter.typing ≡ None
    → Waits at.interpreter.pending → (length at.files == 0) ≡ false → StandsClosed at.taken (left_by at (ending_effects at session moment ending))
endings_stand at session moment endings.Done line waits some = line_stands at session moment line waits some
endings_stand at session moment (endings.Fault fault) line waits some = stopped_closed at.taken fault.code at line
endings_stand at session moment (endings.Open place) line waits some = settles_stand at line waits some

pub file_line_stands : (at : ExecState) (session : SessionState) (moment taken : ℕ) → IsOpen taken at
    → StandsClosed (next_count taken) (left_by at (file_line_effects at session moment))
file_line_stands at session moment taken held =
    subst (λ (n : ℕ). StandsClosed (next_count n) (left_by at (file_line_effects at session moment))) held.count
    (endings_stand (passed at) session moment session.ending held.line held.waits (passed_some at.files (innermost at.files) refl held.some))
