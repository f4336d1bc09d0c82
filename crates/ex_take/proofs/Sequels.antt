-- Acts of the EXEC's, and what follows them.
-- An application over another (Exec over Interpreter): an act is lifted (lifted, obeys_lifted), and followed_on takes
-- what follows an answer as a function. It speaks of a literal record of the fields, which subst along c.self.view_is
-- brings home.
use Rattle.std.proofs.Common.{◌≡◌, ℕ, ◌==◌, length, true, false, List, [], ◌∷◌, ◌++◌, map, Option, None, Some, Result, Ok, Err, refl, sym, ap, ◌∙◌, subst}
use Rattle.cm_io.specs.Contents.{Contents, AddsPart, add}
use Rattle.cm_io.proofs.Additions.{add_none}
use Rattle.cm_io.specs.Fault.{PutCause}
use Rattle.cm_io.specs.Contents.{Adds}
use Rattle.cm_io.specs.declared.sink.Put.{Put}
use Rattle.cm_io.specs.declared.sink.Put.TheVariants.{Done, Failed}
use Rattle.cm_fields.specs.declared.code.Code.{Code}
use Rattle.cm_fields.specs.declared.code.Code.TheVariants.{NotInTake}
use Rattle.cm_state.specs.Echo.{refusal}
use Rattle.cm_run.specs.Cause.{ObeyCause}
use Rattle.cm_run.specs.Semantics.{Effect}
use Rattle.cm_run.specs.Obey.{Obeys, Stage, after, left_by, replies, stage}
use Rattle.cm_run.specs.declared.stop.Stop.{Stop}
use Rattle.cm_run.specs.declared.stop.Stop.TheVariants as stop
use Rattle.cm_run.proofs.Causes.{obey_cause_on}
use Rattle.cm_run.proofs.Acts.{obeys_cut, obeys_done, obeys_nothing, obeys_on, obeys_short, obeys_wanting}
use Rattle.ex_commands.specs.declared.acted.Acted.{Acted}
use Rattle.ex_commands.specs.declared.acted.Acted.TheVariants as answers
use Rattle.ex_commands.specs.declared.command.Command.{Command}
use Rattle.ex_commands.specs.declared.command.Command.TheVariants as commands
use Rattle.ex_store.specs.declared.place.Place.{Place}
use Rattle.cm_blocks.specs.declared.field.Ending.{Ending}
use Rattle.cm_blocks.specs.declared.field.Ending.TheVariants as endings
use Rattle.cm_blocks.specs.declared.field.Fault.{Fault}
use Rattle.cm_blocks.specs.declared.field.Open.{Open}
use Rattle.cm_state.specs.SessionState.{SessionState}
use Rattle.ex_take.specs.Interpreter.{command_at, completion_answer, pending_complete, subcommand_effects}
use Rattle.ex_take.specs.InterpreterState.{InterpreterState}
use Rattle.ex_take.specs.declared.pending.Pending.{Pending}
use Rattle.ex_take.specs.Outcome.{outcome_of}
use Rattle.ex_take.specs.Exec.{acts, after_end, closed, closes, command_effects, completion_effects, counted, counted_by, counts, end_effects, ending_effects, fault_effects, file_line_effects, follows, innermost, is_over, lifted, line_by, line_effects, looks_ahead, next_fault, opened, opens, passed, pending_effects, refuses, settles, silent, stopped, take_effects, typing_effects, unwaiting}
use Rattle.ex_take.specs.ExecState.{ExecState}
use Rattle.ex_take.specs.declared.exec.TheConstants.{MOST_FILES}

module _ (at : ExecState) where
  -- the state with this EXEC
  abbrev pub over : InterpreterState → ExecState
  over interpreter = record at { interpreter = interpreter }

  pub replies_lifted : (effects : List (Effect InterpreterState)) → replies (map (lifted at) effects) ≡ replies effects
  replies_lifted [] = refl
  replies_lifted (effect ∷ effects) = ap (λ bytes. effect.reply ++ bytes) (replies_lifted effects)

  pub left_lifted : (effects : List (Effect InterpreterState)) (interpreter : InterpreterState) → left_by (over interpreter) (map (lifted at) effects) ≡ over (left_by interpreter effects)
  left_lifted [] interpreter = refl
  left_lifted (effect ∷ effects) interpreter = left_lifted effects effect.state

  map_append : (first second : List (Effect InterpreterState)) → map (lifted at) (first ++ second) ≡ map (lifted at) first ++ map (lifted at) second
  map_append [] second = refl
  map_append (effect ∷ first) second = ap (λ effects. lifted at effect ∷ effects) (map_append first second)

  after_lifted : (contents : Contents) (interpreter : InterpreterState) (effects : List (Effect InterpreterState))
      → after (stage contents (over interpreter)) (map (lifted at) effects) ≡ stage (add contents (replies effects)) (over (left_by interpreter effects))
  after_lifted contents interpreter effects =
      ap (λ bytes. stage (add contents bytes) (left_by (over interpreter) (map (lifted at) effects))) (replies_lifted effects)
      ∙ ap (λ (it : ExecState). stage (add contents (replies effects)) it) (left_lifted effects interpreter)

  -- acts of the EXEC's are acts of the whole
  pub obeys_lifted : (contents then : Contents) (one next : InterpreterState) (effects : List (Effect InterpreterState)) (result : Result Unit Stop)
      → Obeys (stage contents one) (stage then next) effects result
      → Obeys (stage contents (over one)) (stage then (over next)) (map (lifted at) effects) result
  unfolding Obeys
  obeys_lifted contents then one next effects (Ok value) obeys =
      ap (λ (it : Stage InterpreterState). stage it.screen (over it.state)) obeys ∙ sym (after_lifted contents one effects)
  obeys_lifted contents then one next effects (Err stop.Screen) obeys = record {
    at = record {
      done = map (lifted at) obeys.at.done;
      effect = lifted at obeys.at.effect;
      rest = map (lifted at) obeys.at.rest;
      split = sym (map_append obeys.at.done (obeys.at.effect ∷ obeys.at.rest)) ∙ ap (λ (it : List (Effect InterpreterState)). map (lifted at) it) obeys.at.split;
    };
    screen = subst (λ bytes. AddsPart (add contents bytes) then obeys.at.effect.reply) (sym (replies_lifted obeys.at.done)) obeys.screen;
    state = ap over obeys.state;
  }
  obeys_lifted contents then one next effects (Err stop.Memory) obeys = record {
    at = record {
      done = map (lifted at) obeys.at.done;
      effect = lifted at obeys.at.effect;
      rest = map (lifted at) obeys.at.rest;
      split = sym (map_append obeys.at.done (obeys.at.effect ∷ obeys.at.rest)) ∙ ap (λ (it : List (Effect InterpreterState)). map (lifted at) it) obeys.at.split;
    };
    may_allocate = obeys.may_allocate;
    stands = ap (λ (it : Stage InterpreterState). stage it.screen (over it.state)) obeys.stands ∙ sym (after_lifted contents one obeys.at.done);
  }
  obeys_lifted contents then one next effects (Err stop.Log) obeys = absurd obeys
  obeys_lifted contents then one next effects (Err stop.Keys) obeys = absurd obeys
  obeys_lifted contents then one next effects (Err stop.Limit) obeys = absurd obeys

  -- acts that went to their end leave what they leave
  leaves : (contents then : Contents) (one next : InterpreterState) (effects : List (Effect InterpreterState)) → Obeys (stage contents one) (stage then next) effects (Ok tt)
      → next ≡ left_by one effects
  unfolding Obeys
  leaves contents then one next effects obeys = ap (λ (it : Stage InterpreterState). it.state) obeys

  -- after acts that were answered so something follows
  module _ (contents middle : Contents) (one next : InterpreterState) (effects : List (Effect InterpreterState)) (answer wanted : Acted)
      (follows : ExecState → Acted → List (Effect ExecState)) where
    pub followed_on : (then : Contents) (left : ExecState) (result : Result Unit Stop)
        → outcome_of answer ≡ Ok tt → (outcome_of answer ≡ Ok tt → answer ≡ wanted)
        → Obeys (stage contents one) (stage middle next) effects (outcome_of answer)
        → Obeys (stage middle (over next)) (stage then left) (follows (over next) answer) result
        → Obeys (stage contents (over one)) (stage then left) (map (lifted at) effects ++ follows (over (left_by one effects)) wanted) result
    followed_on then left result outcome is obeys more =
        let whole : Obeys (stage contents one) (stage middle next) effects (Ok tt)
        = subst (λ (it : Result Unit Stop). Obeys (stage contents one) (stage middle next) effects it) outcome obeys in
        obeys_on (stage contents (over one)) (stage middle (over next)) (stage then left) (map (lifted at) effects)
        (follows (over (left_by one effects)) wanted) result
        (obeys_lifted contents middle one next effects (Ok tt) whole)
        (subst (λ (it : Acted). Obeys (stage middle (over next)) (stage then left) (follows (over (left_by one effects)) it) result) (is outcome)
        (subst (λ (it : InterpreterState). Obeys (stage middle (over next)) (stage then left) (follows (over it) answer) result)
        (leaves contents middle one next effects whole) more))

    pub followed_cut : (why : Stop) → outcome_of answer ≡ Err why
        → Obeys (stage contents one) (stage middle next) effects (outcome_of answer)
        → Obeys (stage contents (over one)) (stage middle (over next)) (map (lifted at) effects ++ follows (over (left_by one effects)) wanted) (Err why)
    followed_cut why outcome obeys =
        obeys_short (stage contents (over one)) (stage middle (over next)) (map (lifted at) effects) (follows (over (left_by one effects)) wanted) why
        (obeys_lifted contents middle one next effects (Err why)
        (subst (λ (it : Result Unit Stop). Obeys (stage contents one) (stage middle next) effects it) outcome obeys))

  -- an act that shows nothing and takes no memory, and others after it
  pub silent_first : (contents then : Contents) (before left : ExecState) (effects : List (Effect ExecState)) (result : Result Unit Stop)
      → Obeys (stage contents at) (stage then left) effects result → Obeys (stage contents before) (stage then left) (silent at ∷ effects) result
  silent_first contents then before left effects result obeys =
      obeys_on (stage contents before) (stage contents at) (stage then left) (silent at ∷ []) effects result
      (obeys_done (silent at) contents contents before at (sym (add_none contents)) refl) obeys

  pub silent_alone : (contents : Contents) (before : ExecState) → Obeys (stage contents before) (stage contents at) (silent at ∷ []) (Ok tt)
  silent_alone contents before = obeys_done (silent at) contents contents before at (sym (add_none contents)) refl

-- a refusal is shown, whole or in part
module _ (at left : ExecState) (code : Code) (contents now : Contents) (put : Put) (adds : Adds contents now (refusal code) put) (stops : left ≡ stopped code at) where
  pub refusal_done : put ≡ Done → Obeys (stage contents at) (stage now left) (refuses code at ∷ []) (Ok tt)
  refusal_done is = obeys_done (refuses code at) contents now at left (subst (λ it. Adds contents now (refusal code) it) is adds) stops

  pub refusal_cut : put ≡ Failed → Obeys (stage contents at) (stage now left) (refuses code at ∷ []) (Err stop.Screen)
  refusal_cut is = obeys_cut (refuses code at) contents now at left (subst (λ it. Adds contents now (refusal code) it) is adds) stops

pub cause_done : (f g : ℕ) (put : Put) → put ≡ Done → PutCause f g put → ObeyCause f g (Ok tt)
unfolding ObeyCause
cause_done f g put is cause = subst (λ it. PutCause f g it) is cause

pub cause_cut : (f g : ℕ) (put : Put) → put ≡ Failed → PutCause f g put → ObeyCause f g (Err stop.Screen)
unfolding ObeyCause
cause_cut f g put is cause = subst (λ it. PutCause f g it) is cause

-- the next line is looked at
pub looks_none : (at : ExecState) (contents : Contents) (fault : Option Code) → fault ≡ next_fault at.taken (innermost at.files) → fault ≡ None
    → Obeys (stage contents at) (stage contents at) (looks_ahead at) (Ok tt)
unfolding looks_ahead
looks_none at contents fault is none =
    subst (λ (it : Option Code). Obeys (stage contents at) (stage contents at) (fault_effects at it) (Ok tt)) (sym none ∙ is) (obeys_nothing contents at)

pub looks_some : (at left : ExecState) (contents then : Contents) (fault : Option Code) (code : Code) (result : Result Unit Stop)
    → fault ≡ next_fault at.taken (innermost at.files) → fault ≡ Some code
    → Obeys (stage contents at) (stage then left) (refuses code at ∷ []) result → Obeys (stage contents at) (stage then left) (looks_ahead at) result
unfolding looks_ahead
looks_some at left contents then fault code result is some obeys =
    subst (λ (it : Option Code). Obeys (stage contents at) (stage then left) (fault_effects at it) result) (sym some ∙ is) obeys

pub closes_obey : (at middle left : ExecState) (contents then : Contents) (result : Result Unit Stop) → middle ≡ closed at
    → Obeys (stage contents middle) (stage then left) (looks_ahead middle) result → Obeys (stage contents at) (stage then left) (closes at) result
unfolding closes
closes_obey at middle left contents then result is obeys =
    silent_first (closed at) contents then at left (looks_ahead (closed at)) result
    (subst (λ (it : ExecState). Obeys (stage contents it) (stage then left) (looks_ahead it) result) is obeys)

-- after an answer that is no refusal files are closed
pub end_refused : (at left : ExecState) (contents : Contents) (answer : Acted) (code : Code) → answer ≡ answers.Refused code → left ≡ stopped code at
    → Obeys (stage contents at) (stage contents left) (after_end at answer) (Ok tt)
unfolding after_end
end_refused at left contents answer code is stops =
    subst (λ (it : Acted). Obeys (stage contents at) (stage contents left) (after_end at it) (Ok tt)) (sym is)
    (subst (λ (it : ExecState). Obeys (stage contents at) (stage contents it) (silent (stopped code at) ∷ []) (Ok tt)) (sym stops)
    (silent_alone (stopped code at) contents at))

closes_after : (at : ExecState) (answer : Acted) → ((code : Code) → answer ≡ answers.Refused code → ⊥) → closes at ≡ after_end at answer
unfolding after_end
closes_after at (answers.Refused code) other = absurd (other code refl)
closes_after at answer other = refl

pub end_other : (at left : ExecState) (contents then : Contents) (answer : Acted) (result : Result Unit Stop)
    → ((code : Code) → answer ≡ answers.Refused code → ⊥)
    → Obeys (stage contents at) (stage then left) (closes at) result → Obeys (stage contents at) (stage then left) (after_end at answer) result
end_other at left contents then answer result other obeys =
    subst (λ effects. Obeys (stage contents at) (stage then left) effects result) (closes_after at answer other) obeys

-- where a file is at its end it ends, and else the next line is looked at
module _ (at left : ExecState) (contents then : Contents) (result : Result Unit Stop) where
  pub settles_over : is_over (innermost at.files) ≡ true → Obeys (stage contents at) (stage then left) (end_effects at at.interpreter.pending) result
      → Obeys (stage contents at) (stage then left) (settles at) result
  unfolding settles
  settles_over over obeys = rw over obeys

  pub settles_on : is_over (innermost at.files) ≡ false → Obeys (stage contents at) (stage then left) (looks_ahead at) result
      → Obeys (stage contents at) (stage then left) (settles at) result
  unfolding settles
  settles_on on obeys = rw on obeys

-- what follows an answer
pub follows_refused : (at left : ExecState) (contents : Contents) (answer : Acted) (code : Code) → answer ≡ answers.Refused code → left ≡ stopped code at
    → Obeys (stage contents at) (stage contents left) (follows at answer) (Ok tt)
unfolding follows
follows_refused at left contents answer code is stops =
    subst (λ (it : Acted). Obeys (stage contents at) (stage contents left) (follows at it) (Ok tt)) (sym is)
    (subst (λ (it : ExecState). Obeys (stage contents at) (stage contents it) (silent (stopped code at) ∷ []) (Ok tt)) (sym stops)
    (silent_alone (stopped code at) contents at))

pub follows_logout : (at : ExecState) (contents : Contents) (answer : Acted) → answer ≡ answers.Logout
    → Obeys (stage contents at) (stage contents at) (follows at answer) (Ok tt)
unfolding follows
follows_logout at contents answer is =
    subst (λ (it : Acted). Obeys (stage contents at) (stage contents at) (follows at it) (Ok tt)) (sym is) (obeys_nothing contents at)

settles_after : (at : ExecState) (answer : Acted) → ((code : Code) → answer ≡ answers.Refused code → ⊥) → (answer ≡ answers.Logout → ⊥)
    → settles at ≡ follows at answer
unfolding follows
settles_after at (answers.Refused code) other on = absurd (other code refl)
settles_after at answers.Logout other on = absurd (on refl)
settles_after at answer other on = refl

pub follows_other : (at left : ExecState) (contents then : Contents) (answer : Acted) (result : Result Unit Stop)
    → ((code : Code) → answer ≡ answers.Refused code → ⊥) → (answer ≡ answers.Logout → ⊥)
    → Obeys (stage contents at) (stage then left) (settles at) result → Obeys (stage contents at) (stage then left) (follows at answer) result
follows_other at left contents then answer result other on obeys =
    subst (λ effects. Obeys (stage contents at) (stage then left) effects result) (settles_after at answer other on) obeys

-- a file is opened, unless too many are
module _ (at left : ExecState) (file : Place) (contents then : Contents) (result : Result Unit Stop) where
  pub take_wants : (n : ℕ) → (n == MOST_FILES) ≡ false → n ≡ length at.files
      → Obeys (stage contents at) (stage contents at) (take_effects at file) (Err stop.Memory)
  take_wants n room size =
      rw (ap (λ it. it == MOST_FILES) (sym size) ∙ room)
      (obeys_short (stage contents at) (stage contents at) (opens at file ∷ []) (settles (opened at file)) stop.Memory
      (obeys_wanting (opens at file) contents contents at at refl refl refl))

  pub take_opens : (n : ℕ) → (n == MOST_FILES) ≡ false → n ≡ length at.files → (middle : ExecState) → middle ≡ opened at file
      → Obeys (stage contents middle) (stage then left) (settles middle) result → Obeys (stage contents at) (stage then left) (take_effects at file) result
  take_opens n room size middle is obeys =
      rw (ap (λ it. it == MOST_FILES) (sym size) ∙ room)
      (obeys_on (stage contents at) (stage contents (opened at file)) (stage then left) (opens at file ∷ []) (settles (opened at file)) result
      (obeys_done (opens at file) contents contents at (opened at file) (sym (add_none contents)) refl)
      (subst (λ (it : ExecState). Obeys (stage contents it) (stage then left) (settles it) result) is obeys))

  pub typing_first : (moment : ℕ) (to : Place) → (length at.files == 0) ≡ true
      → Obeys (stage contents at) (stage then left) (acts at moment (commands.CopyTty to)) result
      → Obeys (stage contents at) (stage then left) (typing_effects at moment to) result
  typing_first moment to none obeys = rw none obeys

  pub typing_barred : (moment : ℕ) (to : Place) → (length at.files == 0) ≡ false
      → Obeys (stage contents at) (stage then left) (refuses NotInTake at ∷ []) result
      → Obeys (stage contents at) (stage then left) (typing_effects at moment to) result
  typing_barred moment to some obeys = rw some obeys

-- what a command does
acts_as : (at : ExecState) (moment : ℕ) (command : Command) → ((file : Place) → command ≡ commands.Take file → ⊥)
    → ((to : Place) → command ≡ commands.CopyTty to → ⊥) → acts at moment command ≡ command_effects at moment command
unfolding command_effects
acts_as at moment (commands.Take file) takes types = absurd (takes file refl)
acts_as at moment (commands.CopyTty to) takes types = absurd (types to refl)
acts_as at moment command takes types = refl

module _ (at left : ExecState) (contents then : Contents) (result : Result Unit Stop) (moment : ℕ) (command : Command) where
  pub command_takes : (file : Place) → command ≡ commands.Take file → Obeys (stage contents at) (stage then left) (take_effects at file) result
      → Obeys (stage contents at) (stage then left) (command_effects at moment command) result
  unfolding command_effects
  command_takes file is obeys =
      subst (λ (it : Command). Obeys (stage contents at) (stage then left) (command_effects at moment it) result) (sym is) obeys

  pub command_types : (to : Place) → command ≡ commands.CopyTty to → Obeys (stage contents at) (stage then left) (typing_effects at moment to) result
      → Obeys (stage contents at) (stage then left) (command_effects at moment command) result
  unfolding command_effects
  command_types to is obeys =
      subst (λ (it : Command). Obeys (stage contents at) (stage then left) (command_effects at moment it) result) (sym is) obeys

  pub command_acts : ((file : Place) → command ≡ commands.Take file → ⊥) → ((to : Place) → command ≡ commands.CopyTty to → ⊥)
      → Obeys (stage contents at) (stage then left) (acts at moment command) result
      → Obeys (stage contents at) (stage then left) (command_effects at moment command) result
  command_acts takes types obeys =
      subst (λ effects. Obeys (stage contents at) (stage then left) effects result) (acts_as at moment command takes types) obeys

-- a key of a file that is typed in
pub raw_obeys : (at : ExecState) (contents then : Contents) (next : InterpreterState) (left : ExecState) (answer wanted : Acted) (effects : List (Effect InterpreterState))
    → Obeys (stage contents at.interpreter) (stage then next) effects (outcome_of answer) → (outcome_of answer ≡ Ok tt → answer ≡ wanted)
    → left ≡ counted_by (over at next) answer
    → Obeys (stage contents at) (stage then left) (map (lifted at) effects ++ counts (over at (left_by at.interpreter effects)) wanted) (outcome_of answer)
raw_obeys at contents then next left answer wanted effects obeys is counts_it =
    subst (λ (it : ExecState). Obeys (stage contents at) (stage then it) (map (lifted at) effects ++ counts (over at (left_by at.interpreter effects)) wanted) (outcome_of answer))
    (sym counts_it) (by answer obeys is)
  where
    by : (answer : Acted) → Obeys (stage contents at.interpreter) (stage then next) effects (outcome_of answer) → (outcome_of answer ≡ Ok tt → answer ≡ wanted)
        → Obeys (stage contents at) (stage then (counted_by (over at next) answer)) (map (lifted at) effects ++ counts (over at (left_by at.interpreter effects)) wanted) (outcome_of answer)
    by (answers.Refused code) obeys is =
        followed_on at contents then at.interpreter next effects (answers.Refused code) wanted counts then (counted (over at next)) (Ok tt) refl is obeys
        (silent_alone (counted (over at next)) then (over at next))
    by answers.Ok obeys is = followed_on at contents then at.interpreter next effects answers.Ok wanted counts then (over at next) (Ok tt) refl is obeys (obeys_nothing then (over at next))
    by answers.Pending obeys is = followed_on at contents then at.interpreter next effects answers.Pending wanted counts then (over at next) (Ok tt) refl is obeys (obeys_nothing then (over at next))
    by answers.Data obeys is = followed_on at contents then at.interpreter next effects answers.Data wanted counts then (over at next) (Ok tt) refl is obeys (obeys_nothing then (over at next))
    by answers.Take obeys is = followed_on at contents then at.interpreter next effects answers.Take wanted counts then (over at next) (Ok tt) refl is obeys (obeys_nothing then (over at next))
    by answers.Logout obeys is = followed_on at contents then at.interpreter next effects answers.Logout wanted counts then (over at next) (Ok tt) refl is obeys (obeys_nothing then (over at next))
    by answers.NoMemory obeys is = followed_cut at contents then at.interpreter next effects answers.NoMemory wanted counts stop.Memory refl obeys
    by answers.Failed obeys is = followed_cut at contents then at.interpreter next effects answers.Failed wanted counts stop.Screen refl obeys

-- what a line of subcommands does, from whatever EXEC was met: its first act is silent
module _ (at : ExecState) (one : InterpreterState) (contents middle : Contents) (interpreter next : InterpreterState) (pending : Pending) (answer wanted : Acted)
    (follows : ExecState → Acted → List (Effect ExecState)) where
  pub followed_from : (then : Contents) (left : ExecState) (result : Result Unit Stop)
      → outcome_of answer ≡ Ok tt → (outcome_of answer ≡ Ok tt → answer ≡ wanted)
      → Obeys (stage contents one) (stage middle next) (subcommand_effects interpreter pending) (outcome_of answer)
      → Obeys (stage middle (over at next)) (stage then left) (follows (over at next) answer) result
      → Obeys (stage contents (over at one)) (stage then left)
      (map (lifted at) (subcommand_effects interpreter pending) ++ follows (over at (left_by interpreter (subcommand_effects interpreter pending))) wanted) result
  followed_from then left result outcome is obeys more =
      followed_on at contents middle one next (subcommand_effects interpreter pending) answer wanted follows then left result outcome is obeys more

  pub followed_from_cut : (why : Stop) → outcome_of answer ≡ Err why
      → Obeys (stage contents one) (stage middle next) (subcommand_effects interpreter pending) (outcome_of answer)
      → Obeys (stage contents (over at one)) (stage middle (over at next))
      (map (lifted at) (subcommand_effects interpreter pending) ++ follows (over at (left_by interpreter (subcommand_effects interpreter pending))) wanted) (Err why)
  followed_from_cut why outcome obeys = followed_cut at contents middle one next (subcommand_effects interpreter pending) answer wanted follows why outcome obeys

-- by the counts
pub cause_on : (a b c : ℕ) (answer : Acted) (result : Result Unit Stop) → outcome_of answer ≡ Ok tt → ObeyCause a b (outcome_of answer)
    → ObeyCause b c result → ObeyCause a c result
unfolding ObeyCause
cause_on a b c answer result outcome first then =
    obey_cause_on a b c result (subst (λ (it : Result Unit Stop). ObeyCause a b it) outcome first) then

pub cause_kept : (a b : ℕ) (answer : Acted) (why : Stop) → outcome_of answer ≡ Err why → ObeyCause a b (outcome_of answer) → ObeyCause a b (Err why)
cause_kept a b answer why outcome first = subst (λ (it : Result Unit Stop). ObeyCause a b it) outcome first

-- at the end of a file a command that waited acts
module _ (at : ExecState) (interpreter : InterpreterState) (pending : Pending) (contents middle : Contents) (next : InterpreterState) (answer : Acted)
    (waits : at.interpreter.pending ≡ Some pending) (is : interpreter ≡ record at.interpreter { pending = None })
    (answers_so : outcome_of answer ≡ Ok tt → answer ≡ completion_answer interpreter (pending_complete pending))
    (obeys : (before : InterpreterState) → Obeys (stage contents before) (stage middle next) (subcommand_effects interpreter (pending_complete pending)) (outcome_of answer)) where
  abbrev unwaited : over at interpreter ≡ unwaiting at
  unwaited = ap (λ (it : InterpreterState). over at it) is

  end_as : (left : ExecState) (then : Contents) (result : Result Unit Stop)
      → Obeys (stage contents at) (stage then left) (completion_effects (over at interpreter) (pending_complete pending)) result
      → Obeys (stage contents at) (stage then left) (end_effects at at.interpreter.pending) result
  end_as left then result obeys =
      subst (λ (it : Option Pending). Obeys (stage contents at) (stage then left) (end_effects at it) result) (sym waits)
      (subst (λ (it : ExecState). Obeys (stage contents at) (stage then left) (completion_effects it (pending_complete pending)) result) unwaited obeys)

  pub end_ends : (left : ExecState) (then : Contents) (result : Result Unit Stop) → outcome_of answer ≡ Ok tt
      → Obeys (stage middle (over at next)) (stage then left) (after_end (over at next) answer) result
      → Obeys (stage contents at) (stage then left) (end_effects at at.interpreter.pending) result
  end_ends left then result outcome more =
      end_as left then result
      (followed_on (over at interpreter) contents middle at.interpreter next (subcommand_effects interpreter (pending_complete pending)) answer
      (completion_answer interpreter (pending_complete pending)) after_end then left result outcome answers_so (obeys at.interpreter) more)

  pub end_ends_cut : (why : Stop) → outcome_of answer ≡ Err why
      → Obeys (stage contents at) (stage middle (over at next)) (end_effects at at.interpreter.pending) (Err why)
  end_ends_cut why outcome =
      end_as (over at next) middle (Err why)
      (followed_cut (over at interpreter) contents middle at.interpreter next (subcommand_effects interpreter (pending_complete pending)) answer
      (completion_answer interpreter (pending_complete pending)) after_end why outcome (obeys at.interpreter))

-- a line is for the command that waits, or commands itself
module _ (at left : ExecState) (interpreter : InterpreterState) (session : SessionState) (moment : ℕ) (contents then : Contents) (result : Result Unit Stop)
    (is : interpreter ≡ record at.interpreter { pending = None }) where
  pub line_waits : (pending : Pending) → at.interpreter.pending ≡ Some pending
      → ((one : InterpreterState) → Obeys (stage contents (over at one)) (stage then left) (pending_effects (over at interpreter) session pending) result)
      → Obeys (stage contents at) (stage then left) (line_effects at session moment) result
  unfolding line_effects
  line_waits pending waits obeys =
      subst (λ (it : Option Pending). Obeys (stage contents at) (stage then left) (line_by at session moment it) result) (sym waits)
      (subst (λ (it : InterpreterState). Obeys (stage contents at) (stage then left) (pending_effects (over at it) session pending) result) is (obeys at.interpreter))

  pub line_commands : (command : Command) → at.interpreter.pending ≡ None → command ≡ command_at interpreter session
      → Obeys (stage contents (over at interpreter)) (stage then left) (command_effects (over at interpreter) moment command) result
      → Obeys (stage contents at) (stage then left) (line_effects at session moment) result
  unfolding line_effects
  line_commands command none said obeys =
      let same : interpreter ≡ at.interpreter = is ∙ ap (λ (it : Option Pending). record at.interpreter { pending = it }) (sym none) in
      subst (λ (it : Option Pending). Obeys (stage contents at) (stage then left) (line_by at session moment it) result) (sym none)
      (subst (λ (it : InterpreterState). Obeys (stage contents (over at it)) (stage then left) (command_effects (over at it) moment (command_at it session)) result) same
      (subst (λ (it : Command). Obeys (stage contents (over at interpreter)) (stage then left) (command_effects (over at interpreter) moment it) result) said obeys))

-- a line of a file
module _ (at on left : ExecState) (session : SessionState) (moment : ℕ) (contents then : Contents) (result : Result Unit Stop) (is : on ≡ passed at) where
  file_as : Obeys (stage contents on) (stage then left) (ending_effects on session moment session.ending) result
      → Obeys (stage contents at) (stage then left) (file_line_effects at session moment) result
  file_as obeys =
      silent_first (passed at) contents then at left (ending_effects (passed at) session moment session.ending) result
      (subst (λ (it : ExecState). Obeys (stage contents it) (stage then left) (ending_effects it session moment session.ending) result) is obeys)

  pub file_done : session.ending ≡ endings.Done → Obeys (stage contents on) (stage then left) (line_effects on session moment) result
      → Obeys (stage contents at) (stage then left) (file_line_effects at session moment) result
  file_done ends obeys =
      file_as (subst (λ (it : Ending). Obeys (stage contents on) (stage then left) (ending_effects on session moment it) result) (sym ends) obeys)

  pub file_refused : (fault : Fault) → session.ending ≡ endings.Fault fault → Obeys (stage contents on) (stage then left) (refuses fault.code on ∷ []) result
      → Obeys (stage contents at) (stage then left) (file_line_effects at session moment) result
  file_refused fault ends obeys =
      file_as (subst (λ (it : Ending). Obeys (stage contents on) (stage then left) (ending_effects on session moment it) result) (sym ends) obeys)

  pub file_open : (place : Open) → session.ending ≡ endings.Open place → Obeys (stage contents on) (stage then left) (settles on) result
      → Obeys (stage contents at) (stage then left) (file_line_effects at session moment) result
  file_open place ends obeys =
      file_as (subst (λ (it : Ending). Obeys (stage contents on) (stage then left) (ending_effects on session moment it) result) (sym ends) obeys)
