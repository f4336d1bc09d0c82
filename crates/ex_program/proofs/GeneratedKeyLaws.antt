-- The keys of a generated run, of which none ends it.
use Rattle.std.proofs.Common.{◌≡◌, ℕ, ◌==◌, Bool, true, false, cond, List, [], ◌∷◌, length, map, Option, Some, None, refl, sym, ap, subst, ◌∙◌}
use Rattle.std.specs.Option.{option_map_or}
use Rattle.cm_fields.specs.declared.code.Code.TheVariants.{NotInTake}
use Rattle.cm_blocks.specs.declared.function.Role.TheVariants as roles
use Rattle.cm_state.specs.Roles.{field_of}
use Rattle.ex_commands.specs.Line.{keyword_code}
use Rattle.cm_blocks.specs.FieldView.{FieldView}
use Rattle.cm_state.specs.SessionState.{SessionState}
use Rattle.cm_run.specs.Semantics.{Effect}
use Rattle.cm_run.specs.Obey.{left_by}
use Rattle.cm_run.proofs.Acts.{left_append}
use Rattle.ex_commands.specs.Act.{act_of}
use Rattle.ex_commands.specs.Command.{added, is_pending, with_sub}
use Rattle.ex_commands.specs.declared.acted.Acted.{Acted}
use Rattle.ex_commands.specs.declared.acted.Acted.TheVariants as answers
use Rattle.ex_commands.specs.declared.command.Command.{Command}
use Rattle.ex_commands.specs.declared.command.Command.TheVariants as commands
use Rattle.ex_commands.proofs.Outcomes.{ends_by_logout}
use Rattle.ex_take.specs.Exec.{acts, command_effects, followed, follows, lifted, line_by as effects_by, refuses, typing_effects, unwaiting}
use Rattle.ex_take.specs.ExecState.{ExecState}
use Rattle.ex_take.specs.Interpreter.{becomes, completion_answer, effect_of, pending_with, subcommand_effects}
use Rattle.ex_take.specs.InterpreterState.{InterpreterState}
use Rattle.ex_take.specs.Quiet.{Waits}
use Rattle.ex_take.specs.declared.pending.Pending.{Pending}
use Rattle.ex_take.proofs.Sequels.{left_lifted}
use Rattle.ex_program.specs.TakesMemory.{command_by}
use Rattle.ex_program.proofs.Harmless.{is_safe}
use Rattle.ex_program.proofs.MemoryKeys.{followed_keep, nothing_settles}

-- a command that is safe does not end the run
safe_answer : (command : Command) (moment : ℕ) (interpreter : InterpreterState) → is_safe command ≡ true
    → (act_of command moment interpreter.state).answer ≡ answers.Logout → ⊥
safe_answer command moment interpreter safe is =
    let logout = (ends_by_logout command moment interpreter.state).0 is in
    let both : true ≡ false = sym safe ∙ ap is_safe logout in cc

becomes_on : (interpreter : InterpreterState) (moment : ℕ) (command : Command) (answer : Acted) → interpreter.ended ≡ false
    → (answer ≡ answers.Logout → ⊥) → (becomes interpreter moment command answer).ended ≡ false
unfolding becomes
becomes_on interpreter moment command answers.Logout on other = absurd (other refl)
becomes_on interpreter moment command answer on other = on

effect_on : (interpreter : InterpreterState) (moment : ℕ) (command : Command) → is_safe command ≡ true → interpreter.ended ≡ false
    → (effect_of interpreter moment command).state.ended ≡ false
effect_on interpreter moment command safe on =
    becomes_on interpreter moment command (act_of command moment interpreter.state).answer on (safe_answer command moment interpreter safe)

-- what is left: no file is open, and the run goes on
pub record GoesOn (at : ExecState) : Type 0 where
  pub files : at.files ≡ []
  pub on : at.interpreter.ended ≡ false

follows_on : (at : ExecState) (answer : Acted) → at.files ≡ [] → at.interpreter.ended ≡ false
    → (left_by at (follows at answer)).interpreter.ended ≡ false
unfolding follows
follows_on at (answers.Refused code) none on = on
follows_on at answers.Logout none on = on
follows_on at answers.Ok none on = ap (λ (effects : List (Effect ExecState)). (left_by at effects).interpreter.ended) (nothing_settles at none) ∙ on
follows_on at answers.Pending none on = ap (λ (effects : List (Effect ExecState)). (left_by at effects).interpreter.ended) (nothing_settles at none) ∙ on
follows_on at answers.Data none on = ap (λ (effects : List (Effect ExecState)). (left_by at effects).interpreter.ended) (nothing_settles at none) ∙ on
follows_on at answers.Take none on = ap (λ (effects : List (Effect ExecState)). (left_by at effects).interpreter.ended) (nothing_settles at none) ∙ on
follows_on at answers.NoMemory none on = ap (λ (effects : List (Effect ExecState)). (left_by at effects).interpreter.ended) (nothing_settles at none) ∙ on
follows_on at answers.Failed none on = ap (λ (effects : List (Effect ExecState)). (left_by at effects).interpreter.ended) (nothing_settles at none) ∙ on

followed_on : (at : ExecState) (effects : List (Effect InterpreterState)) (answer : Acted) → at.files ≡ []
    → (left_by at.interpreter effects).ended ≡ false → GoesOn (left_by at (followed at effects answer))
followed_on at effects answer none on =
    let left = record at { interpreter = left_by at.interpreter effects } in
    record {
      files = (followed_keep at effects answer none).1;
      on = ap (λ (it : ExecState). it.interpreter.ended) (left_append (map (lifted at) effects) (follows left answer) at)
          ∙ ap (λ (it : ExecState). (left_by it (follows left answer)).interpreter.ended) (left_lifted at effects at.interpreter)
          ∙ follows_on left answer none on;
    }

acts_on : (at : ExecState) (moment : ℕ) (command : Command) → is_safe command ≡ true → GoesOn at → GoesOn (left_by at (acts at moment command))
acts_on at moment command safe goes =
    followed_on at (effect_of at.interpreter moment command ∷ []) (act_of command moment at.interpreter.state).answer goes.files
    (effect_on at.interpreter moment command safe goes.on)

commands_on : (at : ExecState) (moment : ℕ) (command : Command) → is_safe command ≡ true → GoesOn at → GoesOn (left_by at (command_effects at moment command))
unfolding command_effects
commands_on at moment (commands.Take file) safe goes = absurd (cc)
commands_on at moment (commands.CopyTty to) safe goes =
    subst (λ (effects : List (Effect ExecState)). GoesOn (left_by at effects)) (sym typed) (acts_on at moment (commands.CopyTty to) safe goes) where
      typed : typing_effects at moment to ≡ acts at moment (commands.CopyTty to)
      typed = ap (λ (files : List (List (List ℕ))). cond (length files == 0) (acts at moment (commands.CopyTty to)) (refuses NotInTake at ∷ [])) goes.files
commands_on at moment command safe goes = acts_on at moment command safe goes

-- a command that waits for subcommands stays safe
choose : (test : Bool) (first later : Command) → is_safe first ≡ true → is_safe later ≡ true → is_safe (cond test first later) ≡ true
choose true first later one other = one
choose false first later one other = other

mapped : (f : FieldView → Command) (verb : Option FieldView) (command : Command) → ((it : FieldView) → is_safe (f it) ≡ true) → is_safe command ≡ true
    → is_safe (option_map_or f verb command) ≡ true
mapped f None command each is = is
mapped f (Some it) command each is = each it

added_safe : (fields : List FieldView) (command : Command) → is_pending command ≡ true → is_safe (added fields command) ≡ true
added_safe fields (commands.Build directory retention sub) is =
    choose (length fields == 0) (commands.Build directory retention false) _ refl
    (mapped (λ (verb : FieldView). with_sub (keyword_code verb.value) (field_of roles.Value fields) (commands.Build directory retention sub)) (field_of roles.Verb fields)
    (commands.Build directory retention sub) (λ it. refl) refl)
added_safe fields (commands.Directory files since before deleted read sub) is =
    choose (length fields == 0) (commands.Directory files since before deleted read false) _ refl
    (mapped (λ (verb : FieldView). with_sub (keyword_code verb.value) (field_of roles.Value fields) (commands.Directory files since before deleted read sub)) (field_of roles.Verb fields)
    (commands.Directory files since before deleted read sub) (λ it. refl) refl)
added_safe fields command is = absurd (cc)

completion_on : (interpreter : InterpreterState) (pending : Pending) → is_safe pending.command ≡ true → interpreter.ended ≡ false
    → (left_by interpreter (subcommand_effects interpreter pending)).ended ≡ false
completion_on interpreter pending safe on = by (is_pending pending.command) where
  by : (waits : Bool) → (left_by (record interpreter { pending = Some pending })
      (cond waits [] (effect_of (record interpreter { pending = None }) pending.moment pending.command ∷ []))).ended ≡ false
  by true = on
  by false = effect_on (record interpreter { pending = None }) pending.moment pending.command safe on

-- a line of a safe command
pub line_on : (at : ExecState) (session : SessionState) (moment : ℕ) (waits : Option Pending) → Waits waits
    → (waits ≡ None → is_safe (command_by at.interpreter session None) ≡ true) → GoesOn at → GoesOn (left_by at (effects_by at session moment waits))
line_on at session moment None wait safe goes = commands_on at moment _ (safe refl) goes
line_on at session moment (Some pending) wait safe goes =
    let whole = pending_with session pending in
    let on = unwaiting at in
    followed_on on (subcommand_effects on.interpreter whole) (completion_answer on.interpreter whole) goes.files
    (completion_on on.interpreter whole (added_safe session.fields pending.command wait) goes.on)
