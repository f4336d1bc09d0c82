-- What an act may do to the EXEC.
use Rattle.std.proofs.Common.{◌≡◌, ◌≢◌, ℕ, Bool, true, false, cond, [], ◌∷◌, Option, None, Some, refl, sym, ◌∙◌}
use Rattle.cm_run.specs.Obey.{left_by}
use Rattle.ex_commands.specs.Act.{act_of}
use Rattle.ex_commands.specs.FileTyping.{bytes_after, echo_of}
use Rattle.ex_commands.specs.FileTyping as typed
use Rattle.ex_commands.specs.declared.acted.Acted.{Acted}
use Rattle.ex_commands.specs.declared.acted.Acted.TheVariants as answers
use Rattle.ex_commands.specs.declared.command.Command.{Command}
use Rattle.ex_commands.specs.declared.command.Command.TheVariants as commands
use Rattle.ex_commands.specs.declared.data.DataTurn.{DataTurn}
use Rattle.ex_commands.specs.declared.data.DataTurn.TheVariants as turns
use Rattle.ex_commands.proofs.Outcomes.{ends_by_logout}
use Rattle.ex_commands.proofs.TypedEnds.{others_keep}
use Rattle.ex_take.specs.Interpreter.{becomes, effect_of, raw_by, typed_effects}
use Rattle.ex_take.specs.InterpreterState.{InterpreterState}
use Rattle.ex_take.specs.declared.pending.Pending.{Pending}
use Rattle.ex_take.specs.declared.typing.Typing.{Typing}

-- a file is written by control-Z alone
kept_by : (interpreter : InterpreterState) (to : Typing) (turn : DataTurn) → turn ≢ turns.Write → (left_by interpreter (typed_effects interpreter to turn)).state ≡ interpreter.state
unfolding typed_effects
kept_by interpreter to turns.More other = refl
kept_by interpreter to turns.Write other = absurd (other refl)
kept_by interpreter to turns.Dropped other = refl

raw_keeps : (interpreter : InterpreterState) (key : ℕ) (typing : Option Typing) → key ≢ 26 → (left_by interpreter (raw_by interpreter key typing)).state ≡ interpreter.state
raw_keeps interpreter key None other = refl
raw_keeps interpreter key (Some typing) other =
    kept_by interpreter (record typing { typed = bytes_after typing.typed key }) (typed.turn_of (echo_of typing.typed key)) (others_keep typing.typed key other)

pub only_control_z : (interpreter : InterpreterState) (key : ℕ) → key ≢ 26 → (left_by interpreter (raw_by interpreter key interpreter.typing)).state ≡ interpreter.state
only_control_z interpreter key other = raw_keeps interpreter key interpreter.typing other

-- the run is ended by LOGOUT alone
raw_goes_on : (interpreter : InterpreterState) (to : Typing) (turn : DataTurn) → (left_by interpreter (typed_effects interpreter to turn)).ended ≡ interpreter.ended
unfolding typed_effects
raw_goes_on interpreter to turns.More = refl
raw_goes_on interpreter to turns.Write = refl
raw_goes_on interpreter to turns.Dropped = refl

pub keys_go_on : (interpreter : InterpreterState) (key : ℕ) (typing : Option Typing) → (left_by interpreter (raw_by interpreter key typing)).ended ≡ interpreter.ended
keys_go_on interpreter key None = refl
keys_go_on interpreter key (Some typing) =
    raw_goes_on interpreter (record typing { typed = bytes_after typing.typed key }) (typed.turn_of (echo_of typing.typed key))

ends_by : (interpreter : InterpreterState) (moment : ℕ) (command : Command) (answer : Acted) → interpreter.ended ≡ false
    → (becomes interpreter moment command answer).ended ≡ true → answer ≡ answers.Logout
unfolding becomes
ends_by interpreter moment command answers.Take on over = let wrong : true ≡ false = sym over ∙ on in absurd (cc)
ends_by interpreter moment command answers.Data on over = let wrong : true ≡ false = sym over ∙ on in absurd (cc)
ends_by interpreter moment command answers.Pending on over = let wrong : true ≡ false = sym over ∙ on in absurd (cc)
ends_by interpreter moment command answers.Logout on over = refl
ends_by interpreter moment command answers.Ok on over = let wrong : true ≡ false = sym over ∙ on in absurd (cc)
ends_by interpreter moment command (answers.Refused code) on over = let wrong : true ≡ false = sym over ∙ on in absurd (cc)
ends_by interpreter moment command answers.NoMemory on over = let wrong : true ≡ false = sym over ∙ on in absurd (cc)
ends_by interpreter moment command answers.Failed on over = let wrong : true ≡ false = sym over ∙ on in absurd (cc)

-- a command that acts ends the run where it is LOGOUT
pub act_ends : (interpreter : InterpreterState) (moment : ℕ) (command : Command) → interpreter.ended ≡ false
    → (effect_of interpreter moment command).state.ended ≡ true → command ≡ commands.Logout
act_ends interpreter moment command on over =
    (ends_by_logout command moment interpreter.state).0 (ends_by interpreter moment command (act_of command moment interpreter.state).answer on over)

-- and after the subcommands of one that waited
pub completion_ends : (interpreter : InterpreterState) (pending : Pending) (test : Bool) → interpreter.ended ≡ false
    → (left_by (record interpreter { pending = Some pending })
    (cond test [] (effect_of (record interpreter { pending = None }) pending.moment pending.command ∷ []))).ended ≡ true
    → pending.command ≡ commands.Logout
completion_ends interpreter pending true on over = let wrong : true ≡ false = sym over ∙ on in absurd (cc)
completion_ends interpreter pending false on over = act_ends (record interpreter { pending = None }) pending.moment pending.command on over
