-- What changes directories and files.
use Rattle.std.proofs.Common.{◌≡◌, ◌≢◌, ℕ, Bool, false, true, refl, sym, ap, ◌∙◌}
use Rattle.cm_state.specs.declared.turn.Turn.TheVariants as turn
use Rattle.cm_run.specs.Idle.{IsIdle, turn_at}
use Rattle.cm_run.specs.Keeping.{is_line}
use Rattle.cm_run.specs.Trace.{RunState, step}
use Rattle.cm_run.proofs.LineTurns.{idle_stays, raw_leads}
use Rattle.ex_store.specs.State.{State}
use Rattle.ex_take.specs.Exec.{exec_semantics}
use Rattle.ex_take.specs.ExecState.{ExecState}
use Rattle.ex_take.specs.Interpreter.{raw_answer, raw_by}
use Rattle.ex_take.specs.InterpreterState.{InterpreterState}
use Rattle.ex_take.proofs.Keys.{keys_go_on, only_control_z}
use Rattle.ex_take.proofs.KeptLines.{raw_left}

-- the files of a state
abbrev pub files_of : ExecState → State
files_of at = at.interpreter.state

idle : IsIdle exec_semantics files_of
idle = record { refusal = λ at. refl; abandonment = λ at. refl }

pub unconfirmed_keeps : (at : RunState ExecState) (key : ℕ) → is_line (exec_semantics.mode_of at.state) ≡ true
    → (turn_at exec_semantics at key ≡ turn.Confirmed → ⊥) → (step exec_semantics at key).state.interpreter.state ≡ at.state.interpreter.state
unconfirmed_keeps at key line other = idle_stays exec_semantics files_of idle at key line other

pub raw_key_keeps : (at : RunState ExecState) (key : ℕ) → is_line (exec_semantics.mode_of at.state) ≡ false → key ≢ 26
    → (step exec_semantics at key).state.interpreter.state ≡ at.state.interpreter.state
raw_key_keeps at key typing other =
    ap files_of (raw_leads exec_semantics at key typing)
    ∙ ap (λ (it : InterpreterState). it.state)
    (raw_left at.state (raw_by at.state.interpreter key at.state.interpreter.typing) (raw_answer at.state.interpreter key at.state.interpreter.typing))
    ∙ only_control_z at.state.interpreter key other

-- the run is ended by a line that is confirmed
abbrev ended_of : ExecState → Bool
ended_of at = at.interpreter.ended

idle_end : IsIdle exec_semantics ended_of
idle_end = record { refusal = λ at. refl; abandonment = λ at. refl }

raw_goes_on : (at : RunState ExecState) (key : ℕ) → is_line (exec_semantics.mode_of at.state) ≡ false
    → (step exec_semantics at key).state.interpreter.ended ≡ at.state.interpreter.ended
raw_goes_on at key typing =
    ap ended_of (raw_leads exec_semantics at key typing)
    ∙ ap (λ (it : InterpreterState). it.ended)
    (raw_left at.state (raw_by at.state.interpreter key at.state.interpreter.typing) (raw_answer at.state.interpreter key at.state.interpreter.typing))
    ∙ keys_go_on at.state.interpreter key at.state.interpreter.typing

pub ends_at_a_line : (at : RunState ExecState) (key : ℕ) → at.state.interpreter.ended ≡ false
    → (step exec_semantics at key).state.interpreter.ended ≡ true → is_line (exec_semantics.mode_of at.state) ≡ true
ends_at_a_line at key on over = by (is_line (exec_semantics.mode_of at.state)) refl where
  by : (line : Bool) → is_line (exec_semantics.mode_of at.state) ≡ line → is_line (exec_semantics.mode_of at.state) ≡ true
  by true is = is
  by false is = let wrong : true ≡ false = sym over ∙ raw_goes_on at key is ∙ on in absurd (cc)

pub goes_on_unconfirmed : (at : RunState ExecState) (key : ℕ) → at.state.interpreter.ended ≡ false
    → is_line (exec_semantics.mode_of at.state) ≡ true → (turn_at exec_semantics at key ≡ turn.Confirmed → ⊥)
    → (step exec_semantics at key).state.interpreter.ended ≡ false
goes_on_unconfirmed at key on line other = idle_stays exec_semantics ended_of idle_end at key line other ∙ on
