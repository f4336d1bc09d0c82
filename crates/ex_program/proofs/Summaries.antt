-- The outcome of a run that only counts, and its summary.
use Rattle.std.proofs.Common.{◌≡◌, ◌≤◌, ◌<◌, ◌+◌, ◌-◌, ℕ, Bool, false, List, [], ◌∷◌, ◌++◌, length, min, Ok, Err, inr, refl, sym, ap, ◌∙◌, arith, length-append}
use Rattle.std.proofs.lemmas.List.{append-nil}
use Rattle.cm_io.specs.Fault.{Rose, last_count}
use Rattle.cm_io.specs.Contents.{Contents, Number, add}
use Rattle.cm_run.specs.Cause.{KeyCount, RunCause, counts}
use Rattle.cm_run.specs.Cut.{Cut, MemoryCut, ScreenCut, LogCut, KeyCut, EndCut, LimitCut, Traces, event_of, part_of, why_of}
use Rattle.cm_run.specs.Event.{Event, keys_of, screen_bytes, state_after, trials_of}
use Rattle.cm_run.specs.Observation.{Between, Observation, Performs}
use Rattle.cm_run.specs.declared.stop.Stop.{Stop}
use Rattle.cm_run.specs.declared.stop.Stop.TheVariants as stop
use Rattle.cm_run.specs.Trace.{run_trace}
use Rattle.ex_store.specs.State.{State, first_state}
use Rattle.ex_take.specs.Exec.{exec_semantics}
use Rattle.ex_take.specs.ExecState.{ExecState, exec_start}
use Rattle.ex_program.specs.GeneratedKeys.{generated_keys}
use Rattle.ex_program.specs.Waiting.{Waiting}
use Rattle.ex_run.specs.Over.{closing}
use Rattle.ex_program.specs.Summary.{LacksMemory, generated_trace, summary_of}
use Rattle.ex_program.specs.declared.summary.Summary.{Summary}

-- over fewer keys than the limit, with nothing outside that fails, a run is cut short by lack of memory alone
pub memory_alone : (limit before now : ℕ) (ended : Bool) (why : Stop) → RunCause (counts 0 0 0) (counts 0 0 0) (Err why)
    → KeyCount limit before now ended (Err why) → before < limit → why ≡ stop.Memory
unfolding RunCause KeyCount Rose
memory_alone limit before now ended stop.Memory cause count few = refl
memory_alone limit before now ended stop.Screen cause count few = absurd (omega (arith, cause.0))
memory_alone limit before now ended stop.Log cause count few = absurd (omega (arith, cause.0))
memory_alone limit before now ended stop.Keys cause count few = absurd (omega (arith, cause.0))
memory_alone limit before now ended stop.Limit cause count few = absurd (omega (arith, few, count.0))

-- a cut for lack of memory is one at an event that asks for it
pub is_memory : (cut : Cut) → why_of cut ≡ stop.Memory → cut ≡ MemoryCut
is_memory (ScreenCut part rest) why = absurd (cc)
is_memory (LogCut part rest) why = absurd (cc)
is_memory (KeyCut key) why = absurd (cc)
is_memory EndCut why = absurd (cc)
is_memory MemoryCut why = refl
is_memory LimitCut why = absurd (cc)

module _ {S : Type 0} where
  -- a run that went to its end
  pub performed : (before now : Observation S) (events : List (Event S)) → Traces before now events (Ok tt) → Between before now events
  unfolding Traces Performs
  performed before now events traces = traces

-- one that was cut short for memory
pub cut_for_memory : (lines : ℕ) (before now : Observation ExecState) (events : List (Event ExecState)) (why : Stop)
    → why ≡ stop.Memory → Traces before now events (Err why) → events ≡ generated_trace lines
    → LacksMemory lines before.trials now.trials
unfolding Traces Performs
cut_for_memory lines before now events why is traces whole =
    let at = is_memory traces.cut (traces.cause ∙ is) in
    inr (record {
      done = traces.done;
      rest = traces.rest;
      split = ap (λ (cut : Cut). traces.done ++ event_of cut ∷ traces.rest) (sym at) ∙ traces.split ∙ whole;
      trials = traces.stands.trials
          ∙ ap (λ (cut : Cut). before.trials + trials_of (traces.done ++ part_of cut)) at
          ∙ ap (λ (events : List (Event ExecState)). before.trials + trials_of events) (append-nil traces.done);
    })

-- of the keys that were left those were taken that are left no more
pub taken : (all left : ℕ) (front rest whole : List ℕ) → all ≡ length whole → left ≡ length rest → front ++ rest ≡ whole
    → (left ≤ all) × (all - left ≡ length front)
taken all left front rest whole before now joined =
    let both = length-append front rest in
    let sizes = ap length joined in
    (omega (arith, before, now, both, sizes), omega (arith, before, now, both, sizes))

-- what a sink has counted
number_in : Contents → ℕ
number_in (Number n) = n
number_in known = 0

-- a sink that counts has counted all that was put, as far as 64 bits count it
pub shown : (first middle last : ℕ) (bytes more : List ℕ) → first ≡ 0 → Number middle ≡ add (Number first) bytes
    → Number last ≡ add (Number middle) more → last ≡ min (length (bytes ++ more)) last_count
unfolding add number_in
shown first middle last bytes more none run close =
    let one = ap number_in run in
    let other = ap number_in close in
    omega (arith, none, one, other, length-append bytes more)

abbrev summary_with : ℕ → ℕ → ℕ → ℕ → ℕ → Summary
summary_with lines refused keys put generations =
    record { lines = lines; refused = refused; keys = keys; shown = put; generations = generations }

same_summary : (lines a b c d e f g h : ℕ) → a ≡ e → b ≡ f → c ≡ g → d ≡ h → summary_with lines a b c d ≡ summary_with lines e f g h
same_summary lines a b c d e f g h one two three four = cc

-- the figures of the run that begins so
module _ (start : ExecState) (keys : List ℕ) where
  abbrev trace : List (Event ExecState)
  trace = run_trace exec_semantics false start [] keys

  abbrev left : ExecState
  left = state_after start trace

  abbrev pub figures : ℕ → Summary
  figures lines = record {
    lines = lines;
    refused = left.refused;
    keys = length (keys_of trace);
    shown = min (length (screen_bytes trace ++ closing left.interpreter.ended)) last_count;
    generations = length left.interpreter.state.rows;
  }

  pub sums_up : (lines refused count put generations : ℕ) (ended : Bool) (at : ExecState) → at ≡ left → refused ≡ at.refused
      → count ≡ length (keys_of trace) → ended ≡ at.interpreter.ended → put ≡ min (length (screen_bytes trace ++ closing ended)) last_count
      → generations ≡ length at.interpreter.state.rows
      → summary_with lines refused count put generations ≡ figures lines
  sums_up lines refused count put generations ended at leads of_refused of_keys of_ended of_put of_generations =
      let closed : put ≡ min (length (screen_bytes trace ++ closing left.interpreter.ended)) last_count =
      of_put ∙ ap (λ it. min (length (screen_bytes trace ++ closing it)) last_count) (of_ended ∙ ap (λ (it : ExecState). it.interpreter.ended) leads) in
      same_summary lines refused count put generations _ _ _ _ (of_refused ∙ ap (λ (it : ExecState). it.refused) leads) of_keys closed
      (of_generations ∙ ap (λ (it : ExecState). length it.interpreter.state.rows) leads)

-- it begins from the first state, over the keys of so many lines
pub from_first : (lines : ℕ) (start : ExecState) (store : State) (keys : Waiting) → start ≡ exec_start store → store ≡ first_state
    → keys ≡ record { left = generated_keys lines; gets = 0 } → figures start keys.left lines ≡ summary_of lines
from_first lines start store keys is first generated =
    ap (λ (it : ExecState). figures it keys.left lines) (is ∙ ap exec_start first)
    ∙ ap (λ (it : Waiting). figures (exec_start first_state) it.left lines) generated

pub trace_from_first : (lines : ℕ) (start : ExecState) (store : State) (keys : Waiting) → start ≡ exec_start store → store ≡ first_state
    → keys ≡ record { left = generated_keys lines; gets = 0 } → trace start keys.left ≡ generated_trace lines
trace_from_first lines start store keys is first generated =
    ap (λ (it : ExecState). trace it keys.left) (is ∙ ap exec_start first)
    ∙ ap (λ (it : Waiting). trace (exec_start first_state) it.left) generated
