-- [confirmation] What the laws of runs stand on.
use Rattle.std.proofs.Common.{inl, inr, ◌≡◌, ℕ, ◌+◌, ◌-◌, ◌^◌, ◌<◌, List, [], ◌∷◌, ◌++◌, refl, ap, sym, ◌∙◌, arith}
use Rattle.std.specs.Prelude.{Bool, true, false, Some, Result, Ok, Err, ◌⊎◌}
use Rattle.std.specs.List.{flat_map, fold, sum_by}
use Rattle.std.proofs.lemmas.List.{append-nil}
use Rattle.std.proofs.lemmas.List.Sums.{fold-append, sum_by-append}
use Rattle.std.proofs.lemmas.Grind.{flat_map-append}
use Rattle.cm_io.specs.Contents.{add}
use Rattle.cm_io.specs.Fault.{Rose}
use Rattle.cm_blocks.specs.declared.field.Fault.{Fault}
use Rattle.cm_state.specs.SessionState.{SessionState}
use Rattle.cm_state.specs.declared.turn.Turn.{Turn}
use Rattle.cm_state.specs.declared.turn.Turn.TheVariants as turn
use Rattle.cm_run.specs.declared.stop.Stop.{Stop}
use Rattle.cm_run.specs.declared.stop.Stop.TheVariants as stop
use Rattle.cm_run.specs.Cause.{Counts, KeyCount, RunCause}
use Rattle.cm_run.specs.Cut.{Cut, EndCut, KeyCut, LimitCut, LogCut, MemoryCut, ScreenCut, Traces, event_of, part_of, why_of}
use Rattle.cm_run.specs.Event.{Act, Event, Log, Screen, Trials, event_key, event_log, event_screen, event_trials, gets_after_event, moments_after_event, state_after_event}
use Rattle.cm_run.specs.ExactCut.{IsExactCut, cause_at}
use Rattle.cm_run.specs.Semantics.{Semantics}
use Rattle.cm_run.specs.Observation.{Observation, Performs}
use Rattle.cm_run.specs.Trace.{RunState, events_if, key_trace, keystroke, keystroke_trace, outcome_trace, turn_outcome}
use Rattle.cm_run.proofs.Cuts.{log_part, screen_part}

-- a line is refused, and does what the application means by it
pub refused : {S : Type 0} (m : Semantics S) (state : S) (session : SessionState) (moment : ℕ) (fault : Fault)
    → ((turn_outcome m state session moment (turn.Refused fault)).events ≡ Act (m.refusal state) ∷ [])
    × ((turn_outcome m state session moment (turn.Refused fault)).takes_moment ≡ false)
unfolding turn_outcome
refused m state session moment fault = (refl, refl)

-- a line that goes on does nothing
pub idle : {S : Type 0} (m : Semantics S) (state : S) (session : SessionState) (moment : ℕ) (it : Turn) → (turn_outcome m state session moment it).begins ≡ false
    → ((turn_outcome m state session moment it).events ≡ []) × ((turn_outcome m state session moment it).takes_moment ≡ false)
unfolding turn_outcome
idle m state session moment turn.Confirmed on = absurd (cc)
idle m state session moment turn.Abandoned on = absurd (cc)
idle m state session moment turn.Edited on = (refl, refl)
idle m state session moment (turn.Refused fault) on = absurd (cc)
idle m state session moment turn.Failed on = (refl, refl)

-- an event is cut for its cause
cause_of : (S : Type 0) (cut : Cut) → cause_at (event_of {S = S} cut) ≡ Some (why_of cut)
cause_of S (ScreenCut part rest) = refl
cause_of S (LogCut part rest) = refl
cause_of S (KeyCut key) = refl
cause_of S EndCut = refl
cause_of S MemoryCut = refl
cause_of S LimitCut = refl

module _ {S : Type 0} where
  is_act : Event S → Bool
  is_act (Act state) = true
  is_act event = false

  -- none of these events is an act
  no_acts : List (Event S) → Type 0
  no_acts [] = Unit {0}
  no_acts (event ∷ events) = (is_act event ≡ false) × no_acts events

  -- an act after events of which none is one is after all of them
  after_all : (front rest first more : List (Event S)) (left : S) → no_acts front → first ++ Act left ∷ more ≡ front ++ rest
      → (between : List (Event S)) × (first ≡ front ++ between)
  unfolding is_act no_acts
  after_all [] rest first more left none same = (first, refl)
  after_all (event ∷ front) rest [] more left none same =
      let first : Act left ≡ event = cc in
      let wrong : true ≡ false = ap is_act first ∙ none.0 in absurd (cc)
  after_all (event ∷ front) rest (other ∷ first) more left none same =
      let head : other ≡ event = cc in
      let tail : first ++ Act left ∷ more ≡ front ++ rest = cc in
      let found = after_all front rest first more left none.1 tail in
      (found.0, ap (λ events. other ∷ events) found.1 ∙ ap (λ it. it ∷ (front ++ found.0)) head)

  log_acts : (logging : Bool) (line : Event S) → is_act line ≡ false → no_acts (events_if logging (line ∷ []))
  unfolding is_act no_acts
  log_acts true line none = (none, tt)
  log_acts false line none = tt

  -- an act of a key is after its echo and its line of the log
  pub acts_after : (m : Semantics S) (logging : Bool) (at : RunState S) (key : ℕ) (first more : List (Event S)) (left : S)
      → first ++ Act left ∷ more ≡ key_trace m logging at key
      → (between : List (Event S)) × (first ≡ Trials (keystroke m at key).cost ∷ Screen (keystroke m at key).echo
      ∷ (events_if logging (Log (keystroke m at key).log ∷ []) ++ between))
  unfolding is_act no_acts keystroke_trace
  acts_after m logging at key first more left same =
      let s = keystroke m at key in
      after_all (Trials s.cost ∷ Screen s.echo ∷ events_if logging (Log s.log ∷ [])) (outcome_trace m at.state s.outcome) first more left
      (refl, (refl, log_acts logging (Log s.log) refl)) same

  -- of a part of what is cut nothing is told but bytes
  part_keys : (cut : Cut) (done : List (Event S)) → flat_map event_key (done ++ part_of cut) ≡ flat_map event_key done
  part_keys cut done = flat_map-append event_key done (part_of cut) ∙ ap (λ keys. flat_map event_key done ++ keys) (none cut) ∙ append-nil (flat_map event_key done)
    where
      none : (cut : Cut) → flat_map event_key (part_of {S = S} cut) ≡ []
      none (ScreenCut part rest) = refl
      none (LogCut part rest) = refl
      none (KeyCut key) = refl
      none EndCut = refl
      none MemoryCut = refl
      none LimitCut = refl

  part_fold : {B : Type 0} (f : B → Event S → B) (at : B) → ((to : B) (bytes : List ℕ) → f to (Screen bytes) ≡ to) → ((to : B) (bytes : List ℕ) → f to (Log bytes) ≡ to)
      → (cut : Cut) (done : List (Event S)) → fold f at (done ++ part_of cut) ≡ fold f at done
  part_fold f at shows logs (ScreenCut part rest) done = fold-append f at done (Screen part ∷ []) ∙ shows (fold f at done) part
  part_fold f at shows logs (LogCut part rest) done = fold-append f at done (Log part ∷ []) ∙ logs (fold f at done) part
  part_fold f at shows logs (KeyCut key) done = ap (fold f at) (append-nil done)
  part_fold f at shows logs EndCut done = ap (fold f at) (append-nil done)
  part_fold f at shows logs MemoryCut done = ap (fold f at) (append-nil done)
  part_fold f at shows logs LimitCut done = ap (fold f at) (append-nil done)

  part_trials : (cut : Cut) (done : List (Event S)) → sum_by event_trials (done ++ part_of cut) ≡ sum_by event_trials done
  part_trials cut done =
      let both = sum_by-append event_trials done (part_of cut) in
      let nothing : sum_by event_trials (part_of {S = S} cut) ≡ 0 = none cut in
      both ∙ ap (λ n. sum_by event_trials done + n) nothing ∙ omega arith
    where
      none : (cut : Cut) → sum_by event_trials (part_of {S = S} cut) ≡ 0
      none (ScreenCut part rest) = refl
      none (LogCut part rest) = refl
      none (KeyCut key) = refl
      none EndCut = refl
      none MemoryCut = refl
      none LimitCut = refl

  pub cut_is_exact : (before now : Observation S) (events : List (Event S)) (why : Stop) → Traces before now events (Err why)
      → IsExactCut why before now events
  unfolding Traces Performs
  cut_is_exact before now events why traces = record {
    done = traces.done;
    event = event_of traces.cut;
    rest = traces.rest;
    split = traces.split;
    cause = cause_of S traces.cut ∙ ap (λ (it : Stop). Some it) traces.cause;
    keys = ap (λ keys. keys ++ now.keys) (sym (part_keys traces.cut traces.done)) ∙ traces.stands.keys;
    gets = traces.stands.gets ∙ part_fold gets_after_event before.gets (λ to bytes. refl) (λ to bytes. refl) traces.cut traces.done;
    moments = traces.stands.moments ∙ part_fold moments_after_event before.moments (λ to bytes. refl) (λ to bytes. refl) traces.cut traces.done;
    trials = traces.stands.trials ∙ ap (λ n. before.trials + n) (part_trials traces.cut traces.done);
    state = traces.stands.state ∙ part_fold state_after_event before.state (λ to bytes. refl) (λ to bytes. refl) traces.cut traces.done;
    shown = flat_map event_screen (part_of {S = S} traces.cut);
    shown_part = screen_part S traces.cut;
    screen = traces.stands.screen ∙ ap (λ (bytes : List ℕ). add before.screen bytes) (flat_map-append event_screen traces.done (part_of traces.cut));
    logged = flat_map event_log (part_of {S = S} traces.cut);
    logged_part = log_part S traces.cut;
    log = traces.stands.log ∙ ap (λ (bytes : List ℕ). add before.log bytes) (flat_map-append event_log traces.done (part_of traces.cut));
  }

-- a count that did not rise, below its last value
unrisen : (count : ℕ) → count < 2 ^ 64 - 1 → Rose count count → ⊥
unfolding Rose
unrisen count below rose = grind arith

pub quiet_ends : (limit before now : ℕ) (ended : Bool) (counts : Counts) (result : Result Unit Stop)
    → RunCause counts counts result → KeyCount limit before now ended result
    → counts.screen < 2 ^ 64 - 1 → counts.log < 2 ^ 64 - 1 → counts.keys < 2 ^ 64 - 1 → before < limit
    → (result ≡ Ok tt) ⊎ (result ≡ Err stop.Memory)
unfolding RunCause KeyCount
quiet_ends limit before now ended counts (Ok value) cause count screen log keys below = inl refl
quiet_ends limit before now ended counts (Err stop.Memory) cause count screen log keys below = inr refl
quiet_ends limit before now ended counts (Err stop.Screen) cause count screen log keys below = absurd (unrisen counts.screen screen cause.0)
quiet_ends limit before now ended counts (Err stop.Log) cause count screen log keys below = absurd (unrisen counts.log log cause.0)
quiet_ends limit before now ended counts (Err stop.Keys) cause count screen log keys below = absurd (unrisen counts.keys keys cause.0)
quiet_ends limit before now ended counts (Err stop.Limit) cause count screen log keys below =
    let taken : before ≡ now + limit = count.0 in absurd (omega arith)
