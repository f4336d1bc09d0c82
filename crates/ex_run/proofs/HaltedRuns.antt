-- What a run that was halted between two keys has counted, and that its application has not ended it; and that a run
-- counts no more than the whole run costs.
use Rattle.std.proofs.Common.{◌≡◌, ◌⊎◌, ◌≤◌, ℕ, ◌+◌, Bool, false, List, [], ◌∷◌, ◌++◌, Result, Ok, Err, refl, sym, ap, ◌∙◌, subst, inl, inr, arith}
use Rattle.std.specs.Prelude.{Option, true}
use Rattle.std.proofs.lemmas.List.{append-nil, append_cancel_right}
use Rattle.std.proofs.lemmas.List.Sums.{sum_by-append}
use Rattle.cm_io.specs.Contents.{Contents}
use Rattle.cm_io.specs.declared.status.Status.{Status}
use Rattle.cm_io.specs.declared.status.Status.TheVariants as status
use Rattle.cm_run.specs.Cut.{Cut, EndCut, IsCut, KeyCut, LimitCut, LogCut, MemoryCut, ScreenCut, Traces, event_of, part_of, why_of}
use Rattle.cm_run.specs.Event.{Event, event_trials, keys_of, trials_of}
use Rattle.cm_run.specs.Observation.{Between, Observation, Performs}
use Rattle.cm_run.specs.Trace.{is_ended, starting}
use Rattle.cm_run.specs.declared.stop.Stop.{Stop}
use Rattle.cm_run.specs.declared.stop.Stop.TheVariants as stop
use Rattle.cm_run.proofs.Prefixes.{run_leads}
use Rattle.ex_store.specs.State.{State}
use Rattle.ex_system.specs.Form.{Form}
use Rattle.ex_system.specs.Saving.{IsOr}
use Rattle.ex_system.specs.Start.{IsEarly}
use Rattle.ex_run.specs.Closing.{Closes, Ends}
use Rattle.ex_run.specs.Course.{Halted, IsHalt, Ran}
use Rattle.ex_run.specs.Over.{Over, has_ended, trace_of}
use Rattle.ex_run.specs.Scene.{Scene, Tell, Telling, seen}
use Rattle.ex_run.proofs.Stops.{Halts, is_turn, run_stops}

-- a part costs nothing
part_cost : (S : Type 0) (cut : Cut) → trials_of (part_of {S = S} cut) ≡ 0
part_cost S (ScreenCut part rest) = refl
part_cost S (LogCut part rest) = refl
part_cost S (KeyCut key) = refl
part_cost S EndCut = refl
part_cost S MemoryCut = refl
part_cost S LimitCut = refl

module _ {S : Type 0} where
  -- a run that was cut has counted no more than the whole run costs
  pub cut_most : (a b : Observation S) (events : List (Event S)) (result : Result Unit Stop) → Traces a b events result
      → b.trials ≤ a.trials + trials_of events
  unfolding Traces Performs
  cut_most a b events (Ok value) traces = let all : b.trials ≡ a.trials + trials_of events = traces.trials in omega (arith, all)
  cut_most a b events (Err why) traces =
      let counted : b.trials ≡ a.trials + trials_of (traces.done ++ part_of traces.cut) = traces.stands.trials in
      let before : trials_of (traces.done ++ part_of traces.cut) ≡ trials_of traces.done + trials_of (part_of traces.cut) =
      sum_by-append event_trials traces.done (part_of traces.cut) in
      let none : trials_of (part_of traces.cut) ≡ 0 = part_cost S traces.cut in
      let whole : trials_of (traces.done ++ event_of traces.cut ∷ traces.rest) ≡ trials_of traces.done + trials_of (event_of traces.cut ∷ traces.rest) =
      sum_by-append event_trials traces.done (event_of traces.cut ∷ traces.rest) in
      let same : trials_of (traces.done ++ event_of traces.cut ∷ traces.rest) ≡ trials_of events = ap (λ (it : List (Event S)). trials_of it) traces.split in
      omega (arith, counted, before, none, whole, same)

-- the keys could not be read on, or as many were taken as a run takes
abbrev IsKeyStop : Stop → Type 0
IsKeyStop why = (why ≡ stop.Keys) ⊎ (why ≡ stop.Limit)

-- then nothing happens of the event, which is about a key
record BetweenKeys (S : Type 0) (cut : Cut) : Type 0 where
  turn : is_turn (event_of {S = S} cut) ≡ true
  none : part_of {S = S} cut ≡ []

between_keys : (S : Type 0) (cut : Cut) → IsKeyStop (why_of cut) → BetweenKeys S cut
between_keys S (ScreenCut part rest) (inl is) = absurd (cc)
between_keys S (ScreenCut part rest) (inr is) = absurd (cc)
between_keys S (LogCut part rest) (inl is) = absurd (cc)
between_keys S (LogCut part rest) (inr is) = absurd (cc)
between_keys S (KeyCut key) is = record { turn = refl; none = refl }
between_keys S EndCut is = record { turn = refl; none = refl }
between_keys S MemoryCut (inl is) = absurd (cc)
between_keys S MemoryCut (inr is) = absurd (cc)
between_keys S LimitCut is = record { turn = refl; none = refl }

-- no other status is one of a run that was halted
host_goes : IsHalt status.HostFault → ⊥
host_goes (inl is) = cc
host_goes (inr is) = cc

done_goes : IsHalt status.Done → ⊥
done_goes (inl is) = cc
done_goes (inr is) = cc

write_goes : IsHalt status.WriteFault → ⊥
write_goes (inl is) = cc
write_goes (inr is) = cc

memory_goes : IsHalt status.NoMemory → ⊥
memory_goes (inl is) = cc
memory_goes (inr is) = cc

halt_of : (result why : Status) → IsOr result why → IsHalt result → IsHalt why
halt_of result why (inl same) halt = subst IsHalt same halt
halt_of result why (inr same) halt = absurd (host_goes (subst IsHalt same halt))

ends_halt : (ended : Bool) (before now : Contents) (f g : ℕ) (result : Status) → Ends ended before now f g result → IsHalt result → ⊥
ends_halt true before now f g result ends halt = done_goes (halt_of result status.Done ends.0 halt)
ends_halt false before now f g result (inl ends) halt = done_goes (halt_of result status.Done ends.0 halt)
ends_halt false before now f g result (inr ends) halt = write_goes (halt_of result status.WriteFault ends.0 halt)

-- a run that closed so was cut short there
record Stopped (why : Result Unit Stop) : Type 0 where
  stop : Stop
  is : why ≡ Err stop
  key : IsKeyStop stop

closes_halt : (why : Result Unit Stop) (ended : Bool) (before now : Contents) (f g : ℕ) (result : Status) → Closes why ended before now f g result
    → IsHalt result → Stopped why
unfolding Closes
closes_halt (Ok value) ended before now f g result closes halt = absurd (ends_halt ended before now f g result closes halt)
closes_halt (Err stop.Keys) ended before now f g result closes halt = record { stop = stop.Keys; is = refl; key = inl refl }
closes_halt (Err stop.Limit) ended before now f g result closes halt = record { stop = stop.Limit; is = refl; key = inr refl }
closes_halt (Err stop.Memory) ended before now f g result closes halt = absurd (memory_goes (halt_of result status.NoMemory closes.0 halt))
closes_halt (Err stop.Screen) ended before now f g result closes halt = absurd (write_goes (halt_of result status.WriteFault closes.0 halt))
closes_halt (Err stop.Log) ended before now f g result closes halt = absurd (write_goes (halt_of result status.WriteFault closes.0 halt))

-- a status that came before the first prompt is none of these
pub early_not_halted : (input : Option (List ℕ)) (result : Status) → IsEarly input result → IsHalt result → ⊥
early_not_halted input result early (inl is) = subst (λ (it : Status). IsEarly input it) is early
early_not_halted input result early (inr is) = subst (λ (it : Status). IsEarly input it) is early

cut_of : {S : Type 0} (before now : Observation S) (events : List (Event S)) (why : Stop) → Traces before now events (Err why)
    → IsCut why before now events
unfolding Traces
cut_of before now events why traces = traces

-- past the first prompt
module _ {S : Type 0} (known : Telling) (o : Over S) (form : Form) (start : State) (left : S) (a b : Scene) (result : Status)
    (ran : Ran known o form start left a b result) (tells : Tell known) where
  abbrev events : List ℕ → List (Event S)
  events keys = trace_of o form.logs start a.moments keys

  abbrev before : Observation S
  before = seen a (o.begins start)

  abbrev now : Observation S
  now = seen ran.at left

  pub most : b.trials ≤ a.trials + trials_of (events a.keys)
  most =
      let bound : ran.at.trials ≤ a.trials + trials_of (events a.keys) = cut_most before now (events a.keys) ran.stop (ran.traces tells) in
      let same : b.trials ≡ ran.at.trials = ap (λ (it : Scene). it.trials) ran.rest in omega (arith, bound, same)

  module _ (halt : IsHalt result) where
    stopped : Stopped ran.stop
    stopped = closes_halt ran.stop (has_ended o left) ran.at.screen b.screen ran.at.faults.screen b.faults.screen result ran.closes halt

    cut : IsCut stopped.stop before now (events a.keys)
    cut =
        cut_of before now (events a.keys) stopped.stop
        (subst (λ (why : Result Unit Stop). Traces before now (events a.keys) why) stopped.is (ran.traces tells))

    between : BetweenKeys S cut.cut
    between = between_keys S cut.cut (subst IsKeyStop (sym cut.cause) stopped.key)

    whole : Between before now cut.done
    unfolding Performs
    whole =
        subst (λ (it : List (Event S)). Between before now it) (append-nil cut.done)
        (subst (λ (it : List (Event S)). Between before now (cut.done ++ it)) between.none cut.stands)

    halts : Halts o.means form.logs (starting o.means (o.begins start) a.moments) cut.done (events)
    halts =
        run_stops o.means form.logs (o.begins start) a.moments a.keys cut.done cut.rest (event_of cut.cut) between.turn cut.split

    pub halted : (taken : List ℕ) → taken ++ b.keys ≡ a.keys → Halted o form start a b taken
    halted taken joined =
        let stays : b.keys ≡ ran.at.keys = ap (λ (it : Scene). it.keys) ran.rest in
        let same : taken ≡ keys_of cut.done =
        append_cancel_right taken (keys_of cut.done) ran.at.keys (ap (λ keys. taken ++ keys) (sym stays) ∙ joined ∙ sym whole.keys) in
        let leads = run_leads o.means form.logs (o.begins start) a.moments (keys_of cut.done) in
        subst (λ keys. Halted o form start a b keys) (sym same)
        (record {
          counted = ap (λ (it : Scene). it.trials) ran.rest ∙ whole.trials ∙ ap (λ n. a.trials + n) halts.alike.trials;
          going = subst (λ (it : S). is_ended (o.means.mode_of it) ≡ false) (sym leads) halts.going;
        })
