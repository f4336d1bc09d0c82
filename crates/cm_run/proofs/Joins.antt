-- Traces that are joined, one after the other.
use Rattle.std.specs.List.{flat_map, fold, sum_by}
use Rattle.std.proofs.Common.{◌≡◌, ◌+◌, List, [], ◌∷◌, ◌++◌, refl, ap, sym, subst, ◌∙◌, arith, append_assoc}
use Rattle.std.specs.Prelude.{Result, Ok, Err}
use Rattle.std.proofs.lemmas.List.Sums.{fold-append, sum_by-append}
use Rattle.std.proofs.lemmas.Grind.{flat_map-append}
use Rattle.cm_io.specs.Contents.{add}
use Rattle.cm_io.proofs.Additions.{add_none, add_append}
use Rattle.cm_run.specs.declared.stop.Stop.{Stop}
use Rattle.cm_run.specs.Event.{Event, event_key, event_log, event_screen, event_trials, gets_after_event, moments_after_event, state_after_event}
use Rattle.cm_run.specs.Observation.{Observation, Performs}
use Rattle.cm_run.specs.Cut.{Traces, event_of, part_of}

-- nothing happens
pub performs_none : {S : Type 0} (a : Observation S) → Performs a a []
unfolding Performs
performs_none a = record {
  screen = sym (add_none a.screen);
  log = sym (add_none a.log);
  keys = refl;
  gets = refl;
  moments = refl;
  trials = omega arith;
  state = refl;
}

-- what happens, and then more
pub performs_both : {S : Type 0} (a b c : Observation S) (first second : List (Event S)) → Performs b c second → Performs a b first → Performs a c (first ++ second)
unfolding Performs
performs_both a b c first second late early = record {
  screen = late.screen ∙ ap (λ contents. add contents (flat_map event_screen second)) early.screen
      ∙ sym (add_append a.screen (flat_map event_screen first) (flat_map event_screen second))
      ∙ ap (λ bytes. add a.screen bytes) (sym (flat_map-append event_screen first second));
  log = late.log ∙ ap (λ contents. add contents (flat_map event_log second)) early.log
      ∙ sym (add_append a.log (flat_map event_log first) (flat_map event_log second))
      ∙ ap (λ bytes. add a.log bytes) (sym (flat_map-append event_log first second));
  keys = ap (λ bytes. bytes ++ c.keys) (flat_map-append event_key first second)
      ∙ append_assoc (flat_map event_key first) (flat_map event_key second) c.keys
      ∙ ap (λ bytes. flat_map event_key first ++ bytes) late.keys ∙ early.keys;
  gets = late.gets ∙ ap (λ n. fold gets_after_event n second) early.gets ∙ sym (fold-append gets_after_event a.gets first second);
  moments = late.moments ∙ ap (λ xs. fold moments_after_event xs second) early.moments
      ∙ sym (fold-append moments_after_event a.moments first second);
  trials = let both : sum_by event_trials (first ++ second) ≡ sum_by event_trials first + sum_by event_trials second
      = sum_by-append event_trials first second in
      let early_trials : b.trials ≡ a.trials + sum_by event_trials first = early.trials in
      let late_trials : c.trials ≡ b.trials + sum_by event_trials second = late.trials in
      omega arith;
  state = late.state ∙ ap (λ s. fold state_after_event s second) early.state ∙ sym (fold-append state_after_event a.state first second);
}

-- what happens, and then a trace
pub traces_both : {S : Type 0} (a b c : Observation S) (first second : List (Event S)) (result : Result Unit Stop)
    → Traces b c second result → Performs a b first → Traces a c (first ++ second) result
unfolding Traces
traces_both a b c first second (Ok value) late early = performs_both a b c first second late early
traces_both a b c first second (Err why) late early = record {
  done = first ++ late.done;
  cut = late.cut;
  rest = late.rest;
  cause = late.cause;
  split = append_assoc first late.done (event_of late.cut ∷ late.rest) ∙ ap (λ events. first ++ events) late.split;
  stands = subst (λ events. Performs a c events) (sym (append_assoc first late.done (part_of late.cut)))
      (performs_both a b c first (late.done ++ part_of late.cut) late.stands early);
}

-- a whole trace, and then another
pub traces_on : {S : Type 0} (a b c : Observation S) (first second : List (Event S)) (value : Unit) (result : Result Unit Stop)
    → Traces b c second result → Traces a b first (Ok value) → Traces a c (first ++ second) result
unfolding Traces
traces_on a b c first second value result late early = traces_both a b c first second result late early

-- a trace that was cut goes on no further
pub traces_cut : {S : Type 0} (a b : Observation S) (first second : List (Event S)) (why : Stop)
    → Traces a b first (Err why) → Traces a b (first ++ second) (Err why)
unfolding Traces
traces_cut a b first second why early = record {
  done = early.done;
  cut = early.cut;
  rest = early.rest ++ second;
  cause = early.cause;
  split = sym (append_assoc early.done (event_of early.cut ∷ early.rest) second) ∙ ap (λ events. events ++ second) early.split;
  stands = early.stands;
}

-- no events
pub traces_none : {S : Type 0} (a : Observation S) (value : Unit) → Traces a a [] (Ok value)
unfolding Traces
traces_none a value = performs_none a
