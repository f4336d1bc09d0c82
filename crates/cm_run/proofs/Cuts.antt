-- What is shown and logged of a trace that is cut is a beginning of what the whole trace shows and logs.
-- What is told is a fold of the trace: one line over a function of one Event with a catch-all, so that std's lemmas on
-- ++ serve. How an event is cut is a list of cases (Cut), and no relation by reason and event.
use Rattle.std.proofs.Common.{◌≡◌, ℕ, List, [], ◌∷◌, ◌++◌, refl, ap, sym, ◌∙◌, append_assoc}
use Rattle.std.specs.Prelude.{Result, Ok, Err}
use Rattle.std.specs.List.{flat_map}
use Rattle.std.proofs.lemmas.List.{append-nil}
use Rattle.std.proofs.lemmas.Grind.{flat_map-append}
use Rattle.cm_io.specs.Contents.{AddsPart, IsPart}
use Rattle.cm_run.specs.declared.stop.Stop.{Stop}
use Rattle.cm_run.specs.Event.{Event, event_log, event_screen}
use Rattle.cm_run.specs.Observation.{Observation, Performs}
use Rattle.cm_run.specs.Cut.{Cut, EndCut, KeyCut, LimitCut, LogCut, MemoryCut, ScreenCut, Traces, event_of, part_of}

none : IsPart [] []
none = record { rest = []; joined = refl }

some : (part rest : List ℕ) → IsPart (part ++ []) (part ++ rest)
some part rest = record { rest = rest; joined = ap (λ bytes. bytes ++ rest) (append-nil part) }

whole : (bytes : List ℕ) → IsPart bytes bytes
whole bytes = record { rest = []; joined = append-nil bytes }

-- of the event that is cut
pub screen_part : (S : Type 0) (cut : Cut) → IsPart (flat_map event_screen (part_of {S = S} cut)) (event_screen (event_of {S = S} cut))
screen_part S (ScreenCut part rest) = some part rest
screen_part S (LogCut part rest) = none
screen_part S (KeyCut key) = none
screen_part S EndCut = none
screen_part S MemoryCut = none
screen_part S LimitCut = none

pub log_part : (S : Type 0) (cut : Cut) → IsPart (flat_map event_log (part_of {S = S} cut)) (event_log (event_of {S = S} cut))
log_part S (ScreenCut part rest) = none
log_part S (LogCut part rest) = some part rest
log_part S (KeyCut key) = none
log_part S EndCut = none
log_part S MemoryCut = none
log_part S LimitCut = none

module _ {S : Type 0} where
  -- of the bytes of events: those before one, and a part of that one
  beginning : (f : Event S → List ℕ) (done rest parts events : List (Event S)) (last : Event S) → done ++ last ∷ rest ≡ events
      → IsPart (flat_map f parts) (f last) → IsPart (flat_map f (done ++ parts)) (flat_map f events)
  beginning f done rest parts events last split part = record {
    rest = part.rest ++ flat_map f rest;
    joined = ap (λ bytes. bytes ++ (part.rest ++ flat_map f rest)) (flat_map-append f done parts)
        ∙ append_assoc (flat_map f done) (flat_map f parts) (part.rest ++ flat_map f rest)
        ∙ ap (λ bytes. flat_map f done ++ bytes) (sym (append_assoc (flat_map f parts) part.rest (flat_map f rest))
        ∙ ap (λ bytes. bytes ++ flat_map f rest) part.joined)
        ∙ sym (flat_map-append f done (last ∷ rest)) ∙ ap (flat_map f) split;
  }

  -- on the screen
  pub traces_screen : (a b : Observation S) (events : List (Event S)) (result : Result Unit Stop) → Traces a b events result
      → AddsPart a.screen b.screen (flat_map event_screen events)
  unfolding Traces Performs
  traces_screen a b events (Ok value) traces =
      record { part = flat_map event_screen events; is_part = whole (flat_map event_screen events); added = traces.screen }
  traces_screen a b events (Err why) traces = record {
    part = flat_map event_screen (traces.done ++ part_of traces.cut);
    is_part = beginning event_screen traces.done traces.rest (part_of traces.cut) events (event_of traces.cut) traces.split (screen_part S traces.cut);
    added = traces.stands.screen;
  }

  -- and in the log
  pub traces_log : (a b : Observation S) (events : List (Event S)) (result : Result Unit Stop) → Traces a b events result
      → AddsPart a.log b.log (flat_map event_log events)
  unfolding Traces Performs
  traces_log a b events (Ok value) traces =
      record { part = flat_map event_log events; is_part = whole (flat_map event_log events); added = traces.log }
  traces_log a b events (Err why) traces = record {
    part = flat_map event_log (traces.done ++ part_of traces.cut);
    is_part = beginning event_log traces.done traces.rest (part_of traces.cut) events (event_of traces.cut) traces.split (log_part S traces.cut);
    added = traces.stands.log;
  }
