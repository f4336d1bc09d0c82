-- What a key does, part by part, is its trace.
use Rattle.std.proofs.Common.{◌≡◌, ℕ, ◌+◌, Bool, true, false, List, [], ◌∷◌, ◌++◌, refl, ap, sym, subst, arith}
use Rattle.std.specs.Prelude.{Result, Err}
use Rattle.std.proofs.lemmas.List.{append-nil}
use Rattle.cm_io.specs.Contents.{Contents, AddsPart, add}
use Rattle.cm_io.proofs.Additions.{add_none}
use Rattle.cm_run.specs.declared.stop.Stop.{Stop}
use Rattle.cm_run.specs.declared.stop.Stop.TheVariants as stop
use Rattle.cm_run.specs.Event.{Trials, Screen, Log}
use Rattle.cm_run.specs.Observation.{Observation, Performs, observation}
use Rattle.cm_run.specs.Cut.{LogCut, ScreenCut, Traces}
use Rattle.cm_run.specs.Semantics.{Semantics}
use Rattle.cm_run.specs.Trace.{Keystroke, events_if, keystroke_trace, outcome_trace}
use Rattle.cm_run.proofs.Joins.{performs_both, performs_none, traces_both}

-- the log after a line that is put where there is a log
abbrev pub logged_if : Bool → Contents → List ℕ → Contents
logged_if true log line = add log line
logged_if false log line = log

module _ {S : Type 0} (m : Semantics S) (state : S) (s : Keystroke S) where
  -- the trials are counted and the echo is shown
  echoed : (screen log : Contents) (keys : List ℕ) (gets : ℕ) (moments : List ℕ) (trials : ℕ) (at : S) (part : List ℕ)
      → Performs (observation screen log keys gets moments trials at) (observation (add screen part) log keys gets moments (trials + s.cost) at)
      (Trials s.cost ∷ Screen part ∷ [])
  unfolding Performs
  echoed screen log keys gets moments trials at part = record {
    screen = ap (λ shown. add screen shown) (sym (append-nil part));
    log = sym (add_none log);
    keys = refl;
    gets = refl;
    moments = refl;
    trials = omega arith;
    state = refl;
  }

  -- a line of the log
  one_log : (screen log : Contents) (keys : List ℕ) (gets : ℕ) (moments : List ℕ) (trials : ℕ) (at : S) (part : List ℕ)
      → Performs (observation screen log keys gets moments trials at) (observation screen (add log part) keys gets moments trials at) (Log part ∷ [])
  unfolding Performs
  one_log screen log keys gets moments trials at part = record {
    screen = sym (add_none screen);
    log = ap (λ put. add log put) (sym (append-nil part));
    keys = refl;
    gets = refl;
    moments = refl;
    trials = omega arith;
    state = refl;
  }

  logs : (logging : Bool) (screen log : Contents) (keys : List ℕ) (gets : ℕ) (moments : List ℕ) (trials : ℕ) (at : S)
      → Performs (observation screen log keys gets moments trials at) (observation screen (logged_if logging log s.log) keys gets moments trials at)
      (events_if logging (Log s.log ∷ []))
  logs true screen log keys gets moments trials at = one_log screen log keys gets moments trials at s.log
  logs false screen log keys gets moments trials at = performs_none (observation screen log keys gets moments trials at)

  -- the echo and the log line are whole, and then comes the outcome of the key
  pub keystroke_on : (logging : Bool) (screen log screen' log' : Contents) (keys : List ℕ) (gets : ℕ) (moments : List ℕ) (trials trials' : ℕ) (b : Observation S) (result : Result Unit Stop)
      → Traces (observation screen' log' keys gets moments trials' state) b (outcome_trace m state s.outcome) result
      → screen' ≡ add screen s.echo → log' ≡ logged_if logging log s.log → trials' ≡ trials + s.cost
      → Traces (observation screen log keys gets moments trials state) b (keystroke_trace m logging state s) result
  unfolding keystroke_trace
  keystroke_on logging screen log screen' log' keys gets moments trials trials' b result traces shown put counted =
      let first = observation screen log keys gets moments trials state in
      let middle = observation (add screen s.echo) log keys gets moments (trials + s.cost) state in
      let ready = observation (add screen s.echo) (logged_if logging log s.log) keys gets moments (trials + s.cost) state in
      let same : observation screen' log' keys gets moments trials' state ≡ ready = cc in
      traces_both first middle b (Trials s.cost ∷ Screen s.echo ∷ []) (events_if logging (Log s.log ∷ []) ++ outcome_trace m state s.outcome) result
      (traces_both middle ready b (events_if logging (Log s.log ∷ [])) (outcome_trace m state s.outcome) result
      (subst (λ at. Traces at b (outcome_trace m state s.outcome) result) same traces)
      (logs logging (add screen s.echo) log keys gets moments (trials + s.cost) state))
      (echoed screen log keys gets moments trials state s.echo)

  -- the echo is cut
  pub keystroke_screen_cut : (logging : Bool) (screen now log : Contents) (keys : List ℕ) (gets : ℕ) (moments : List ℕ) (trials trials' : ℕ)
      → AddsPart screen now s.echo → trials' ≡ trials + s.cost
      → Traces (observation screen log keys gets moments trials state) (observation now log keys gets moments trials' state) (keystroke_trace m logging state s) (Err stop.Screen)
  unfolding keystroke_trace Traces
  keystroke_screen_cut logging screen now log keys gets moments trials trials' adds counted = record {
    done = Trials s.cost ∷ [];
    cut = ScreenCut adds.part adds.is_part.rest;
    rest = events_if logging (Log s.log ∷ []) ++ outcome_trace m state s.outcome;
    cause = refl;
    split = ap (λ bytes. Trials s.cost ∷ Screen bytes ∷ (events_if logging (Log s.log ∷ []) ++ outcome_trace m state s.outcome)) adds.is_part.joined;
    stands = subst (λ contents. Performs (observation screen log keys gets moments trials state) (observation contents log keys gets moments trials' state) (Trials s.cost ∷ Screen adds.part ∷ []))
        (sym adds.added)
        (subst (λ n. Performs (observation screen log keys gets moments trials state) (observation (add screen adds.part) log keys gets moments n state) (Trials s.cost ∷ Screen adds.part ∷ []))
        (sym counted) (echoed screen log keys gets moments trials state adds.part));
  }

  -- the line of the log is cut
  pub keystroke_log_cut : (screen screen' log now : Contents) (keys : List ℕ) (gets : ℕ) (moments : List ℕ) (trials trials' : ℕ)
      → AddsPart log now s.log → screen' ≡ add screen s.echo → trials' ≡ trials + s.cost
      → Traces (observation screen log keys gets moments trials state) (observation screen' now keys gets moments trials' state) (keystroke_trace m true state s) (Err stop.Log)
  unfolding keystroke_trace Traces
  keystroke_log_cut screen screen' log now keys gets moments trials trials' adds shown counted =
      let end : observation screen' now keys gets moments trials' state ≡ observation (add screen s.echo) (add log adds.part) keys gets moments (trials + s.cost) state = cc in
      record {
        done = Trials s.cost ∷ Screen s.echo ∷ [];
        cut = LogCut adds.part adds.is_part.rest;
        rest = outcome_trace m state s.outcome;
        cause = refl;
        split = ap (λ bytes. Trials s.cost ∷ Screen s.echo ∷ Log bytes ∷ outcome_trace m state s.outcome) adds.is_part.joined;
        stands = subst (λ at. Performs (observation screen log keys gets moments trials state) at (Trials s.cost ∷ Screen s.echo ∷ Log adds.part ∷ [])) (sym end)
            (performs_both (observation screen log keys gets moments trials state) (observation (add screen s.echo) log keys gets moments (trials + s.cost) state)
            (observation (add screen s.echo) (add log adds.part) keys gets moments (trials + s.cost) state)
            (Trials s.cost ∷ Screen s.echo ∷ []) (Log adds.part ∷ [])
            (one_log (add screen s.echo) log keys gets moments (trials + s.cost) state adds.part)
            (echoed screen log keys gets moments trials state s.echo));
      }
