-- The outcome of a key after its echo and its log line.
use Rattle.std.proofs.Common.{◌≡◌, ℕ, List, [], ◌∷◌, ◌++◌, refl, ap, sym, subst, ◌∙◌, arith}
use Rattle.std.specs.Prelude.{Bool, true, false, Result, Ok, Err, Some}
use Rattle.cm_io.specs.Contents.{Contents}
use Rattle.cm_io.proofs.Additions.{add_none}
use Rattle.cm_state.specs.SessionState.{SessionState}
use Rattle.cm_state.specs.declared.turn.Turn.TheVariants as turn
use Rattle.cm_blocks.specs.declared.field.Fault.{Fault}
use Rattle.cm_run.specs.declared.stop.Stop.{Stop}
use Rattle.cm_run.specs.Event.{Act, Moment, state_after}
use Rattle.cm_run.specs.Observation.{Observation, Performs, observation}
use Rattle.cm_run.specs.Cut.{Traces}
use Rattle.cm_run.specs.SingleLine.{handed_trace}
use Rattle.cm_run.specs.Semantics.{Semantics}
use Rattle.cm_run.specs.Obey.{Obeys, stage}
use Rattle.cm_run.specs.Trace.{line_by, line_trace, effects_trace, events_if, file_line_trace, file_trace, moment_at, moments_later, line_start, opening, outcome_trace, run_state, step_of, takes_moment, turn_outcome}
use Rattle.cm_run.specs.declared.engine.TheConstants.{FILE_LINES}
use Rattle.cm_run.proofs.Effects.{effects_traces}
use Rattle.cm_run.proofs.Joins.{performs_none, traces_both, traces_cut, traces_none, traces_on}

module _ {S : Type 0} (m : Semantics S) (log : Contents) (keys : List ℕ) (gets : ℕ) (moments : List ℕ) where
  -- a line that is confirmed acts, and takes the lines of its files
  pub confirmed_on : (screen screen' : Contents) (trials moment : ℕ) (session : SessionState) (state state' : S) (value : Unit) (b : Observation S) (result : Result Unit Stop)
      → Traces (observation screen' log keys gets moments trials state') b (file_trace m FILE_LINES moment state') result
      → Obeys (stage screen state) (stage screen' state') (m.line_effects state session moment) (Ok value)
      → Traces (observation screen log keys gets moments trials state) b (line_trace m state session moment) result
  unfolding line_trace Traces Performs
  confirmed_on screen screen' trials moment session state state' value b result more obeys =
      let acts = effects_trace (m.line_effects state session moment) in
      let first : Traces (observation screen log keys gets moments trials state) (observation screen' log keys gets moments trials state') acts (Ok value)
      = effects_traces log keys gets moments trials (m.line_effects state session moment) screen screen' state state' (Ok value) obeys in
      traces_on (observation screen log keys gets moments trials state) (observation screen' log keys gets moments trials state') b acts
      (file_trace m FILE_LINES moment (state_after state acts)) value result
      (subst (λ s. Traces (observation screen' log keys gets moments trials state') b (file_trace m FILE_LINES moment s) result) first.state more) first

  -- or is cut
  pub confirmed_cut : (screen screen' : Contents) (trials moment : ℕ) (session : SessionState) (state state' : S) (why : Stop)
      → Obeys (stage screen state) (stage screen' state') (m.line_effects state session moment) (Err why)
      → Traces (observation screen log keys gets moments trials state) (observation screen' log keys gets moments trials state') (line_trace m state session moment) (Err why)
  unfolding line_trace
  confirmed_cut screen screen' trials moment session state state' why obeys =
      let acts = effects_trace (m.line_effects state session moment) in
      traces_cut (observation screen log keys gets moments trials state) (observation screen' log keys gets moments trials state') acts
      (file_trace m FILE_LINES moment (state_after state acts)) why
      (effects_traces log keys gets moments trials (m.line_effects state session moment) screen screen' state state' (Err why) obeys)

  -- a line that is handed in acts, and takes the lines of its files
  pub handed_on : (screen screen' : Contents) (trials trials' moment : ℕ) (line : List ℕ) (state state' : S) (value : Unit) (b : Observation S) (result : Result Unit Stop)
      → Traces (observation screen' log keys gets moments trials' state') b (file_trace m FILE_LINES moment state') result
      → Traces (observation screen log keys gets moments trials state) (observation screen' log keys gets moments trials' state')
      (file_line_trace m moment state (line_by (m.mode_of state) (Some line))) (Ok value)
      → Traces (observation screen log keys gets moments trials state) b (handed_trace m moment state line) result
  unfolding handed_trace Traces Performs
  handed_on screen screen' trials trials' moment line state state' value b result more first =
      let events = file_line_trace m moment state (line_by (m.mode_of state) (Some line)) in
      traces_on (observation screen log keys gets moments trials state) (observation screen' log keys gets moments trials' state') b events
      (file_trace m FILE_LINES moment (state_after state events)) value result
      (subst (λ s. Traces (observation screen' log keys gets moments trials' state') b (file_trace m FILE_LINES moment s) result) first.state more) first

  -- or is cut
  pub handed_cut : (moment : ℕ) (line : List ℕ) (a b : Observation S) (state : S) (why : Stop)
      → Traces a b (file_line_trace m moment state (line_by (m.mode_of state) (Some line))) (Err why)
      → Traces a b (handed_trace m moment state line) (Err why)
  unfolding handed_trace
  handed_cut moment line a b state why cut =
      let events = file_line_trace m moment state (line_by (m.mode_of state) (Some line)) in
      traces_cut a b events (file_trace m FILE_LINES moment (state_after state events)) why cut

  -- a moment is taken, or none
  pub moment_taken : (takes : Bool) (screen : Contents) (trials : ℕ) (state : S)
      → Performs (observation screen log keys gets moments trials state) (observation screen log keys gets (moments_later takes moments) trials state) (events_if takes (Moment ∷ []))
  unfolding Performs
  moment_taken true screen trials state = record {
    screen = sym (add_none screen);
    log = sym (add_none log);
    keys = refl;
    gets = refl;
    moments = refl;
    trials = omega arith;
    state = refl;
  }
  moment_taken false screen trials state = performs_none (observation screen log keys gets moments trials state)

  -- the line is done, and the next begins
  pub acts_on : (screen screen' : Contents) (trials trials' moment : ℕ) (session : SessionState) (state state' : S) (moments' : List ℕ) (value : Unit) (b : Observation S) (result : Result Unit Stop)
      → Traces (observation screen' log keys gets moments' trials' state') b (opening (m.mode_of state')) result
      → Traces (observation screen log keys gets moments' trials state) (observation screen' log keys gets moments' trials' state') (line_trace m state session moment) (Ok value)
      → moment ≡ moment_at m state moments → moments' ≡ moments_later (takes_moment (m.mode_of state)) moments
      → Traces (observation screen log keys gets moments trials state) b (outcome_trace m state (turn_outcome m state session (moment_at m state moments) turn.Confirmed)) result
  unfolding outcome_trace turn_outcome Traces Performs
  acts_on screen screen' trials trials' moment session state state' moments' value b result opens acts at later =
      let events = line_trace m state session (moment_at m state moments) in
      let done : Traces (observation screen log keys gets moments' trials state) (observation screen' log keys gets moments' trials' state') events (Ok value)
      = subst (λ n. Traces (observation screen log keys gets moments' trials state) (observation screen' log keys gets moments' trials' state') (line_trace m state session n) (Ok value)) at acts in
      let leads : state' ≡ state_after state events = done.state in
      traces_both (observation screen log keys gets moments trials state) (observation screen log keys gets moments' trials state) b
      (events_if (takes_moment (m.mode_of state)) (Moment ∷ [])) (events ++ opening (m.mode_of (state_after state events))) result
      (traces_on (observation screen log keys gets moments' trials state) (observation screen' log keys gets moments' trials' state') b events (opening (m.mode_of (state_after state events))) value result
      (subst (λ s. Traces (observation screen' log keys gets moments' trials' state') b (opening (m.mode_of s)) result) leads opens) done)
      (subst (λ xs. Performs (observation screen log keys gets moments trials state) (observation screen log keys gets xs trials state) (events_if (takes_moment (m.mode_of state)) (Moment ∷ [])))
      (sym later) (moment_taken (takes_moment (m.mode_of state)) screen trials state))

  -- where that leads
  pub acts_next : (screen screen' : Contents) (trials trials' moment : ℕ) (session session' : SessionState) (state state' : S) (moments' : List ℕ) (value : Unit)
      → Traces (observation screen log keys gets moments' trials state) (observation screen' log keys gets moments' trials' state') (line_trace m state session moment) (Ok value)
      → moment ≡ moment_at m state moments → moments' ≡ moments_later (takes_moment (m.mode_of state)) moments
      → session' ≡ line_start (m.mode_of state') session
      → run_state session' state' moments' ≡ step_of m session state moments (turn_outcome m state session (moment_at m state moments) turn.Confirmed)
  unfolding step_of turn_outcome Traces Performs
  acts_next screen screen' trials trials' moment session session' state state' moments' value acts at later opens =
      let events = line_trace m state session (moment_at m state moments) in
      let leads : state' ≡ state_after state events
      = (subst (λ n. Traces (observation screen log keys gets moments' trials state) (observation screen' log keys gets moments' trials' state') (line_trace m state session n) (Ok value)) at acts).state in
      subst (λ s. run_state session' state' moments' ≡ run_state (line_start (m.mode_of s) session) s (moments_later (takes_moment (m.mode_of state)) moments)) leads
      (ap (λ xs. run_state session' state' xs) later ∙ ap (λ it. run_state it state' (moments_later (takes_moment (m.mode_of state)) moments)) opens)

  -- or it is cut
  pub acts_cut : (screen : Contents) (trials moment : ℕ) (session : SessionState) (state : S) (moments' : List ℕ) (b : Observation S) (why : Stop)
      → Traces (observation screen log keys gets moments' trials state) b (line_trace m state session moment) (Err why)
      → moment ≡ moment_at m state moments → moments' ≡ moments_later (takes_moment (m.mode_of state)) moments
      → Traces (observation screen log keys gets moments trials state) b (outcome_trace m state (turn_outcome m state session (moment_at m state moments) turn.Confirmed)) (Err why)
  unfolding outcome_trace turn_outcome
  acts_cut screen trials moment session state moments' b why acts at later =
      let events = line_trace m state session (moment_at m state moments) in
      traces_both (observation screen log keys gets moments trials state) (observation screen log keys gets moments' trials state) b
      (events_if (takes_moment (m.mode_of state)) (Moment ∷ [])) (events ++ opening (m.mode_of (state_after state events))) (Err why)
      (traces_cut (observation screen log keys gets moments' trials state) b events (opening (m.mode_of (state_after state events))) why
      (subst (λ n. Traces (observation screen log keys gets moments' trials state) b (line_trace m state session n) (Err why)) at acts))
      (subst (λ xs. Performs (observation screen log keys gets moments trials state) (observation screen log keys gets xs trials state) (events_if (takes_moment (m.mode_of state)) (Moment ∷ [])))
      (sym later) (moment_taken (takes_moment (m.mode_of state)) screen trials state))

  -- an act that shows nothing
  pub acted : (screen : Contents) (trials : ℕ) (state left : S) → Performs (observation screen log keys gets moments trials state) (observation screen log keys gets moments trials left) (Act left ∷ [])
  unfolding Performs
  acted screen trials state left = record {
    screen = sym (add_none screen);
    log = sym (add_none log);
    keys = refl;
    gets = refl;
    moments = refl;
    trials = omega arith;
    state = refl;
  }

  -- a line is given up, and the next begins
  pub abandons : (screen : Contents) (trials moment : ℕ) (session : SessionState) (state : S) (b : Observation S) (result : Result Unit Stop)
      → Traces (observation screen log keys gets moments trials (m.abandonment state)) b (opening (m.mode_of (m.abandonment state))) result
      → Traces (observation screen log keys gets moments trials state) b (outcome_trace m state (turn_outcome m state session moment turn.Abandoned)) result
  unfolding outcome_trace turn_outcome
  abandons screen trials moment session state b result opens =
      traces_both (observation screen log keys gets moments trials state) (observation screen log keys gets moments trials (m.abandonment state)) b
      (Act (m.abandonment state) ∷ []) (opening (m.mode_of (m.abandonment state))) result opens (acted screen trials state (m.abandonment state))

  -- a line is refused, and the next begins
  pub refuses : (screen : Contents) (trials moment : ℕ) (session : SessionState) (state : S) (fault : Fault) (b : Observation S) (result : Result Unit Stop)
      → Traces (observation screen log keys gets moments trials (m.refusal state)) b (opening (m.mode_of (m.refusal state))) result
      → Traces (observation screen log keys gets moments trials state) b (outcome_trace m state (turn_outcome m state session moment (turn.Refused fault))) result
  unfolding outcome_trace turn_outcome
  refuses screen trials moment session state fault b result opens =
      traces_both (observation screen log keys gets moments trials state) (observation screen log keys gets moments trials (m.refusal state)) b
      (Act (m.refusal state) ∷ []) (opening (m.mode_of (m.refusal state))) result opens (acted screen trials state (m.refusal state))

  -- a line goes on
  pub edits : (screen : Contents) (trials moment : ℕ) (session : SessionState) (state : S) (value : Unit)
      → Traces (observation screen log keys gets moments trials state) (observation screen log keys gets moments trials state) (outcome_trace m state (turn_outcome m state session moment turn.Edited)) (Ok value)
  unfolding outcome_trace turn_outcome
  edits screen trials moment session state value = traces_none (observation screen log keys gets moments trials state) value

  pub fails : (screen : Contents) (trials moment : ℕ) (session : SessionState) (state : S) (value : Unit)
      → Traces (observation screen log keys gets moments trials state) (observation screen log keys gets moments trials state) (outcome_trace m state (turn_outcome m state session moment turn.Failed)) (Ok value)
  unfolding outcome_trace turn_outcome
  fails screen trials moment session state value = traces_none (observation screen log keys gets moments trials state) value

  -- where these lead
  pub edits_next : (session : SessionState) (state : S) (moment : ℕ) → run_state session state moments ≡ step_of m session state moments (turn_outcome m state session moment turn.Edited)
  unfolding step_of turn_outcome
  edits_next session state moment = refl

  pub fails_next : (session : SessionState) (state : S) (moment : ℕ) → run_state session state moments ≡ step_of m session state moments (turn_outcome m state session moment turn.Failed)
  unfolding step_of turn_outcome
  fails_next session state moment = refl

  pub refuses_next : (session to : SessionState) (state left : S) (moment : ℕ) (fault : Fault) → left ≡ m.refusal state → to ≡ line_start (m.mode_of left) session
      → run_state to left moments ≡ step_of m session state moments (turn_outcome m state session moment (turn.Refused fault))
  unfolding step_of turn_outcome
  refuses_next session to state left moment fault gives opens =
      ap (λ it. run_state it left moments) opens ∙ ap (λ s. run_state (line_start (m.mode_of s) session) s moments) gives

  pub abandons_next : (session to : SessionState) (state left : S) (moment : ℕ) → left ≡ m.abandonment state → to ≡ line_start (m.mode_of left) session
      → run_state to left moments ≡ step_of m session state moments (turn_outcome m state session moment turn.Abandoned)
  unfolding step_of turn_outcome
  abandons_next session to state left moment gives opens =
      ap (λ it. run_state it left moments) opens ∙ ap (λ s. run_state (line_start (m.mode_of s) session) s moments) gives
