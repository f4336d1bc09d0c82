-- What comes of a command file that is taken without keys.
use Rattle.std.proofs.Common.{◌≡◌, ℕ, List, Bool, true, false, Option, Some, None, Result, Ok, Err, refl, sym, ap, ◌∙◌, subst}
use Rattle.cm_fields.specs.declared.code.Code.{Code}
use Rattle.cm_io.specs.Contents.{Contents}
use Rattle.cm_run.specs.Cause.{ObeyCause}
use Rattle.cm_run.specs.Cut.{Traces}
use Rattle.cm_run.specs.Obey.{Obeys, Stage, left_by, stage}
use Rattle.cm_run.specs.Observation.{Observation, observation}
use Rattle.cm_run.specs.Trace.{effects_trace, file_trace}
use Rattle.cm_run.specs.declared.engine.TheConstants.{FILE_LINES}
use Rattle.cm_run.specs.declared.stop.Stop.{Stop}
use Rattle.cm_run.specs.declared.stop.Stop.TheVariants as stop
use Rattle.cm_run.proofs.Causes.{obey_cause_on}
use Rattle.cm_run.proofs.Effects.{effects_traces}
use Rattle.cm_run.proofs.Joins.{traces_cut, traces_on}
use Rattle.ex_store.specs.declared.place.Place.{Place}
use Rattle.ex_take.specs.Exec.{take_effects, exec_semantics}
use Rattle.ex_take.specs.ExecState.{ExecState}
use Rattle.ex_take.specs.Taking.{Rests, is_at_rest, outcome_of, rested, take_trace, took_at, took_by, took_of}
use Rattle.ex_take.specs.declared.taking.Took.{Took}
use Rattle.ex_take.specs.declared.taking.Took.TheVariants as took

module _ (log : Contents) (keys : List ℕ) (gets : ℕ) (moments : List ℕ) (trials : ℕ) (contents middle : Contents) (at on : ExecState) (file : Place) (moment : ℕ) where
  leaves : Obeys (stage contents at) (stage middle on) (take_effects at file) (Ok tt) → on ≡ left_by at (take_effects at file)
  unfolding Obeys
  leaves obeys = ap (λ (it : Stage ExecState). it.state) obeys

  -- the file is opened, and its lines are taken
  pub take_on : (b : Observation ExecState) (result outcome : Result Unit Stop) → outcome ≡ Ok tt
      → Obeys (stage contents at) (stage middle on) (take_effects at file) outcome
      → Traces (observation middle log keys gets moments trials on) b (file_trace exec_semantics FILE_LINES moment on) result
      → Traces (observation contents log keys gets moments trials at) b (take_trace at file moment) result
  take_on b result outcome is obeys more =
      let done : Obeys (stage contents at) (stage middle on) (take_effects at file) (Ok tt)
      = subst (λ (it : Result Unit Stop). Obeys (stage contents at) (stage middle on) (take_effects at file) it) is obeys in
      traces_on (observation contents log keys gets moments trials at) (observation middle log keys gets moments trials on) b (effects_trace (take_effects at file))
      (file_trace exec_semantics FILE_LINES moment (left_by at (take_effects at file))) tt result
      (subst (λ (it : ExecState). Traces (observation middle log keys gets moments trials on) b (file_trace exec_semantics FILE_LINES moment it) result) (leaves done) more)
      (effects_traces log keys gets moments trials (take_effects at file) contents middle at on (Ok tt) done)

  -- or that is cut short
  pub take_cut : (why : Stop) (outcome : Result Unit Stop) → outcome ≡ Err why → Obeys (stage contents at) (stage middle on) (take_effects at file) outcome
      → Traces (observation contents log keys gets moments trials at) (observation middle log keys gets moments trials on) (take_trace at file moment) (Err why)
  take_cut why outcome is obeys =
      traces_cut (observation contents log keys gets moments trials at) (observation middle log keys gets moments trials on) (effects_trace (take_effects at file))
      (file_trace exec_semantics FILE_LINES moment (left_by at (take_effects at file))) why
      (effects_traces log keys gets moments trials (take_effects at file) contents middle at on (Err why)
      (subst (λ (it : Result Unit Stop). Obeys (stage contents at) (stage middle on) (take_effects at file) it) is obeys))

-- what came of it says how it went
ok_of : (at : ExecState) → outcome_of (took_of at) ≡ Ok tt
ok_of at = by at.interpreter.ended at.stop where
  by : (ended : Bool) (why : Option Code) → outcome_of (took_at ended why) ≡ Ok tt
  by true why = refl
  by false (Some code) = refl
  by false None = refl

pub went_so : (f g : ℕ) (at : ExecState) (outcome : Result Unit Stop) → ObeyCause f g outcome → outcome ≡ outcome_of (took_by at outcome)
unfolding ObeyCause
went_so f g at (Ok value) cause = sym (ok_of at)
went_so f g at (Err stop.Memory) cause = refl
went_so f g at (Err stop.Screen) cause = refl
went_so f g at (Err stop.Log) cause = absurd cause
went_so f g at (Err stop.Keys) cause = absurd cause
went_so f g at (Err stop.Limit) cause = absurd cause

-- where it was not cut, it is told by what it left
pub told_by : (at : ExecState) (outcome : Result Unit Stop) → outcome_of (took_by at outcome) ≡ Ok tt → took_by at outcome ≡ took_of at
told_by at (Ok value) whole = refl
told_by at (Err stop.Memory) whole = absurd (cc)
told_by at (Err stop.Screen) whole = absurd (cc)
told_by at (Err stop.Log) whole = absurd (cc)
told_by at (Err stop.Keys) whole = absurd (cc)
told_by at (Err stop.Limit) whole = absurd (cc)

-- by the counts
pub opens_cause : (f g : ℕ) (at : ExecState) (outcome : Result Unit Stop) (why : Stop) (result : Took) → outcome ≡ Err why → result ≡ took_by at (Err why)
    → ObeyCause f g outcome → ObeyCause f g (outcome_of result)
opens_cause f g at outcome why result is came cause =
    let cut : ObeyCause f g (Err why) = subst (λ (it : Result Unit Stop). ObeyCause f g it) is cause in
    subst (λ (it : Result Unit Stop). ObeyCause f g it) (went_so f g at (Err why) cut ∙ ap outcome_of (sym came)) cut

pub lines_cause : (a b c : ℕ) (at : ExecState) (first outcome : Result Unit Stop) (result : Took) → first ≡ Ok tt → result ≡ took_by at outcome
    → ObeyCause a b first → ObeyCause b c outcome → ObeyCause a c (outcome_of result)
unfolding ObeyCause
lines_cause a b c at first outcome result is came cause more =
    obey_cause_on a b c (outcome_of result) (subst (λ (it : Result Unit Stop). ObeyCause a b it) is cause)
    (subst (λ (it : Result Unit Stop). ObeyCause b c it) (went_so b c at outcome more ∙ ap outcome_of (sym came)) more)

-- after it nothing is left to be done
rest_of : (left : ExecState) → left.interpreter.ended ≡ false → is_at_rest (rested left) ≡ true
rest_of left on = rw on refl

on_where_ok : (ended : Bool) (why : Option Code) → took.Ok ≡ took_at ended why → ended ≡ false
on_where_ok true why is = absurd (cc)
on_where_ok false why is = refl

on_where_stopped : (ended : Bool) (why : Option Code) (code : Code) → took.Stopped code ≡ took_at ended why → ended ≡ false
on_where_stopped true why code is = absurd (cc)
on_where_stopped false why code is = refl

over_where_logout : (ended : Bool) (why : Option Code) → took.Logout ≡ took_at ended why → ended ≡ true
over_where_logout true why is = refl
over_where_logout false (Some code) is = absurd (cc)
over_where_logout false None is = absurd (cc)

pub rests : (result : Took) (left : ExecState) → (outcome_of result ≡ Ok tt → result ≡ took_of left) → Rests result (rested left)
rests took.Ok left contents = rest_of left (on_where_ok left.interpreter.ended left.stop (contents refl))
rests (took.Stopped code) left contents = rest_of left (on_where_stopped left.interpreter.ended left.stop code (contents refl))
rests took.Logout left contents = over_where_logout left.interpreter.ended left.stop (contents refl)
rests took.NoMemory left contents = λ on. rest_of left on
rests took.Failed left contents = λ on. rest_of left on
