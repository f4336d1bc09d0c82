-- A step that is taken: something happens first, and then the rest of it.
use Rattle.std.proofs.Common.{◌≡◌, ℕ, Bool, true, false, List, [], ◌∷◌, None, Some, refl, sym, ap, ◌∙◌, subst}
use Rattle.std.specs.Prelude.{Result, Ok, Err, if◌then◌else◌}
use Rattle.cm_fields.specs.declared.code.Code.TheVariants.{BadLine}
use Rattle.cm_io.specs.Clock.{later_moments, next_moment}
use Rattle.cm_io.specs.Contents.{Contents}
use Rattle.cm_run.specs.Cut.{Traces}
use Rattle.cm_run.specs.Event.{Event, Moment, state_after}
use Rattle.cm_run.specs.SingleLine.{handed_trace}
use Rattle.cm_run.specs.Obey.{Obeys, stage}
use Rattle.cm_run.specs.Observation.{Observation, Performs, observation}
use Rattle.cm_run.specs.Trace.{effects_trace}
use Rattle.cm_run.specs.declared.stop.Stop.{Stop}
use Rattle.cm_run.proofs.Effects.{effects_traces}
use Rattle.cm_run.proofs.Joins.{traces_both, traces_cut, traces_none}
use Rattle.cm_run.proofs.Outcomes.{moment_taken}
use Rattle.ex_take.specs.Exec.{refuses}
use Rattle.ex_take.specs.ExecState.{ExecState}
use Rattle.ex_batch.specs.Control.{is_parsable}
use Rattle.ex_batch.specs.Batch.{Step, after_event, after_text, nothing_but, text_step, text_trace}
use Rattle.ex_batch.specs.Job.{job_semantics}
use Rattle.ex_batch.specs.Takes.{Takes, step_outcome}
use Rattle.ex_batch.specs.declared.step.Next.{Next}

-- something happens first, and then a step
pub takes_first : (a b c : Observation ExecState) (event : Event ExecState) (step : Step) (result : Result Next Stop)
    → Performs a b (event ∷ []) → Takes b c step result → Takes a c (after_event event step) result
takes_first a b c event step result performs takes = record {
  traces = traces_both a b c (event ∷ []) step.events (step_outcome result) takes.traces performs;
  next = takes.next;
}

-- or that is cut short
pub cut_first : (a b : Observation ExecState) (event : Event ExecState) (step : Step) (why : Stop)
    → Traces a b (event ∷ []) (Err why) → Takes a b (after_event event step) (Err why)
cut_first a b event step why cut = record { traces = traces_cut a b (event ∷ []) step.events why cut; next = tt }

-- nothing happens
pub nothing_taken : (a : Observation ExecState) (next : Next) → Takes a a (nothing_but next) (Ok next)
nothing_taken a next = record { traces = traces_none a tt; next = refl }

-- a line of the EXEC's that can be parsed is handed in
pub text_taken : (before now : Observation ExecState) (moment : ℕ) (at : ExecState) (text line : List ℕ) (result : Result Unit Stop)
    → Some line ≡ (if is_parsable text then Some text else None)
    → Traces before now (handed_trace job_semantics moment at line) result
    → Traces before now (text_trace moment at text) result
text_taken before now moment at text line result found traces = by (is_parsable text) found
  where
    by : (test : Bool) → Some line ≡ (if test then Some text else None)
        → Traces before now (if test then handed_trace job_semantics moment at text else effects_trace (refuses BadLine at ∷ [])) result
    by true is =
        let same : line ≡ text = cc in
        subst (λ (it : List ℕ). Traces before now (handed_trace job_semantics moment at it) result) same traces
    by false is = absurd (cc)

module _ (log : Contents) (keys : List ℕ) (gets : ℕ) where
  -- and each other is refused
  pub text_refused : (moments : List ℕ) (trials moment : ℕ) (screen now : Contents) (at left : ExecState) (text : List ℕ) (result : Result Unit Stop)
      → None ≡ (if is_parsable text then Some text else None)
      → Obeys (stage screen at) (stage now left) (refuses BadLine at ∷ []) result
      → Traces (observation screen log keys gets moments trials at) (observation now log keys gets moments trials left) (text_trace moment at text) result
  text_refused moments trials moment screen now at left text result found obeys = by (is_parsable text) found
    where
      by : (test : Bool) → None ≡ (if test then Some text else None)
          → Traces (observation screen log keys gets moments trials at) (observation now log keys gets moments trials left)
          (if test then handed_trace job_semantics moment at text else effects_trace (refuses BadLine at ∷ [])) result
      by true is = absurd (cc)
      by false is = effects_traces log keys gets moments trials (refuses BadLine at ∷ []) screen now at left result obeys

  module _ (screen now : Contents) (moments later : List ℕ) (trials trials' place moment : ℕ) (at left : ExecState) (text : List ℕ)
      (is : moment ≡ next_moment moments) (goes : later ≡ later_moments moments) where
    abbrev before : Observation ExecState
    before = observation screen log keys gets moments trials at

    abbrev middle : Observation ExecState
    middle = observation screen log keys gets later trials at

    abbrev after : Observation ExecState
    after = observation now log keys gets later trials' left

    abbrev step : Step
    step = text_step place (next_moment moments) at text

    first : Performs before middle (Moment ∷ [])
    first = subst (λ (it : List ℕ). Performs before (observation screen log keys gets it trials at) (Moment ∷ [])) (sym goes)
        (moment_taken job_semantics log keys gets moments true screen trials at)

    at_moment : (result : Result Unit Stop) → Traces middle after (text_trace moment at text) result
        → Traces middle after step.events result
    at_moment result traces = subst (λ (it : ℕ). Traces middle after (text_trace it at text) result) is traces

    -- a line of the EXEC's takes its moment, and acts
    pub text_whole : (next : Next) → Traces middle after (text_trace moment at text) (Ok tt) → next ≡ after_text place left
        → Takes before after (after_event Moment step) (Ok next)
    unfolding Traces Performs
    text_whole next traces goes_on =
        let done : Traces middle after step.events (Ok tt) = at_moment (Ok tt) traces in
        let leads : left ≡ state_after at step.events = done.state in
        takes_first before middle after Moment step (Ok next) first
        (record { traces = done; next = goes_on ∙ ap (λ (it : ExecState). after_text place it) leads })

    -- or is cut short
    pub text_cut : (why : Stop) → Traces middle after (text_trace moment at text) (Err why)
        → Takes before after (after_event Moment step) (Err why)
    text_cut why traces =
        takes_first before middle after Moment step (Err why) first (record { traces = at_moment (Err why) traces; next = tt })
