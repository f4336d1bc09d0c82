-- A run over the lines of a control file, in its course.
-- The loop has OnWay, which is Ahead and that the ends are equal.
use Rattle.std.proofs.Common.{◌≡◌, ◌<◌, ◌≤◌, ℕ, suc, ◌+◌, ◌-◌, List, [], ◌++◌, refl, sym, ap, ◌∙◌, subst, arith}
use Rattle.std.specs.Prelude.{Ok, Err, slice_get}
use Rattle.cm_run.specs.Cut.{Traces}
use Rattle.cm_run.specs.Event.{moments_after, state_after}
use Rattle.cm_run.specs.Observation.{Observation, Performs}
use Rattle.cm_run.specs.declared.stop.Stop.{Stop}
use Rattle.cm_run.proofs.Joins.{traces_cut}
use Rattle.cm_run.proofs.Course.{Ahead, ahead_all, ahead_first, ahead_more, ahead_trace}
use Rattle.ex_take.specs.ExecState.{ExecState}
use Rattle.ex_batch.specs.Batch.{Batch, Step, batch_from, joined, limit_end, line_step}
use Rattle.ex_batch.specs.Takes.{Runs, Takes}
use Rattle.ex_batch.specs.declared.step.Ended.{Ended}
use Rattle.ex_batch.specs.declared.step.Next.{Next}
use Rattle.ex_batch.specs.declared.step.Next.TheVariants.{Line, Over}

-- some of a run has happened, and the rest is left
pub record OnWay (a b : Observation ExecState) (rest whole : Batch) : Type 0 where
  pub ahead : Ahead a b rest.events whole.events
  pub ends : rest.end ≡ whole.end

-- at first all is left
pub way_first : (a : Observation ExecState) (whole : Batch) → OnWay a a whole whole
way_first a whole = record { ahead = ahead_first a whole.events; ends = refl }

module _ (lines : List (List ℕ)) (limit : ℕ) (a b : Observation ExecState) (whole : Batch) where
  -- so many lines may still be used
  abbrev left_at : ℕ → Observation ExecState → Next → Batch
  left_at used at next = batch_from lines (limit - used) at.moments at.state next

  abbrev step_at : ℕ → Step
  step_at place = line_step lines place b.moments b.state (slice_get lines place)

  split : (used place : ℕ) → used < limit → left_at used b (Line place)
      ≡ joined (step_at place) (batch_from lines (limit - (used + 1)) (moments_after b.moments (step_at place).events)
      (state_after b.state (step_at place).events) (step_at place).next)
  unfolding batch_from
  split used place below =
      let one : limit - used ≡ suc (limit - (used + 1)) = omega arith in
      ap (λ (n : ℕ). batch_from lines n b.moments b.state (Line place)) one

  -- one line more is used
  pub way_more : (c : Observation ExecState) (used place : ℕ) (found next : Next) → used < limit
      → Takes b c (step_at place) (Ok found) → found ≡ next → OnWay a b (left_at used b (Line place)) whole
      → OnWay a c (left_at (used + 1) c next) whole
  unfolding Traces Performs
  way_more c used place found next below takes is way =
      let step : Step = step_at place in
      let rest : Batch = batch_from lines (limit - (used + 1)) (moments_after b.moments step.events) (state_after b.state step.events) step.next in
      let now : OnWay a b (joined step rest) whole = subst (λ (it : Batch). OnWay a b it whole) (split used place below) way in
      let same : rest ≡ left_at (used + 1) c next =
      ap (λ (it : List ℕ). batch_from lines (limit - (used + 1)) it (state_after b.state step.events) step.next) (sym takes.traces.moments)
      ∙ ap (λ (it : ExecState). batch_from lines (limit - (used + 1)) c.moments it step.next) (sym takes.traces.state)
      ∙ ap (λ (it : Next). batch_from lines (limit - (used + 1)) c.moments c.state it) (sym takes.next ∙ is) in
      subst (λ (it : Batch). OnWay a c it whole) same
      (record { ahead = ahead_more a b c step.events rest.events whole.events now.ahead takes.traces; ends = now.ends })

  -- or it is cut short
  pub way_cut : (c : Observation ExecState) (used place : ℕ) (why : Stop) → used < limit
      → Takes b c (step_at place) (Err why) → OnWay a b (left_at used b (Line place)) whole → Runs a c whole (Err why)
  way_cut c used place why below takes way =
      let step : Step = step_at place in
      let rest : Batch = batch_from lines (limit - (used + 1)) (moments_after b.moments step.events) (state_after b.state step.events) step.next in
      let now : OnWay a b (joined step rest) whole = subst (λ (it : Batch). OnWay a b it whole) (split used place below) way in
      record {
        traces = ahead_trace a b c (step.events ++ rest.events) whole.events (Err why) now.ahead
            (traces_cut b c step.events rest.events why takes.traces);
        end = tt;
      }

  -- the run is over
  pub over_runs : (used : ℕ) (end : Ended) → OnWay a b (left_at used b (Over end)) whole → Runs a b whole (Ok end)
  unfolding batch_from
  over_runs used end way = record { traces = ahead_all a b whole.events tt way.ahead; end = way.ends }

  -- as many lines were used as may be
  none_left : (used place : ℕ) → limit ≤ used → left_at used b (Line place) ≡ record { events = []; end = limit_end (slice_get lines place) }
  unfolding batch_from
  none_left used place full =
      let done : limit - used ≡ 0 = omega arith in
      ap (λ (n : ℕ). batch_from lines n b.moments b.state (Line place)) done

  full_way : (used place : ℕ) → limit ≤ used → OnWay a b (left_at used b (Line place)) whole
      → OnWay a b (record { events = []; end = limit_end (slice_get lines place) }) whole
  full_way used place full way = subst (λ (it : Batch). OnWay a b it whole) (none_left used place full) way

  pub full_runs : (used place : ℕ) (end : Ended) → limit ≤ used → end ≡ limit_end (slice_get lines place)
      → OnWay a b (left_at used b (Line place)) whole → Runs a b whole (Ok end)
  full_runs used place end full is way =
      let now = full_way used place full way in
      record { traces = ahead_all a b whole.events tt now.ahead; end = is ∙ now.ends }
