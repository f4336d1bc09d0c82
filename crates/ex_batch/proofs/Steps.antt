-- The outcome of each kind of line.
-- The controller is a fold over steps (line_step). Takes says that a step was taken or cut. Each arm is one lemma over
-- plain variables, by subst along ap control_view c.in-Plain.is.
use Rattle.std.proofs.Common.{◌≡◌, ℕ, ◌+◌, Bool, true, false, List, [], ◌∷◌, Option, None, Some, sym, subst}
use Rattle.std.specs.Prelude.{Result, Ok, Err}
use Rattle.cm_fields.specs.declared.code.Code.{Code}
use Rattle.cm_fields.specs.declared.code.Code.TheVariants.{BadControl}
use Rattle.cm_io.specs.Clock.{next_moment}
use Rattle.cm_io.specs.Contents.{Contents}
use Rattle.cm_run.specs.Cut.{Traces}
use Rattle.cm_run.specs.Event.{Act, Moment, Screen}
use Rattle.cm_run.specs.Observation.{Observation, Performs, observation}
use Rattle.cm_run.specs.declared.stop.Stop.{Stop}
use Rattle.cm_run.proofs.Outcomes.{acted}
use Rattle.ex_take.specs.ExecState.{ExecState, forgiven}
use Rattle.ex_batch.specs.Control.{Bad, Condition, Control, Exec, Goto, Label, Nothing, Order, Plain, control_of}
use Rattle.ex_batch.specs.Labels.{place_of}
use Rattle.ex_batch.specs.Batch.{Step, after_event, condition_step, control_step, is_met, label_next, line_step, nothing_but, order_step, shown, text_step, unless_refused}
use Rattle.ex_batch.specs.Job.{job_semantics}
use Rattle.ex_batch.specs.Takes.{Takes}
use Rattle.ex_batch.specs.declared.step.Ended.TheVariants.{Finished, Stopped}
use Rattle.ex_batch.specs.declared.step.Next.{Next}
use Rattle.ex_batch.specs.declared.step.Next.TheVariants.{Line, Over}
use Rattle.ex_batch.proofs.StepCuts.{cut_first, nothing_taken, takes_first}

module _ (lines : List (List ℕ)) (place : ℕ) (moments : List ℕ) (at : ExecState) (a : Observation ExecState) where
  -- the run goes on at a label
  pub order_goto : (order : Order) (name : List ℕ) (next : Next) → order ≡ Goto name → next ≡ label_next (place_of name lines)
      → Takes a a (order_step lines place moments at order) (Ok next)
  unfolding order_step
  order_goto order name next is goes =
      subst (λ (it : Order). Takes a a (order_step lines place moments at it) (Ok next)) (sym is)
      (subst (λ (it : Next). Takes a a (nothing_but it) (Ok next)) goes (nothing_taken a next))

  -- a line of the EXEC's is done
  pub order_exec : (b : Observation ExecState) (order : Order) (text : List ℕ) (result : Result Next Stop) → order ≡ Exec text
      → Takes a b (after_event Moment (text_step place (next_moment moments) at text)) result
      → Takes a b (order_step lines place moments at order) result
  unfolding order_step
  order_exec b order text result is takes =
      subst (λ (it : Order). Takes a b (order_step lines place moments at it) result) (sym is) takes

  -- nothing else may be ordered
  pub order_bad : (order : Order) → order ≡ Bad → Takes a a (order_step lines place moments at order) (Ok (Over (Stopped BadControl)))
  unfolding order_step
  order_bad order is =
      subst (λ (it : Order). Takes a a (order_step lines place moments at it) (Ok (Over (Stopped BadControl)))) (sym is)
      (nothing_taken a (Over (Stopped BadControl)))

  -- where the line before was refused the run is stopped
  pub unless_some : (why : Option Code) (code : Code) (step : Step) → why ≡ Some code
      → Takes a a (unless_refused why step) (Ok (Over (Stopped code)))
  unless_some why code step is =
      subst (λ (it : Option Code). Takes a a (unless_refused it step) (Ok (Over (Stopped code)))) (sym is)
      (nothing_taken a (Over (Stopped code)))

  -- and else it goes on
  pub unless_none : (b : Observation ExecState) (why : Option Code) (step : Step) (result : Result Next Stop) → why ≡ None
      → Takes a b step result → Takes a b (unless_refused why step) result
  unless_none b why step result is takes =
      subst (λ (it : Option Code). Takes a b (unless_refused it step) result) (sym is) takes

  -- there is nothing to do
  pub control_nothing : (control : Control) → control ≡ Nothing
      → Takes a a (control_step lines place moments at control) (Ok (Line (place + 1)))
  unfolding control_step
  control_nothing control is =
      subst (λ (it : Control). Takes a a (control_step lines place moments at it) (Ok (Line (place + 1)))) (sym is)
      (nothing_taken a (Line (place + 1)))

  -- an order has a condition
  pub control_condition : (b : Observation ExecState) (control : Control) (error met : Bool) (order : Order) (result : Result Next Stop)
      → control ≡ Condition error order → met ≡ is_met error at.stop
      → Takes a b (condition_step lines place moments at met order) result
      → Takes a b (control_step lines place moments at control) result
  unfolding control_step
  control_condition b control error met order result is met_is takes =
      subst (λ (it : Control). Takes a b (control_step lines place moments at it) result) (sym is)
      (subst (λ (it : Bool). Takes a b (condition_step lines place moments at it order) result) met_is takes)

  -- a label
  label_taken : (why : Option Code) → Takes a a (unless_refused why (nothing_but (Line (place + 1))))
      (Ok (unless_refused why (nothing_but (Line (place + 1)))).next)
  label_taken None = nothing_taken a (Line (place + 1))
  label_taken (Some code) = nothing_taken a (Over (Stopped code))

  pub control_label : (control : Control) (name : List ℕ) (next : Next) → control ≡ Label name
      → next ≡ (unless_refused at.stop (nothing_but (Line (place + 1)))).next
      → Takes a a (control_step lines place moments at control) (Ok next)
  unfolding control_step
  control_label control name next is goes =
      subst (λ (it : Control). Takes a a (control_step lines place moments at it) (Ok next)) (sym is)
      (subst (λ (it : Next). Takes a a (unless_refused at.stop (nothing_but (Line (place + 1)))) (Ok it)) (sym goes) (label_taken at.stop))

  -- an order has none
  pub control_plain : (b : Observation ExecState) (control : Control) (order : Order) (result : Result Next Stop) → control ≡ Plain order
      → Takes a b (unless_refused at.stop (order_step lines place moments at order)) result
      → Takes a b (control_step lines place moments at control) result
  unfolding control_step
  control_plain b control order result is takes =
      subst (λ (it : Control). Takes a b (control_step lines place moments at it) result) (sym is) takes

  -- past the last line the run is over
  pub line_none : (found : Option (List ℕ)) → found ≡ None
      → Takes a a (line_step lines place moments at found) (Ok (Over Finished))
  unfolding line_step
  line_none found none =
      subst (λ (it : Option (List ℕ)). Takes a a (line_step lines place moments at it) (Ok (Over Finished))) (sym none)
      (nothing_taken a (Over Finished))

  -- a line is shown, and then done
  pub line_shown : (b c : Observation ExecState) (found : Option (List ℕ)) (line : List ℕ) (control : Control) (result : Result Next Stop)
      → found ≡ Some line → Traces a b (Screen (shown line) ∷ []) (Ok tt) → control ≡ control_of line
      → Takes b c (control_step lines place moments at control) result
      → Takes a c (line_step lines place moments at found) result
  unfolding line_step Traces
  line_shown b c found line control result is shows same takes =
      subst (λ (it : Option (List ℕ)). Takes a c (line_step lines place moments at it) result) (sym is)
      (takes_first a b c (Screen (shown line)) (control_step lines place moments at (control_of line)) result shows
      (subst (λ (it : Control). Takes b c (control_step lines place moments at it) result) same takes))

  -- or it is not shown whole
  pub line_unshown : (b : Observation ExecState) (found : Option (List ℕ)) (line : List ℕ) (why : Stop) → found ≡ Some line
      → Traces a b (Screen (shown line) ∷ []) (Err why) → Takes a b (line_step lines place moments at found) (Err why)
  unfolding line_step
  line_unshown b found line why is shows =
      subst (λ (it : Option (List ℕ)). Takes a b (line_step lines place moments at it) (Err why)) (sym is)
      (cut_first a b (Screen (shown line)) (control_step lines place moments at (control_of line)) why shows)

-- a refusal is forgiven first
module _ (lines : List (List ℕ)) (place : ℕ) (moments : List ℕ) (at left : ExecState) (screen log : Contents) (keys : List ℕ) (gets trials : ℕ)
    (forgives : left ≡ forgiven at) where
  abbrev before : Observation ExecState
  before = observation screen log keys gets moments trials at

  abbrev middle : Observation ExecState
  middle = observation screen log keys gets moments trials left

  first : Performs before middle (Act (forgiven at) ∷ [])
  first = subst (λ (it : ExecState). Performs before (observation screen log keys gets moments trials it) (Act (forgiven at) ∷ [])) (sym forgives)
      (acted job_semantics log keys gets moments screen trials at (forgiven at))

  -- where the condition was met the order is done
  pub condition_met : (c : Observation ExecState) (met : Bool) (order : Order) (result : Result Next Stop) → met ≡ true
      → Takes middle c (order_step lines place moments left order) result
      → Takes before c (condition_step lines place moments at met order) result
  condition_met c met order result is takes =
      subst (λ (it : Bool). Takes before c (condition_step lines place moments at it order) result) (sym is)
      (takes_first before middle c (Act (forgiven at)) (order_step lines place moments (forgiven at) order) result first
      (subst (λ (it : ExecState). Takes middle c (order_step lines place moments it order) result) forgives takes))

  -- and else nothing is
  pub condition_unmet : (met : Bool) (order : Order) → met ≡ false
      → Takes before middle (condition_step lines place moments at met order) (Ok (Line (place + 1)))
  condition_unmet met order is =
      subst (λ (it : Bool). Takes before middle (condition_step lines place moments at it order) (Ok (Line (place + 1)))) (sym is)
      (takes_first before middle middle (Act (forgiven at)) (nothing_but (Line (place + 1))) (Ok (Line (place + 1))) first
      (nothing_taken middle (Line (place + 1))))
