-- Lines of command files, one after the other.
use Rattle.std.proofs.Common.{◌≡◌, ◌<◌, ◌≤◌, ℕ, zero, suc, ◌+◌, ◌-◌, List, [], ◌++◌, refl, ap, sym, subst, ◌∙◌, arith}
use Rattle.std.specs.Prelude.{false, Option, None, Some, Ok, Err, is_some}
use Rattle.cm_run.specs.declared.stop.Stop.{Stop}
use Rattle.cm_run.specs.Event.{Event, state_after}
use Rattle.cm_run.specs.Observation.{Observation, Performs}
use Rattle.cm_run.specs.Cut.{Traces}
use Rattle.cm_run.specs.Semantics.{Semantics}
use Rattle.cm_run.specs.Trace.{file_trace, file_line_trace, next_line}
use Rattle.cm_run.proofs.Joins.{traces_cut}
use Rattle.cm_run.proofs.Course.{Ahead, ahead_all, ahead_more, ahead_trace}

module _ {S : Type 0} (m : Semantics S) (moment : ℕ) where
  -- none waits, and nothing happens
  none_waits : (lines : ℕ) (state : S) → next_line m state ≡ None → file_trace m lines moment state ≡ []
  unfolding file_trace
  none_waits zero state none = refl
  none_waits (suc lines) state none =
      let no_line : file_line_trace m moment state (next_line m state) ≡ [] = ap (file_line_trace m moment state) none in
      ap (λ events. events ++ file_trace m lines moment (state_after state events)) no_line ∙ none_waits lines state none

  is_none : (line : Option (List ℕ)) → is_some line ≡ false → line ≡ None
  is_none None test = refl
  is_none (Some line) test = absurd (cc)

  -- so all is done
  pub files_over : (a b : Observation S) (lines : ℕ) (state : S) (whole : List (Event S)) (value : Unit)
      → Ahead a b (file_trace m lines moment state) whole → is_some (next_line m state) ≡ false → Traces a b whole (Ok value)
  files_over a b lines state whole value ahead test =
      ahead_all a b whole value
      (subst (λ events. Ahead a b events whole) (none_waits lines state (is_none (next_line m state) test)) ahead)

  -- as many are taken as may be
  pub files_full : (a b : Observation S) (limit taken : ℕ) (state : S) (whole : List (Event S)) (value : Unit) → limit ≤ taken
      → Ahead a b (file_trace m (limit - taken) moment state) whole → Traces a b whole (Ok value)
  unfolding file_trace
  files_full a b limit taken state whole value full ahead =
      let done : limit - taken ≡ 0 = omega arith in
      ahead_all a b whole value (subst (λ n. Ahead a b (file_trace m n moment state) whole) done ahead)

  split_line : (limit taken : ℕ) (state : S) → taken < limit
      → file_trace m (limit - taken) moment state ≡ file_line_trace m moment state (next_line m state)
      ++ file_trace m (limit - (taken + 1)) moment (state_after state (file_line_trace m moment state (next_line m state)))
  unfolding file_trace
  split_line limit taken state below =
      let one : limit - taken ≡ suc (limit - (taken + 1)) = omega arith in
      ap (λ n. file_trace m n moment state) one

  -- one more is done
  pub files_more : (a b c : Observation S) (limit taken : ℕ) (state left : S) (whole : List (Event S)) (value : Unit) → taken < limit
      → Ahead a b (file_trace m (limit - taken) moment state) whole
      → Traces b c (file_line_trace m moment state (next_line m state)) (Ok value) → b.state ≡ state → c.state ≡ left
      → Ahead a c (file_trace m (limit - (taken + 1)) moment left) whole
  unfolding Traces Performs
  files_more a b c limit taken state left whole value below ahead traces from to =
      let events = file_line_trace m moment state (next_line m state) in
      let leads : state_after state events ≡ left = ap (λ s. state_after s events) (sym from) ∙ sym traces.state ∙ to in
      subst (λ s. Ahead a c (file_trace m (limit - (taken + 1)) moment s) whole) leads
      (ahead_more a b c events (file_trace m (limit - (taken + 1)) moment (state_after state events)) whole
      (subst (λ rest. Ahead a b rest whole) (split_line limit taken state below) ahead) traces)

  -- or cut
  pub files_cut : (a b c : Observation S) (limit taken : ℕ) (state : S) (whole : List (Event S)) (why : Stop) → taken < limit
      → Ahead a b (file_trace m (limit - taken) moment state) whole
      → Traces b c (file_line_trace m moment state (next_line m state)) (Err why) → Traces a c whole (Err why)
  files_cut a b c limit taken state whole why below ahead traces =
      let events = file_line_trace m moment state (next_line m state) in
      let more = file_trace m (limit - (taken + 1)) moment (state_after state events) in
      ahead_trace a b c (events ++ more) whole (Err why)
      (subst (λ rest. Ahead a b rest whole) (split_line limit taken state below) ahead)
      (traces_cut b c events more why traces)
