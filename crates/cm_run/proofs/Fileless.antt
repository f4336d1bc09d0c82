-- Where no line of a command file ever waits.
use Rattle.std.proofs.Common.{◌≡◌, ℕ, zero, suc, [], ◌++◌, refl, ap, ◌∙◌}
use Rattle.std.specs.Prelude.{None}
use Rattle.cm_run.specs.declared.mode.Mode.{Mode}
use Rattle.cm_run.specs.declared.mode.Mode.TheVariants as mode
use Rattle.cm_run.specs.Event.{state_after}
use Rattle.cm_run.specs.Semantics.{Semantics}
use Rattle.cm_run.specs.Trace.{file_line_trace, file_trace, line_by, next_line}

module _ {S : Type 0} (m : Semantics S) (none : (state : S) → m.file_line state ≡ None) where
  no_line : (state : S) (it : Mode) → line_by it (m.file_line state) ≡ None
  no_line state (mode.Line node prompt takes_moment) = none state
  no_line state mode.Raw = refl
  no_line state mode.Ended = refl

  -- none is taken
  pub no_files : (lines moment : ℕ) (state : S) → file_trace m lines moment state ≡ []
  unfolding file_trace
  no_files zero moment state = refl
  no_files (suc lines) moment state =
      let is : file_line_trace m moment state (next_line m state) ≡ [] = ap (λ line. file_line_trace m moment state line) (no_line state (m.mode_of state)) in
      ap (λ events. events ++ file_trace m lines moment (state_after state events)) is ∙ no_files lines moment state
