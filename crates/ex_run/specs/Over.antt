-- An application over a store.
use Rattle.std.specs.Prelude.{ℕ, Bool, List, [], ◌++◌, if◌then◌else◌}
use Rattle.cm_text.specs.ScreenBytes.{end_of_line}
use Rattle.cm_run.specs.Event.{Event, screen_bytes, state_after}
use Rattle.cm_run.specs.Semantics.{Semantics}
use Rattle.cm_run.specs.Trace.{is_ended, run_trace}
use Rattle.ex_store.specs.State.{State}

-- what it means, the state in which a run over a store begins, and the state of its store
pub record Over (S : Type 0) : Type 0 where
  pub means : Semantics S
  pub begins : State → S
  pub store_of : S → State

abbrev pub over : {S : Type 0} → Semantics S → (State → S) → (S → State) → Over S
over means begins store_of = record { means = means; begins = begins; store_of = store_of }

-- the line that is open is ended where the application has not ended the run
abbrev pub closing : Bool → List ℕ
closing ended = if ended then [] else end_of_line

module _ {S : Type 0} where
  -- it has ended the run
  abbrev pub has_ended : Over S → S → Bool
  has_ended o left = is_ended (o.means.mode_of left)

  -- what happens in the run that begins over a store in this state, at these moments and keys
  abbrev pub trace_of : Over S → Bool → State → List ℕ → List ℕ → List (Event S)
  trace_of o logging start moments keys = run_trace o.means logging (o.begins start) moments keys

  -- where it leads
  abbrev pub left_of : Over S → Bool → State → List ℕ → List ℕ → S
  left_of o logging start moments keys = state_after (o.begins start) (trace_of o logging start moments keys)

  -- all that a whole run shows
  abbrev pub shown_of : Over S → Bool → State → List ℕ → List ℕ → List ℕ
  shown_of o logging start moments keys =
      screen_bytes (trace_of o logging start moments keys)
      ++ closing (has_ended o (left_of o logging start moments keys))
