-- A line that is handed in.
use Rattle.std.specs.Prelude.{ℕ, List, ◌++◌, Some}
use Rattle.cm_run.specs.declared.engine.TheConstants.{FILE_LINES}
use Rattle.cm_run.specs.Event.{Event, state_after}
use Rattle.cm_run.specs.Semantics.{Semantics}
use Rattle.cm_run.specs.Trace.{file_line_trace, file_trace, line_by}

-- where the next key is for a line, a line that is handed in is taken like one of a command file; and then the lines of
-- the command files that it takes
unfoldable pub handed_trace : {S : Type 0} → Semantics S → ℕ → S → List ℕ → List (Event S)
handed_trace m moment state line =
    let events = file_line_trace m moment state (line_by (m.mode_of state) (Some line)) in
    events ++ file_trace m FILE_LINES moment (state_after state events)
