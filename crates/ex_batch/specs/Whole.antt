-- The whole run of a control file.
use Rattle.std.specs.Prelude.{ℕ, List, [], ◌∷◌, Result, Ok, Err}
use Rattle.cm_text.specs.Lines.{lines}
use Rattle.cm_fields.specs.declared.code.Code.{Code}
use Rattle.cm_run.specs.Event.{Memory}
use Rattle.ex_commands.specs.Commands.Take.{bytes_of}
use Rattle.ex_store.specs.declared.place.Place.{Place}
use Rattle.ex_store.specs.State.{State, catalogue_of}
use Rattle.ex_take.specs.ExecState.{exec_start}
use Rattle.ex_batch.specs.Batch.{Batch, batch_of}
use Rattle.ex_batch.specs.ControlFile.{named_file}
use Rattle.ex_batch.specs.declared.step.Ended.TheVariants.{Stopped}

-- a file that is refused stops it before any line; else memory is asked for, for the lines and the labels, and then the
-- lines are run
abbrev pub batch_by : State → List ℕ → Result Place Code → Batch
batch_by start moments (Err code) = record { events = []; end = Stopped code }
batch_by start moments (Ok place) =
    let batch : Batch = batch_of (lines (bytes_of place start)) moments (exec_start start) in
    record { events = Memory ∷ batch.events; end = batch.end }

unfoldable pub whole_of : State → List ℕ → List ℕ → Batch
whole_of start word moments = batch_by start moments (named_file (catalogue_of start) word)
