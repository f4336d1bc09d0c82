-- When a status may come, by the counts of faults.
use Rattle.std.specs.Prelude.{◌≡◌, ◌⊎◌}
use Rattle.cm_io.specs.Fault.{Rose}
use Rattle.cm_io.specs.declared.status.Status.{Status}
use Rattle.cm_io.specs.declared.status.Status.TheVariants as status
use Rattle.cm_run.specs.Cause.{Counts}

-- the outcome of the run, also where a fault of the host took its place; the screen may have failed later, at
-- the message
abbrev pub EndCause : Counts → Counts → Status → Type 0
EndCause a b status.Done = (b.keys ≡ a.keys) × (b.log ≡ a.log)
EndCause a b status.KeyLimit = (b.keys ≡ a.keys) × (b.log ≡ a.log)
EndCause a b status.NoMemory = (b.keys ≡ a.keys) × (b.log ≡ a.log)
EndCause a b status.ReadFault = Rose a.keys b.keys × (b.log ≡ a.log)
EndCause a b status.WriteFault =
    (b.keys ≡ a.keys) × ((Rose a.screen b.screen × (b.log ≡ a.log)) ⊎ Rose a.log b.log)
EndCause a b result = ⊥

-- the counts of screen, log and keys, by the status; Stopped never comes
abbrev pub StatusCause : Counts → Counts → Status → Type 0
StatusCause a b status.Done = b ≡ a
StatusCause a b status.WriteFault =
    (Rose a.screen b.screen × (b ≡ record a { screen = b.screen }))
    ⊎ (Rose a.log b.log × (b ≡ record a { log = b.log }))
StatusCause a b status.ReadFault = EndCause a b status.ReadFault
StatusCause a b status.HostFault = (why : Status) × EndCause a b why
StatusCause a b status.Stopped = ⊥
StatusCause a b result = (b.keys ≡ a.keys) × (b.log ≡ a.log)
