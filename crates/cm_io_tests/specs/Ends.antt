-- How a run ends that stopped at a fault, and what it shows last.
use Rattle.std.specs.Prelude.{Bool, true, false, ℕ, List, [], codes, if◌then◌else◌}
use Rattle.cm_io.specs.declared.status.Status.{Status}
use Rattle.cm_io.specs.declared.status.Status.TheVariants.{Done, HostFault, ReadFault, WriteFault}
use Rattle.cm_io_tests.specs.declared.trace.Stop.{Stop}
use Rattle.cm_io_tests.specs.declared.trace.Stop.TheVariants.{End, Keys, Screen, Log}

-- the status where the image was saved
abbrev pub status_at : Stop → Status
status_at End = Done
status_at Keys = ReadFault
status_at Screen = WriteFault
status_at Log = WriteFault

-- an image that was lost is worse
unfoldable pub status_of : Stop → Bool → Status
status_of stop loses = if loses then HostFault else status_at stop

-- what is shown last, as a text of a trace: on a line of its own after keys that failed, nothing on a screen that
-- failed
abbrev pub closing : Stop → Bool → List ℕ
closing Keys false = codes "~?Read fault~"
closing Keys true = codes "~?Host fault~"
closing Screen loses = []
closing End loses = if loses then codes "?Host fault~" else []
closing Log loses = if loses then codes "?Host fault~" else []
