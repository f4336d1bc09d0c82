-- The number of each status.
use Rattle.std.specs.Prelude.{ℕ}
use Rattle.cm_io.specs.declared.status.Status.{Status}
use Rattle.cm_io.specs.declared.status.Status.TheVariants as status

-- the number that the process ends with
abbrev pub number_of : Status → ℕ
number_of status.Done = 0
number_of status.Usage = 1
number_of (status.BadImage at kind) = 2
number_of status.HostFault = 3
number_of status.ReadFault = 4
number_of status.WriteFault = 5
number_of status.NoMemory = 6
number_of status.KeyLimit = 7
number_of status.NoImage = 8
number_of status.ImageTooLarge = 9
number_of status.Stopped = 10
