-- What the end of a run shows, by how it stopped.
use Rattle.std.specs.Prelude.{◌≡◌, ◌⊎◌, ℕ, Bool, true, false, [], ◌++◌, Result, Ok, Err}
use Rattle.cm_text.specs.ScreenBytes.{end_of_line}
use Rattle.cm_io.specs.Contents.{Contents, AddsPart}
use Rattle.cm_io.specs.Fault.{Rose}
use Rattle.cm_run.specs.declared.stop.Stop.{Stop}
use Rattle.cm_run.specs.declared.stop.Stop.TheVariants as stop
use Rattle.ex_system.specs.Messages.{message}
use Rattle.ex_system.specs.Saving.{IsOr}
use Rattle.ex_system.specs.Trying.{Tried}
use Rattle.cm_io.specs.declared.status.Status.{Status}
use Rattle.cm_io.specs.declared.status.Status.TheVariants as status

-- the application has ended the run, or the keys were read to their end: then the line that is open is ended, which may
-- fail
abbrev pub Ends : Bool → Contents → Contents → ℕ → ℕ → Status → Type 0
Ends true before now f g result = IsOr result status.Done × Tried before now f g [] (message result)
Ends false before now f g result =
    (IsOr result status.Done × Tried before now f g end_of_line (message result))
    ⊎ (IsOr result status.WriteFault × AddsPart before now end_of_line × Rose f g)

-- [close]
-- a run that stopped so ends with this status, or with HostFault in its place: the message is shown, on a line of its
-- own; a screen that failed is given no more
unfoldable pub Closes : Result Unit Stop → Bool → Contents → Contents → ℕ → ℕ → Status → Type 0
Closes (Ok value) ended before now f g result = Ends ended before now f g result
Closes (Err stop.Keys) ended before now f g result =
    IsOr result status.ReadFault × Tried before now f g [] (end_of_line ++ message result)
Closes (Err stop.Limit) ended before now f g result =
    IsOr result status.KeyLimit × Tried before now f g [] (end_of_line ++ message result)
Closes (Err stop.Memory) ended before now f g result =
    IsOr result status.NoMemory × Tried before now f g [] (end_of_line ++ message result)
Closes (Err stop.Screen) ended before now f g result =
    IsOr result status.WriteFault × (now ≡ before) × (g ≡ f)
Closes (Err stop.Log) ended before now f g result =
    IsOr result status.WriteFault × Tried before now f g [] (message result)
    × (result ≡ status.WriteFault → g ≡ f)
