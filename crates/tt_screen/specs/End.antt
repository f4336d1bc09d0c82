-- How a run of the program ends: what was read and shown, and when each status comes.
use Rattle.std.specs.Prelude.{◌≡◌, ℕ, ◌+◌, ◌-◌, ◌<◌, ◌≤◌, List, [], ◌++◌, length, min, codes}
use Rattle.cm_text.specs.ScreenBytes.{end_of_line}
use Rattle.cm_io.specs.declared.sink.Put.{Put}
use Rattle.cm_io.specs.Contents.{Contents, add, Adds, AddsPart}
use Rattle.cm_io.specs.Fault.{PutCause, Rose, last_count}
use Rattle.tt_screen.specs.declared.program.TheConstants.{KEY_LIMIT}
use Rattle.tt_screen.specs.declared.program.Read.{Read}
use Rattle.tt_screen.specs.declared.program.Read.TheVariants as reads
use Rattle.tt_screen.specs.declared.status.Status.{Status}
use Rattle.tt_screen.specs.declared.status.Status.TheVariants.{Done, ReadFault, WriteFault, KeyLimit}
use Rattle.tt_screen.specs.Grid.{blank_grid, feed}
use Rattle.tt_screen.specs.KeptRows.{Kept, kept_of}
use Rattle.tt_screen.specs.ScreenText.{screen_text}

-- the number that the process ends with
abbrev pub number_of : Status → ℕ
number_of Done = 0
number_of ReadFault = 4
number_of WriteFault = 5
number_of KeyLimit = 7

-- the message of a status, without the end of its line
unfoldable pub message_of : Status → List ℕ
message_of Done = []
message_of ReadFault = codes "?Read fault"
message_of WriteFault = []
message_of KeyLimit = codes "?Too many keys"

-- so many bytes were taken
pub record Takes (before now : List ℕ) (count : ℕ) : Type 0 where
  pub taken : List ℕ
  pub joined : taken ++ now ≡ before
  pub counted : length taken ≡ count

-- the limit was not reached before the source failed
pub record TakesSome (before now : List ℕ) : Type 0 where
  pub count : ℕ
  pub takes : Takes before now count
  pub few : count < KEY_LIMIT

-- the bytes were read to their end before the limit was reached
pub record TakesAll (before now : List ℕ) : Type 0 where
  pub none : now ≡ []
  pub few : length before < KEY_LIMIT

-- what a run reads
abbrev pub Reads : List ℕ → List ℕ → Status → Type 0
Reads before now Done = TakesAll before now
Reads before now WriteFault = TakesAll before now
Reads before now ReadFault = TakesSome before now
Reads before now KeyLimit = Takes before now KEY_LIMIT

-- a count of gets after so many more; it stays at its last value
abbrev pub gets_after : ℕ → ℕ → ℕ
gets_after gets more = min (gets + more) last_count

-- how many gets it asks: one for each byte that it takes, and one more, which finds the end or fails; none after the
-- limit
abbrev pub Asks : List ℕ → List ℕ → ℕ → ℕ → Status → Type 0
Asks before now gets gets' KeyLimit = gets' ≡ gets_after gets (length before - length now)
Asks before now gets gets' result = gets' ≡ gets_after gets (length before - length now + 1)

-- what it shows of the bytes that it reads to their end
abbrev pub PutsRows : List ℕ → Contents → Contents → Status → Type 0
PutsRows bytes before now Done = now ≡ add before (screen_text bytes)
PutsRows bytes before now WriteFault = AddsPart before now (screen_text bytes)
PutsRows bytes before now ReadFault = Unit
PutsRows bytes before now KeyLimit = Unit

-- a text was put, and maybe cut
pub record Tries (before now : Contents) (faults faults' : ℕ) (text : List ℕ) : Type 0 where
  pub outcome : Put
  pub bytes : Adds before now text outcome
  pub cause : PutCause faults faults' outcome

-- and where it does not read to the end, the line of its message
abbrev pub Complains : Contents → Contents → ℕ → ℕ → Status → Type 0
Complains before now faults faults' Done = Unit
Complains before now faults faults' WriteFault = Unit
Complains before now faults faults' ReadFault = Tries before now faults faults' (message_of ReadFault ++ end_of_line)
Complains before now faults faults' KeyLimit = Tries before now faults faults' (message_of KeyLimit ++ end_of_line)

-- the counts of faults of the keys and the screen: that of what failed rose, and each other stayed; but the line of a
-- message may be cut
abbrev pub EndCause : (keys keys' screen screen' : ℕ) → Status → Type 0
EndCause keys keys' screen screen' Done = (keys' ≡ keys) × (screen' ≡ screen)
EndCause keys keys' screen screen' ReadFault = Rose keys keys' × (screen ≤ screen')
EndCause keys keys' screen screen' WriteFault = (keys' ≡ keys) × Rose screen screen'
EndCause keys keys' screen screen' KeyLimit = (keys' ≡ keys) × (screen ≤ screen')

-- what the bytes leave on a screen that was blank, by how the reading ended
abbrev pub Feeds : List ℕ → List ℕ → Kept → Read → Type 0
Feeds before now screen reads.All = TakesAll before now × (screen ≡ kept_of (feed blank_grid before))
Feeds before now screen reads.Failed = TakesSome before now
Feeds before now screen reads.TooMany = Takes before now KEY_LIMIT

abbrev pub ReadCause : ℕ → ℕ → Read → Type 0
ReadCause keys keys' reads.All = keys' ≡ keys
ReadCause keys keys' reads.Failed = Rose keys keys'
ReadCause keys keys' reads.TooMany = keys' ≡ keys

abbrev pub ReadAsks : List ℕ → List ℕ → ℕ → ℕ → Read → Type 0
ReadAsks before now gets gets' reads.TooMany = gets' ≡ gets_after gets (length before - length now)
ReadAsks before now gets gets' result = gets' ≡ gets_after gets (length before - length now + 1)
