-- What a run begins from: a new store, or the image in a file.
use Rattle.std.specs.Prelude.{◌≡◌, ◌⊎◌, ◌<◌, ◌≤◌, ℕ, List, length, Option, Some, None, IsTrue}
use Rattle.cm_io.specs.Fault.{next_count}
use Rattle.ex_image.specs.Grammar.{FirstBad, IsImage}
use Rattle.cm_io.specs.declared.status.Kind.{Kind}
use Rattle.ex_store.specs.State.{State, first_state}
use Rattle.ex_system.specs.Disk.{Disk}
use Rattle.ex_system.specs.declared.input.TheConstants.{IMAGE_LIMIT}
use Rattle.cm_io.specs.declared.status.Status.{Status}
use Rattle.cm_io.specs.declared.status.Status.TheVariants as status

-- a file has the image of this state
abbrev pub HasImage : Option (List ℕ) → State → Type 0
HasImage None start = ⊥
HasImage (Some bytes) start = (length bytes ≤ IMAGE_LIMIT) × IsImage bytes start

-- a run begins in this state: the first one, or that whose image the file has, which the host tells
abbrev pub Starts : Disk → Option (List ℕ) → State → Type 0
Starts disk None start = start ≡ first_state
Starts disk (Some name) start = IsTrue disk.tells × HasImage (disk.files name) start

-- it began in this state, as far as the host tells
abbrev pub Began : Disk → Option (List ℕ) → State → Type 0
Began disk None start = start ≡ first_state
Began disk (Some name) start = IsTrue disk.tells → HasImage (disk.files name) start

-- the statuses that may come before the first prompt, where the run is to begin so
abbrev pub IsEarly : Option (List ℕ) → Status → Type 0
IsEarly input status.NoMemory = Unit {0}
IsEarly (Some name) status.HostFault = Unit {0}
IsEarly (Some name) status.NoImage = Unit {0}
IsEarly (Some name) status.ImageTooLarge = Unit {0}
IsEarly (Some name) (status.BadImage at kind) = Unit {0}
IsEarly input result = ⊥

-- the outcome of a run past its first prompt
abbrev pub IsRun : Status → Type 0
IsRun status.Usage = ⊥
IsRun (status.BadImage at kind) = ⊥
IsRun status.NoImage = ⊥
IsRun status.ImageTooLarge = ⊥
IsRun result = Unit {0}

-- this status, but where the host fails or memory runs out
abbrev pub IsUnless : Status → Status → Type 0
IsUnless result why = (result ≡ why) ⊎ (result ≡ status.HostFault) ⊎ (result ≡ status.NoMemory)

-- a run that is to begin from a file that has this: without it the status is NoImage, where it is too long
-- ImageTooLarge, where its bytes first go wrong BadImage; and an image is refused in none of these ways
abbrev pub FileCause : Option (List ℕ) → Status → Type 0
FileCause None result = IsUnless result status.NoImage
FileCause (Some bytes) result =
    (IMAGE_LIMIT < length bytes → IsUnless result status.ImageTooLarge)
    × (length bytes ≤ IMAGE_LIMIT
    → ((at : ℕ) → (kind : Kind) → FirstBad bytes at kind → IsUnless result (status.BadImage at kind))
    × ((start : State) → IsImage bytes start → IsRun result))

-- [start-cause]
abbrev pub InputCause : Disk → Option (List ℕ) → Status → Type 0
InputCause disk None result = IsRun result
InputCause disk (Some name) result = IsTrue disk.tells → FileCause (disk.files name) result

-- a file that is named was loaded once, and nothing else is touched
abbrev pub loads_after : Option (List ℕ) → ℕ → ℕ
loads_after None loads = loads
loads_after (Some name) loads = next_count loads

pub record IsLoaded (input : Option (List ℕ)) (before now : Disk) : Type 0 where
  pub tells : now.tells ≡ before.tells
  pub files : IsTrue before.tells → (name : List ℕ) → now.files name ≡ before.files name
  pub is_open : now.is_open ≡ before.is_open
  pub loads : now.loads ≡ loads_after input before.loads
  pub creates : now.creates ≡ before.creates
