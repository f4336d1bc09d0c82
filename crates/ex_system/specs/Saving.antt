-- What a run leaves of the file that the image is written to.
use Rattle.std.specs.Prelude.{◌≡◌, ◌⊎◌, ℕ, List, false, Option, Some, IsTrue}
use Rattle.cm_io.specs.Fault.{Rose, next_count}
use Rattle.cm_io.specs.Host.{KeepsOthers}
use Rattle.cm_io.specs.declared.status.Status.{Status}
use Rattle.cm_io.specs.declared.status.Status.TheVariants as status
use Rattle.ex_image.specs.Image.{HoldsPart, image_text}
use Rattle.ex_store.specs.State.{State}
use Rattle.ex_store.specs.WellFormed.{IsWellFormed}
use Rattle.ex_system.specs.Disk.{Disk}

-- the image is there; where the host failed, a prefix of it or less
abbrev pub Keeps : List ℕ → Option (List ℕ) → Option (List ℕ) → Status → Type 0
Keeps image before now status.HostFault = HoldsPart image before now
Keeps image before now result = now ≡ Some image

-- the status is this one, or HostFault in its place
abbrev pub IsOr : Status → Status → Type 0
IsOr result why = (result ≡ why) ⊎ (result ≡ status.HostFault)

-- a run that is written to its end ends with another status than these
abbrev pub IsEnd : Status → Type 0
IsEnd status.Usage = ⊥
IsEnd status.HostFault = ⊥
IsEnd (status.BadImage at kind) = ⊥
IsEnd status.NoImage = ⊥
IsEnd status.ImageTooLarge = ⊥
IsEnd result = Unit {0}

-- the host's count of faults rose where the status is HostFault, and else stayed
abbrev pub HostCause : ℕ → ℕ → Status → Type 0
HostCause before now status.HostFault = Rose before now
HostCause before now result = now ≡ before

-- [save]
-- the image of a state, which is well formed, is written to this file, as far as the status says: the file is created
-- once and closed, nothing is loaded, and every other file is as before
pub record Saves (before now : Disk) (out : List ℕ) (state : State) (result : Status) : Type 0 where
  pub well : IsWellFormed state
  pub file : IsTrue before.tells → Keeps (image_text state) (before.files out) (now.files out) result
  pub others : IsTrue before.tells → KeepsOthers out before.files now.files
  pub closed : now.is_open ≡ false
  pub created : now.creates ≡ next_count before.creates
  pub loads : now.loads ≡ before.loads
  pub cause : HostCause before.faults now.faults result
