-- [start-cause] What a run begins from, and what a status says that comes before its first prompt.
use Rattle.std.proofs.Common.{◌≡◌, ◌≤◌, ℕ, List, length, Option, Some, None, refl, sym, ◌∙◌, inl, arith}
use Rattle.ex_image.specs.Grammar.{FirstBad, IsImage}
use Rattle.cm_io.specs.declared.status.Kind.{Kind}
use Rattle.ex_image.proofs.Endings.{never_bad, one_state}
use Rattle.cm_io.specs.Fault.{Rose}
use Rattle.ex_store.specs.State.{State}
use Rattle.ex_system.specs.Quiet.{IsQuiet}
use Rattle.ex_system.specs.Disk.{Disk}
use Rattle.ex_system.specs.Saving.{HostCause}
use Rattle.ex_system.specs.Start.{Began, FileCause, HasImage, InputCause, IsEarly, IsRun, Starts}
use Rattle.ex_system.specs.declared.input.TheConstants.{IMAGE_LIMIT}
use Rattle.cm_io.specs.declared.status.Status.{Status}
use Rattle.cm_io.specs.declared.status.Status.TheVariants as status

-- a count that is quiet did not rise
pub not_quiet : (before now : ℕ) → Rose before now → IsQuiet before now → ⊥
unfolding Rose
not_quiet before now rose quiet = omega arith

-- a file has an image of one state
pub one_image : (file : Option (List ℕ)) (first second : State) → HasImage file first → HasImage file second → first ≡ second
one_image None first second one other = absurd one
one_image (Some bytes) first second one other = one_state bytes first second one.1 other.1

-- a run begins in one state
pub one_start : (disk : Disk) (input : Option (List ℕ)) (first second : State) → Began disk input first → Starts disk input second
    → first ≡ second
one_start disk None first second began starts = began ∙ sym starts
one_start disk (Some name) first second began starts =
    one_image (disk.files name) first second (began starts.0) starts.1

-- a run from an image is refused in no way that the file gives
pub run_from : (file : Option (List ℕ)) (start : State) (result : Status) → HasImage file start → IsRun result → FileCause file result
run_from None start result has run = absurd has
run_from (Some bytes) start result has run = (
  λ longer. absurd (omega (arith, longer, has.0)),
  λ within. (λ at kind bad. absurd (never_bad bytes start at kind has.1 bad), λ other image. run),
)

-- bytes that first go wrong at one place alone, and are no image
pub goes_wrong : (bytes : List ℕ) (at : ℕ) (kind : Kind) → length bytes ≤ IMAGE_LIMIT
    → ((place : ℕ) → (fault : Kind) → FirstBad bytes place fault → (at ≡ place) × (kind ≡ fault))
    → ((start : State) → IsImage bytes start → ⊥) → FileCause (Some bytes) (status.BadImage at kind)
goes_wrong bytes at kind within one none = (
  λ longer. absurd (omega (arith, longer, within)),
  λ _. (
    λ place fault bad. let same = one place fault bad in inl (cc (same.0, same.1)),
    λ start image. absurd (none start image),
  ),
)

-- where an image is there, and the host did not fail, it is NoMemory
pub from_image : (file : Option (List ℕ)) (start : State) (result : Status) → HasImage file start → FileCause file result → IsRun result
from_image None start result has cause = absurd has
from_image (Some bytes) start result has cause = (cause.1 has.0).1 start has.1

pub early_memory : (disk : Disk) (input : Option (List ℕ)) (start : State) (f g : ℕ) (result : Status) → IsEarly input result
    → InputCause disk input result → Starts disk input start → HostCause f g result → IsQuiet f g → result ≡ status.NoMemory
early_memory disk input start f g status.NoMemory early cause starts host quiet = refl
early_memory disk (Some name) start f g status.HostFault early cause starts host quiet = absurd (not_quiet f g host quiet)
early_memory disk (Some name) start f g status.NoImage early cause starts host quiet =
    absurd (from_image (disk.files name) start status.NoImage starts.1 (cause starts.0))
early_memory disk (Some name) start f g status.ImageTooLarge early cause starts host quiet =
    absurd (from_image (disk.files name) start status.ImageTooLarge starts.1 (cause starts.0))
early_memory disk (Some name) start f g (status.BadImage at kind) early cause starts host quiet =
    absurd (from_image (disk.files name) start (status.BadImage at kind) starts.1 (cause starts.0))
early_memory disk input start f g result early cause starts host quiet = absurd early

-- a run that began in a state is past its first prompt
pub began_cause : (disk : Disk) (input : Option (List ℕ)) (start : State) (result : Status) → Began disk input start → IsRun result
    → InputCause disk input result
began_cause disk None start result began run = run
began_cause disk (Some name) start result began run = λ tells. run_from (disk.files name) start result (began tells) run
