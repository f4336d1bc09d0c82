-- What appending bytes to the open file of a host leaves.
use Rattle.std.specs.Prelude.{◌≡◌, ◌≤◌, ℕ, Bool, List, IsTrue}
use Rattle.cm_io.specs.Fault.{PutCause}
use Rattle.cm_io.specs.Host.{Files, KeepsOthers, Writes}
use Rattle.cm_io.specs.declared.sink.Put.{Put}

-- what a host tells at one moment
pub record Outside : Type 0 where
  pub is_open : Bool
  pub target : List ℕ
  pub files : Files
  pub loads : ℕ
  pub creates : ℕ
  pub faults : ℕ

-- the file stays open, the bytes are appended to it, or a prefix of them where that fails, all other files are as
-- before, and nothing is loaded or created; what files hold is said of a host that tells it
pub record Appends (tells : Bool) (before now : Outside) (bytes : List ℕ) (result : Put) : Type 0 where
  pub stays_open : IsTrue now.is_open
  pub target : IsTrue tells → now.target ≡ before.target
  pub file : IsTrue tells → Writes (before.files before.target) (now.files before.target) bytes result
  pub others : IsTrue tells → KeepsOthers before.target before.files now.files
  pub loads : now.loads ≡ before.loads
  pub creates : now.creates ≡ before.creates
  pub later : before.faults ≤ now.faults
  pub cause : PutCause before.faults now.faults result
