-- What the objects in memory hold.
use Rattle.std.specs.Prelude.{ℕ, Bool, List, Option}

-- a source: the bytes that are left, the number of the get that fails, how many gets it was asked, and the faults
pub record SourceState : Type 0 where
  pub left : List ℕ
  pub fail : Option ℕ
  pub gets : ℕ
  pub faults : ℕ

-- a sink: its bytes, the room for them, and the faults
pub record SinkState : Type 0 where
  pub bytes : List ℕ
  pub room : ℕ
  pub faults : ℕ

-- bytes, and the room for them
pub record Room : Type 0 where
  pub bytes : List ℕ
  pub room : ℕ

-- of a source of the system: how many gets it was asked, and the faults
pub record SourceCounts : Type 0 where
  pub gets : ℕ
  pub faults : ℕ

-- of the files of the system: whether one is open, how many loads and creates were asked, and the faults
pub record HostCounts : Type 0 where
  pub is_open : Bool
  pub loads : ℕ
  pub creates : ℕ
  pub faults : ℕ
