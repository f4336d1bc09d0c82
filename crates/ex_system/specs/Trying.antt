-- A message that is tried: a screen that fails in its midst changes nothing.
use Rattle.std.specs.Prelude.{◌≡◌, ◌⊎◌, ℕ, List, ◌++◌}
use Rattle.cm_io.specs.Fault.{Rose}
use Rattle.cm_io.specs.Contents.{Contents, add, IsPart}

-- after these bytes stands the message, and the count of faults stayed, or a prefix of it, and the count rose
pub record Tried (before now : Contents) (before_faults now_faults : ℕ) (bytes message : List ℕ) : Type 0 where
  pub part : List ℕ
  pub is_part : IsPart part message
  pub contents : now ≡ add before (bytes ++ part)
  pub whole : ((part ≡ message) × (now_faults ≡ before_faults)) ⊎ Rose before_faults now_faults
