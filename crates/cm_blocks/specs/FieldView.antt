-- A field as its readers see it.
use Rattle.std.specs.Prelude.{ℕ, Bool}
use Rattle.cm_fields.specs.declared.value.Value.{Value}
use Rattle.cm_blocks.specs.declared.function.Role.{Role}

-- the node and the block that took it, its value and place, how many bytes decide it, whether it was taken
-- from the default, what it is for, and the node that follows
pub record FieldView : Type 0 where
  pub node : ℕ
  pub block : ℕ
  pub value : Value
  pub start : ℕ
  pub end : ℕ
  pub need : ℕ
  pub defaulted : Bool
  pub role : Role
  pub next : ℕ
