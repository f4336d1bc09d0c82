-- A line that waits at a block, and the field that a completion makes of it.
use Rattle.std.specs.Prelude.{ℕ, ◌≡◌, ◌≤◌, false, List, length, Some, Ok, slice_get}
use Rattle.cm_files.specs.Resolve.{by_device}
use Rattle.cm_files.specs.Spec.{device_read}
use Rattle.cm_blocks.specs.declared.field.Chain.{Chain}
use Rattle.cm_blocks.specs.declared.field.Chain.TheVariants as chain
use Rattle.cm_blocks.specs.declared.function.Function.{Function}
use Rattle.cm_blocks.specs.declared.function.Function.TheVariants.{Directory}
use Rattle.cm_blocks.specs.declared.node.Block.{Block}
use Rattle.cm_blocks.specs.declared.node.Node.{Node}
use Rattle.cm_blocks.specs.Chain.{chain_at}
use Rattle.cm_blocks.specs.Setting.{Setting}
use Rattle.cm_blocks.specs.FieldView.{FieldView}

-- from a place of the line on a field of this node begins at `start`, and of its blocks this one is the first that
-- wants more bytes
pub record Waits (s : Setting) (number b : ℕ) (block : Block) (line : List ℕ) (at start : ℕ) : Type 0 where
  pub node : Node
  pub node_is : slice_get s.graph.nodes number ≡ Some node
  pub block_is : slice_get node.chain b ≡ Some block
  pub place : at ≤ length line
  pub waits : (chain_at s number line at).chain ≡ chain.Open (record { node = number; block = Some b; at = start })

-- the answer is a field that this block of the node takes from the text between two places, and that leads to `next`
pub record TakesField (number b start end next : ℕ) (answer : Chain) : Type 0 where
  pub field : FieldView
  pub is : answer ≡ chain.Field field
  pub node : field.node ≡ number
  pub block : field.block ≡ b
  pub begins : field.start ≡ start
  pub ends : field.end ≡ end
  pub typed : field.defaulted ≡ false
  pub leads : field.next ≡ next

-- the device that is typed before a directory, if any is, is one that there is
abbrev pub HasDevice : Setting → Function → List ℕ → Type 0
HasDevice s Directory atom = (meant : ℕ) × (by_device s.catalogue atom (device_read atom).part ≡ Ok meant)
HasDevice s function atom = Unit {0}
