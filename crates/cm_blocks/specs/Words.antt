-- The words in which grammars are written.
use Rattle.std.specs.Prelude.{ℕ, true, false, List, [], ◌∷◌, None}
use Rattle.cm_files.specs.declared.flags.Flags.{Flags}
use Rattle.cm_blocks.specs.declared.function.Function.{Function}
use Rattle.cm_blocks.specs.declared.function.Function.TheVariants as functions
use Rattle.cm_blocks.specs.declared.function.Role.{Role}
use Rattle.cm_blocks.specs.declared.function.Role.TheVariants as roles
use Rattle.cm_blocks.specs.declared.node.Block.{Block}
use Rattle.cm_blocks.specs.declared.node.Node.{Node}

-- none of the flags of a file specification
abbrev pub no_flags : Flags
no_flags = record {
  wild = false;
  all_generations = false;
  deleted = false;
  default_all = false;
  from_source = false;
  new = false;
}

-- a block that reads this, for this, before the node that follows; it has no help of its own
abbrev pub block : Function → Role → ℕ → Block
block function role next =
    record { function = function; flags = no_flags; help = None; role = role; next = next; once = false }

-- the same block, of whose table a line has each entry at most once
abbrev pub once : Block → Block
once it = record it { once = true }

-- the end of a line
abbrev pub confirm : ℕ → Block
confirm next = block functions.Confirm roles.None next

-- a guide word
abbrev pub guide : List ℕ → ℕ → Block
guide word next = block (functions.Noise word) roles.None next

-- a node of these blocks, with no default, where comments begin
abbrev pub node : List Block → Node
node chain = record { chain = chain; default = None; raw = false; awaits = None }

-- a node of one block
abbrev pub only : Block → Node
only it = node (it ∷ [])
