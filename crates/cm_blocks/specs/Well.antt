-- What is true of each node and each table of a grammar.
use Rattle.std.specs.Prelude.{◌≡◌, ◌<◌, ◌≤◌, true, List, length, All, None}
use Rattle.cm_tables.specs.declared.entry.Entry.{Entry}
use Rattle.cm_tables.specs.Order.{table_fault}
use Rattle.cm_blocks.specs.declared.fault.TheConstants.{BLOCK_LIMIT}
use Rattle.cm_blocks.specs.declared.node.Block.{Block}
use Rattle.cm_blocks.specs.declared.node.Node.{Node}
use Rattle.cm_blocks.specs.Fault.{has_phrase, has_table, leads_within, may_read}
use Rattle.cm_blocks.specs.Grammar.{Graph}

-- the table and the nodes that a block names are there, and its phrase and its bytes are some that it may read
pub record IsWellBlock (graph : Graph) (block : Block) : Type 0 where
  pub table : has_table graph.tables block.function ≡ true
  pub leads : leads_within graph.tables (length graph.nodes) block ≡ true
  pub phrase : has_phrase block.function ≡ true
  pub bytes : may_read block.function ≡ true

-- a node has some blocks, and no more than it may, each of them well
pub record IsWell (graph : Graph) (node : Node) : Type 0 where
  pub some : 0 < length node.chain
  pub few : length node.chain ≤ BLOCK_LIMIT
  pub blocks : All (IsWellBlock graph) node.chain

-- each of these tables is one that the look-up may ask
abbrev pub AreTables : List (List Entry) → Type 0
AreTables tables = All (λ (table : List Entry). table_fault table ≡ None) tables
