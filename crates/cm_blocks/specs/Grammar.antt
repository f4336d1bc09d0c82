-- A grammar as its callers see it.
use Rattle.std.specs.Prelude.{List}
use Rattle.cm_tables.specs.declared.entry.Entry.{Entry}
use Rattle.cm_blocks.specs.declared.node.Node.{Node}

-- its nodes, and the keyword tables that their blocks name, each by its number from 0
pub record Graph : Type 0 where
  pub nodes : List Node
  pub tables : List (List Entry)
