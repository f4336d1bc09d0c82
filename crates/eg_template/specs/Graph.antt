-- The grammar: nodes, each a chain of blocks, and the keyword table that they name.
use Rattle.std.specs.Prelude.{List, [], ◌∷◌, codes}
use Rattle.cm_tables.specs.declared.entry.Entry.{Entry}
use Rattle.cm_tables.specs.Words.{entry}
use Rattle.cm_blocks.specs.declared.function.Function.TheVariants.{Key, Number}
use Rattle.cm_blocks.specs.declared.function.Role.TheVariants.{Verb, Value}
use Rattle.cm_blocks.specs.declared.node.Node.{Node}
use Rattle.cm_blocks.specs.Grammar.{Graph}
use Rattle.cm_blocks.specs.Words.{block, confirm, guide, node, only}
use Rattle.eg_template.specs.declared.grammar.TheConstants.{ADD, LINE_END, QUIT}

-- at node 0 a line begins, with nothing or a command; at node 1 it ends; nodes 2 and 3 are those of ADD
unfoldable pub graph_nodes : List Node
graph_nodes =
    node (confirm LINE_END ∷ block (Key 0) Verb LINE_END ∷ [])
    ∷ only (confirm LINE_END)
    ∷ only (guide (codes "NUMBER") 3)
    ∷ only (block Number Value LINE_END)
    ∷ []

-- the commands, each with the node after it
unfoldable pub command_entries : List Entry
command_entries = entry (codes "ADD") ADD 2 ∷ entry (codes "QUIT") QUIT LINE_END ∷ []

unfoldable pub graph : Graph
graph = record { nodes = graph_nodes; tables = command_entries ∷ [] }
