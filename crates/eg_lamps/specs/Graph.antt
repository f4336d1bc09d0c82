-- The grammar of the lamps: nodes, each a chain of blocks, and the keyword tables that they name.
use Rattle.std.specs.Prelude.{List, [], ◌∷◌, ◌++◌, codes, map}
use Rattle.cm_tables.specs.Words.{entry, value_entry}
use Rattle.cm_tables.specs.declared.entry.Entry.{Entry}
use Rattle.cm_blocks.specs.Grammar.{Graph}
use Rattle.cm_blocks.specs.Words.{block, confirm, guide, node, only}
use Rattle.cm_blocks.specs.declared.function.Function.TheVariants.{Hook, Key, Number, Quoted, Switch}
use Rattle.cm_blocks.specs.declared.function.Role.TheVariants.{None, Verb, What, Value}
use Rattle.cm_blocks.specs.declared.node.Block.{Block}
use Rattle.cm_blocks.specs.declared.node.Node.{Node}
use Rattle.eg_lamps.specs.declared.grammar.TheConstants.{DIM, LINE_END, LIST, NAME, QUIT, SET}

-- nodes 2 to 11, of one block each: the end of a line; SET; DIM; NAME; the hook 0 reads a room
unfoldable pub blocks : List Block
blocks =
    confirm LINE_END
    ∷ guide (codes "LAMP IN") 4 ∷ block (Hook 0) What 5 ∷ guide (codes "TO") 6 ∷ block Number Value LINE_END
    ∷ guide (codes "LAMP IN") 8 ∷ block (Hook 0) What 1
    ∷ guide (codes "LAMP IN") 10 ∷ block (Hook 0) What 11 ∷ block Quoted Value LINE_END
    ∷ []

-- at node 0 a line begins, with nothing or a command; node 1 is after the room that DIM names: there the line
-- ends, or a switch says by how much
unfoldable pub lamp_nodes : List Node
lamp_nodes =
    (node (confirm LINE_END ∷ block (Key 0) Verb LINE_END ∷ [])
    ∷ node (confirm LINE_END ∷ block (Switch 1) None LINE_END ∷ []) ∷ [])
    ++ map only blocks

-- the commands, each with the node after it
unfoldable pub command_entries : List Entry
command_entries =
    entry (codes "DIM") DIM 7
    ∷ entry (codes "LIST") LIST LINE_END
    ∷ entry (codes "NAME") NAME 9
    ∷ entry (codes "QUIT") QUIT LINE_END
    ∷ entry (codes "SET") SET 3
    ∷ []

-- the switch of DIM, and its number
unfoldable pub switch_entries : List Entry
switch_entries = value_entry (codes "BY") 0 6 ∷ []

unfoldable pub lamp_graph : Graph
lamp_graph = record { nodes = lamp_nodes; tables = command_entries ∷ switch_entries ∷ [] }
