-- The grammar of the console: nodes, each a chain of blocks, and the keyword tables that they name.
use Rattle.std.specs.Prelude.{ℕ, List, [], ◌∷◌, codes, pos, false, Some}
use Rattle.cm_fields.specs.declared.numbers.Numbers.{Numbers}
use Rattle.cm_fields.specs.declared.numbers.Radix.TheVariants.{Decimal}
use Rattle.cm_tables.specs.Words.{entry}
use Rattle.cm_tables.specs.declared.entry.Entry.{Entry}
use Rattle.cm_blocks.specs.Grammar.{Graph}
use Rattle.cm_blocks.specs.Words.{block, confirm, node, once, only}
use Rattle.cm_blocks.specs.declared.function.Function.TheVariants.{Hook, Key, Numeral}
use Rattle.cm_blocks.specs.declared.function.Role.TheVariants.{None, Own, Sub, Verb, What}
use Rattle.cm_blocks.specs.declared.node.Block.{Block}
use Rattle.cm_blocks.specs.declared.node.Node.{Node}

-- what an interface may be told to carry
abbrev pub mtu_numbers : Numbers
mtu_numbers = record { radix = Decimal; signed = false; least = pos 68; most = pos 9000 }

-- a node of one block, which says what a line is missing that ends before it
abbrev pub awaiting : List ℕ → Block → Node
awaiting word it = record (only it) { awaits = Some word }

-- a line begins at node 0 and ends at node 1; after the name of an interface, at node 3, comes what to do with it; at
-- node 4 is the first option, at node 5 the end or one more, each once; nodes 6 to 8 read the values of the options
unfoldable pub console_nodes : List Node
console_nodes =
    node (confirm 1 ∷ block (Key 0) Verb 1 ∷ [])
    ∷ only (confirm 1)
    ∷ awaiting (codes "interface") (block (Hook 0) What 3)
    ∷ awaiting (codes "set or show") (block (Key 1) Sub 1)
    ∷ awaiting (codes "option") (once (block (Key 2) None 5))
    ∷ node (confirm 1 ∷ once (block (Key 2) None 5) ∷ [])
    ∷ awaiting (codes "address") (block (Hook 1) (Own 0) 5)
    ∷ awaiting (codes "mtu") (block (Numeral mtu_numbers) (Own 1) 5)
    ∷ awaiting (codes "speed") (block (Key 3) (Own 2) 5)
    ∷ []

-- the commands; what is done with an interface; the options; the speeds, whose codes are Mbit/s, or 0
unfoldable pub console_tables : List (List Entry)
console_tables =
    (entry (codes "interface") 1 2 ∷ entry (codes "quit") 2 1 ∷ entry (codes "show") 3 1 ∷ [])
    ∷ (entry (codes "set") 4 4 ∷ entry (codes "show") 3 1 ∷ [])
    ∷ (entry (codes "address") 0 6 ∷ entry (codes "mtu") 0 7 ∷ entry (codes "speed") 0 8 ∷ [])
    ∷ (entry (codes "10") 10 5 ∷ entry (codes "100") 100 5 ∷ entry (codes "1000") 1000 5 ∷ entry (codes "auto") 0 5 ∷ [])
    ∷ []

unfoldable pub console_graph : Graph
console_graph = record { nodes = console_nodes; tables = console_tables }
