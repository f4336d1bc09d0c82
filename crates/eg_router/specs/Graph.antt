-- The grammar of the router: nodes, each a chain of blocks, and the keyword tables that they name.
use Rattle.std.specs.Prelude.{ℕ, List, [], ◌∷◌, ◌++◌, codes, map, Some}
use Rattle.cm_blocks.specs.declared.function.Function.TheVariants.{Hook, Key, Quoted, Word}
use Rattle.cm_blocks.specs.declared.function.Role.{Role}
use Rattle.cm_blocks.specs.declared.function.Role.TheVariants as roles
use Rattle.cm_blocks.specs.declared.node.Block.{Block}
use Rattle.cm_blocks.specs.declared.node.Node.{Node}
use Rattle.cm_blocks.specs.Grammar.{Graph}
use Rattle.cm_blocks.specs.Words.{block, confirm, node, only}
use Rattle.eg_router.specs.Tables.{router_tables}
use Rattle.eg_router.specs.declared.grammar.TheConstants.{LINE_END}
use Rattle.eg_router.specs.declared.rules.TheConstants.{IPV4, NAME, NEW_NAME}

-- a keyword of this table
abbrev pub keyword : ℕ → Role → Block
keyword table role = block (Key table) role LINE_END

-- a line of a mode begins with nothing, or with a keyword of its table
abbrev pub lines : ℕ → Node
lines table = node (confirm LINE_END ∷ keyword table roles.Verb ∷ [])

-- nodes 0 to 4: the lines of each mode
unfoldable pub first_nodes : List Node
first_nodes = lines 0 ∷ lines 1 ∷ lines 2 ∷ lines 3 ∷ lines 4 ∷ []

-- nodes 5 to 13, of one block each: the end of a line; CONFIGURE; SHOW; NO and what it takes back; INTERFACE; ROUTER;
-- the description
unfoldable pub blocks : List Block
blocks =
    confirm LINE_END
    ∷ keyword 5 roles.None
    ∷ keyword 6 roles.What
    ∷ keyword 7 roles.What
    ∷ block (Hook NAME) roles.Files LINE_END
    ∷ keyword 8 roles.What
    ∷ block (Hook NEW_NAME) roles.Files LINE_END
    ∷ block Word roles.Value LINE_END
    ∷ block Quoted roles.Value LINE_END
    ∷ []

-- node 14: an address, which a line that ends before it is missing
abbrev pub address_node : Node
address_node = record (only (block (Hook IPV4) roles.Value LINE_END)) { awaits = Some (codes "address") }

unfoldable pub router_nodes : List Node
router_nodes = first_nodes ++ map only blocks ++ address_node ∷ []

unfoldable pub router_graph : Graph
router_graph = record { nodes = router_nodes; tables = router_tables }
