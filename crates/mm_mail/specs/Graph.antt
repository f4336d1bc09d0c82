-- The grammar of mail: nodes, each a chain of blocks, and the keyword table that they name.
use Rattle.std.specs.Prelude.{List, [], ◌∷◌, ◌++◌, codes, map}
use Rattle.cm_tables.specs.declared.entry.Entry.{Entry}
use Rattle.cm_tables.specs.Words.{entry}
use Rattle.cm_blocks.specs.declared.function.Function.TheVariants.{Hook, Key, Quoted, User}
use Rattle.cm_blocks.specs.declared.function.Role.TheVariants as roles
use Rattle.cm_blocks.specs.declared.node.Block.{Block}
use Rattle.cm_blocks.specs.declared.node.Node.{Node}
use Rattle.cm_blocks.specs.Grammar.{Graph}
use Rattle.cm_blocks.specs.Words.{block, confirm, guide, node, only}
use Rattle.mm_mail.specs.declared.grammar.TheConstants.{DELETE, HEADERS, LINE_END, MESSAGE, QUIT, READ, RECEIVER, SEND}

-- nodes 1 to 7, of one block each: the number of a message; a receiver; the end of a line; and a subject
unfoldable pub blocks : List Block
blocks =
    guide (codes "MESSAGE") 2
    ∷ block (Hook 0) roles.Value LINE_END
    ∷ guide (codes "TO") 4
    ∷ block User roles.Files 6
    ∷ confirm LINE_END
    ∷ guide (codes "ABOUT") 7
    ∷ block Quoted roles.Value LINE_END
    ∷ []

-- at node 0 a line begins, with nothing or a command
unfoldable pub mail_nodes : List Node
mail_nodes =
    (node (confirm LINE_END ∷ block (Key 0) roles.Verb LINE_END ∷ []) ∷ []) ++ map only blocks

-- the commands, each with the node after it
unfoldable pub command_entries : List Entry
command_entries =
    entry (codes "DELETE") DELETE MESSAGE
    ∷ entry (codes "HEADERS") HEADERS LINE_END
    ∷ entry (codes "QUIT") QUIT LINE_END
    ∷ entry (codes "READ") READ MESSAGE
    ∷ entry (codes "SEND") SEND RECEIVER
    ∷ []

unfoldable pub mail_graph : Graph
mail_graph = record { nodes = mail_nodes; tables = command_entries ∷ [] }
