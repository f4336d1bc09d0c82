-- The grammar of the EXEC: 57 nodes, each on a line of its own, and seven keyword tables.
use Rattle.std.specs.Prelude.{List, [], ◌∷◌, ◌++◌, codes, map}
use Rattle.cm_blocks.specs.declared.function.Function.TheVariants.{Date, Number, Word, Quoted}
use Rattle.cm_blocks.specs.declared.function.Role.TheVariants.{Verb, What, Source, Target, Files}
use Rattle.cm_blocks.specs.declared.function.Role.TheVariants as roles
use Rattle.cm_blocks.specs.declared.node.Block.{Block}
use Rattle.cm_blocks.specs.declared.node.Node.{Node}
use Rattle.cm_blocks.specs.Grammar.{Graph}
use Rattle.cm_blocks.specs.Words.{no_flags}
use Rattle.ex_grammar.specs.declared.node.TheConstants.{LINE_END, SWITCHES}
use Rattle.ex_grammar.specs.declared.tables.TheConstants.{BUILD_TABLE, COMMAND_TABLE, DIRECTORY_TABLE, FILE_TABLE, SET_TABLE, SWITCH_TABLE, TOPIC_TABLE}
use Rattle.ex_grammar.specs.Tables.{exec_tables}
use Rattle.ex_grammar.specs.Words.{any_file, comma, confirm, directory, either, either_or, guide, hook, in_file, keyword, new_directory, only, out_file, remark, source_token, switch, token, user, value, wild, wild_all, wild_deleted, wild_from_source, wild_generations}

-- nodes 0 to 2: where a command begins, and what COPY reads
unfoldable pub source_nodes : List Node
source_nodes =
    either confirm (keyword COMMAND_TABLE Verb)
    ∷ only (guide (codes "FROM") 2)
    ∷ either (source_token (codes "TTY:") 3) (in_file wild Source 3)
    ∷ []

-- 3 to 5: what COPY writes, and the end of a line
unfoldable pub target_blocks : List Block
target_blocks =
    guide (codes "TO") 4
    ∷ out_file wild_from_source LINE_END
    ∷ confirm
    ∷ []

-- 6 to 12: APPEND and RENAME
unfoldable pub append_blocks : List Block
append_blocks =
    guide (codes "FROM") 7
    ∷ in_file wild Source 8
    ∷ guide (codes "TO") 9
    ∷ any_file no_flags Target LINE_END
    ∷ guide (codes "EXISTING FILE") 11
    ∷ in_file wild Source 12
    ∷ guide (codes "TO") 4
    ∷ []

-- 13 to 17: DELETE, UNDELETE, and the guide word of CONNECT
unfoldable pub delete_blocks : List Block
delete_blocks =
    guide (codes "FILES") 14
    ∷ in_file wild_generations Files LINE_END
    ∷ guide (codes "FILES") 16
    ∷ in_file wild_deleted Files LINE_END
    ∷ guide (codes "TO DIRECTORY") 18
    ∷ []

-- 19 to 23: TYPE, TAKE, and the guide word of DIRECTORY
unfoldable pub type_blocks : List Block
type_blocks =
    guide (codes "FILES") 20
    ∷ in_file wild Files LINE_END
    ∷ guide (codes "COMMANDS FROM") 22
    ∷ in_file no_flags Files LINE_END
    ∷ guide (codes "OF FILES") 24
    ∷ []

-- 24 and 25: the files to list, and where DIRECTORY and BUILD end; a comma at either is before subcommands
unfoldable pub listing_nodes : List Node
listing_nodes =
    either_or comma (any_file wild_all Files 25) (codes "*.*.*")
    ∷ either comma confirm
    ∷ []

-- 26 to 31: INFORMATION, and the logical name that DEFINE is for
unfoldable pub define_blocks : List Block
define_blocks =
    guide (codes "ABOUT") 27
    ∷ keyword TOPIC_TABLE What
    ∷ guide (codes "LOGICAL NAME") 29
    ∷ hook 0 30
    ∷ token (codes ":") 31
    ∷ guide (codes "AS") 32
    ∷ []

-- 33 to 35: BUILD, and the guide word of EXPUNGE
unfoldable pub build_blocks : List Block
build_blocks =
    guide (codes "DIRECTORY") 34
    ∷ new_directory 25
    ∷ guide (codes "DELETED FILES") 36
    ∷ []

-- 37 and 38: PRINT
unfoldable pub print_blocks : List Block
print_blocks =
    guide (codes "FILES") 38
    ∷ in_file wild Files SWITCHES
    ∷ []

-- 40 to 44: the values of its switches, by their codes
unfoldable pub switch_blocks : List Block
switch_blocks =
    value Date SWITCHES
    ∷ value Number SWITCHES
    ∷ hook 1 SWITCHES
    ∷ value Word SWITCHES
    ∷ value Quoted SWITCHES
    ∷ []

-- 46 and 47: the subcommands of DIRECTORY, and their day
unfoldable pub directory_nodes : List Node
directory_nodes =
    either confirm (keyword DIRECTORY_TABLE Verb)
    ∷ only (value Date LINE_END)
    ∷ []

-- 48 to 50: the subcommand of BUILD, and its number
unfoldable pub retention_nodes : List Node
retention_nodes =
    either confirm (keyword BUILD_TABLE Verb)
    ∷ only (guide (codes "TO KEEP") 50)
    ∷ only (hook 2 LINE_END)
    ∷ []

-- 51 to 56: SET, what it sets of files, the files, and their number
unfoldable pub set_blocks : List Block
set_blocks =
    keyword SET_TABLE roles.None
    ∷ keyword FILE_TABLE roles.None
    ∷ guide (codes "OF FILES") 54
    ∷ in_file wild_generations Files 55
    ∷ guide (codes "TO") 56
    ∷ hook 2 LINE_END
    ∷ []

-- nodes 0 to 18: up to the directory to connect to
unfoldable pub first_nodes : List Node
first_nodes =
    source_nodes
    ++ map only target_blocks
    ++ map only append_blocks
    ++ map only delete_blocks
    ++ either_or user directory (codes "<OPERATOR>") ∷ []

-- nodes 37 to 56: PRINT, the text of a remark at 45, the subcommands, and SET
unfoldable pub last_nodes : List Node
last_nodes =
    map only print_blocks
    ++ either (switch SWITCH_TABLE) confirm ∷ []
    ++ map only switch_blocks
    ++ remark ∷ []
    ++ directory_nodes
    ++ retention_nodes
    ++ map only set_blocks

-- the nodes, from 0: the directory of a logical name at 32, the one to expunge at 36
unfoldable pub exec_nodes : List Node
exec_nodes =
    first_nodes
    ++ map only type_blocks
    ++ listing_nodes
    ++ map only define_blocks
    ++ either confirm directory ∷ []
    ++ map only build_blocks
    ++ either confirm directory ∷ []
    ++ last_nodes

unfoldable pub exec_graph : Graph
exec_graph = record { nodes = exec_nodes; tables = exec_tables }
