-- The small words in which nodes are written.
use Rattle.std.specs.Prelude.{ℕ, true, List, [], ◌∷◌, Some}
use Rattle.cm_files.specs.declared.flags.Flags.{Flags}
use Rattle.cm_blocks.specs.declared.function.Function.{Function}
use Rattle.cm_blocks.specs.declared.function.Function.TheVariants.{Key, Switch, Token, User, Directory, InFile, OutFile, AnyFile, Text, Comma, Confirm, Hook}
use Rattle.cm_blocks.specs.declared.function.Role.{Role}
use Rattle.cm_blocks.specs.declared.function.Role.TheVariants as roles
use Rattle.cm_blocks.specs.declared.node.Block.{Block}
use Rattle.cm_blocks.specs.declared.node.Node.{Node}
use Rattle.cm_blocks.specs.Words.{block, no_flags, node}
pub use Rattle.cm_blocks.specs.Words.{guide, only}
use Rattle.ex_grammar.specs.declared.node.TheConstants.{LINE_END}

-- the end of the line
abbrev pub confirm : Block
confirm = block Confirm roles.None LINE_END

-- a keyword of this table
abbrev pub keyword : ℕ → Role → Block
keyword table role = block (Key table) role LINE_END

abbrev pub token : List ℕ → ℕ → Block
token sign next = block (Token sign) roles.None next

-- a sign that stands for what is read
abbrev pub source_token : List ℕ → ℕ → Block
source_token sign next = block (Token sign) roles.Source next

-- a comma, after which subcommands follow
abbrev pub comma : Block
comma = block Comma roles.Sub LINE_END

-- a switch of this table
abbrev pub switch : ℕ → Block
switch table = block (Switch table) roles.Value LINE_END

-- a value of this kind
abbrev pub value : Function → ℕ → Block
value function next = block function roles.Value next

-- what the rule of this id takes
abbrev pub hook : ℕ → ℕ → Block
hook id next = value (Hook id) next

-- a user that a command works on
abbrev pub user : Block
user = block User roles.Files LINE_END

-- a directory that is there
abbrev pub directory : Block
directory = block Directory roles.Files LINE_END

-- a directory that may be a new one
abbrev pub new_directory : ℕ → Block
new_directory next = record (block Directory roles.Files next) { flags = record no_flags { new = true } }

-- wildcards may be in a file
abbrev pub wild : Flags
wild = record no_flags { wild = true }

-- wildcards, and what is not given is that of the source
abbrev pub wild_from_source : Flags
wild_from_source = record wild { from_source = true }

-- wildcards, and all generations where none is given
abbrev pub wild_generations : Flags
wild_generations = record wild { all_generations = true }

-- the same of the files that are marked deleted
abbrev pub wild_deleted : Flags
wild_deleted = record wild_generations { deleted = true }

-- wildcards, and all names, types and generations where none is given
abbrev pub wild_all : Flags
wild_all = record wild_generations { default_all = true }

-- files that are read, in this way and for this
abbrev pub in_file : Flags → Role → ℕ → Block
in_file flags role next = record (block InFile role next) { flags = flags }

-- the file that is written
abbrev pub out_file : Flags → ℕ → Block
out_file flags next = record (block OutFile roles.Target next) { flags = flags }

-- files that need not be there, read in this way and for this
abbrev pub any_file : Flags → Role → ℕ → Block
any_file flags role next = record (block AnyFile role next) { flags = flags }

abbrev pub rest_of_line : Block
rest_of_line = block Text roles.None LINE_END

-- a node of two blocks, tried in this order
abbrev pub either : Block → Block → Node
either first second = node (first ∷ second ∷ [])

-- a node of two blocks, for which this text is where the line ends
abbrev pub either_or : Block → Block → List ℕ → Node
either_or first second text = record (either first second) { default = Some text }

-- the node of a remark, where no comment begins
abbrev pub remark : Node
remark = record (only rest_of_line) { raw = true }
