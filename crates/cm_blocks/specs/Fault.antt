-- What makes nodes and tables a grammar, and the first fault of those that are none.
use Rattle.std.specs.Prelude.{ℕ, ◌+◌, Bool, true, false, not, ◌&&◌, ◌||◌, ◌==◌, if◌then◌else◌, nat_lt, nat_le, List, [], ◌∷◌, length, Option, Some, None, slice_get}
use Rattle.std.specs.List.{list_all, list_any}
use Rattle.std.specs.Option.{option_map_or}
use Rattle.cm_text.specs.Bytes.{is_shown}
use Rattle.cm_text.specs.ByteSets.{is_empty}
use Rattle.cm_tables.specs.declared.entry.Entry.{Entry}
use Rattle.cm_fields.specs.Numbers.{is_numbers}
use Rattle.cm_fields.specs.Run.{may_be_field}
use Rattle.cm_blocks.specs.declared.function.Function.{Function}
use Rattle.cm_blocks.specs.declared.function.Function.TheVariants.{Key, Switch, Noise, Numeral, Run, Token, Confirm}
use Rattle.cm_blocks.specs.declared.node.Block.{Block}
use Rattle.cm_blocks.specs.declared.node.Node.{Node}
use Rattle.cm_blocks.specs.declared.grammar.GrammarFault.{GrammarFault}
use Rattle.cm_blocks.specs.declared.grammar.GrammarFault.TheVariants.{TooMany, EmptyChain, ChainLong, TableRange, NextRange, BadText, BadBytes, BadNumbers, BadFlags, NoConfirm}
use Rattle.cm_blocks.specs.declared.fault.TheConstants.{NODE_LIMIT, TABLE_LIMIT, BLOCK_LIMIT}
use Rattle.cm_blocks.specs.Grammar.{Graph}

-- the table that a function names
abbrev pub table_number : Function → Option ℕ
table_number (Key table) = Some table
table_number (Switch table) = Some table
table_number function = None

-- the table that it names is there
abbrev pub has_table : List (List Entry) → Function → Bool
has_table tables function = option_map_or (λ table. nat_lt table (length tables)) (table_number function) true

abbrev pub names_table : List (List Entry) → Block → Bool
names_table tables block = has_table tables block.function

-- the entries of a table, none where it is not there
abbrev pub entries_at : List (List Entry) → ℕ → List Entry
entries_at tables number = option_map_or (λ (entries : List Entry). entries) (slice_get tables number) []

-- the entries of the table that a function names
abbrev pub entries_of : List (List Entry) → Function → List Entry
entries_of tables function = option_map_or (entries_at tables) (table_number function) []

-- the node that follows the block is one of so many, and so is each that an entry of its table leads to
abbrev pub leads_within : List (List Entry) → ℕ → Block → Bool
leads_within tables nodes block =
    nat_lt block.next nodes
    && list_all (λ (entry : Entry). nat_lt entry.next nodes) (entries_of tables block.function)

-- a text that is shown as it is, of at least one byte
abbrev pub is_phrase : List ℕ → Bool
is_phrase text = nat_lt 0 (length text) && is_shown text

abbrev pub is_parenthesis : ℕ → Bool
is_parenthesis byte = byte == 40 || byte == 41

-- the text that a function reads is one that it may
abbrev pub has_phrase : Function → Bool
has_phrase (Noise text) = is_phrase text && not (list_any is_parenthesis text)
has_phrase (Token text) = is_phrase text
has_phrase function = true

abbrev pub has_texts : Block → Bool
has_texts block = has_phrase block.function && option_map_or is_shown block.help true

-- a node's default and the name of what it awaits are shown as they are
abbrev pub has_node_texts : Node → Bool
has_node_texts node = option_map_or is_shown node.default true && option_map_or is_shown node.awaits true

-- the bytes that a function reads are some, and a field may have each
abbrev pub may_read : Function → Bool
may_read (Run set) = not (is_empty set) && may_be_field set
may_read function = true

abbrev pub has_bytes : Block → Bool
has_bytes block = may_read block.function

-- the numbers that a function reads are some that a field may be
abbrev pub has_range : Function → Bool
has_range (Numeral numbers) = is_numbers numbers
has_range function = true

abbrev pub has_numbers : Block → Bool
has_numbers block = has_range block.function

-- all generations come with wildcards alone
abbrev pub has_flags : Block → Bool
has_flags block = block.flags.wild || not block.flags.all_generations

-- the fault of a node, of so many nodes: the first of these tests that it does not pass
abbrev pub node_fault : List (List Entry) → ℕ → ℕ → Node → Option GrammarFault
node_fault tables nodes number node =
    if length node.chain == 0 then Some (EmptyChain number)
    else (if nat_lt BLOCK_LIMIT (length node.chain) then Some (ChainLong number)
    else (if not (list_all (names_table tables) node.chain) then Some (TableRange number)
    else (if not (list_all (leads_within tables nodes) node.chain) then Some (NextRange number)
    else (if not (has_node_texts node && list_all has_texts node.chain)
    then Some (BadText number)
    else (if not (list_all has_bytes node.chain) then Some (BadBytes number)
    else (if not (list_all has_numbers node.chain) then Some (BadNumbers number)
    else (if not (list_all has_flags node.chain) then Some (BadFlags number) else None)))))))

-- the first of two faults
abbrev pub or_fault : Option GrammarFault → Option GrammarFault → Option GrammarFault
or_fault None later = later
or_fault (Some fault) later = Some fault

-- the fault of the first node that has one, from a number on
abbrev pub nodes_fault : List (List Entry) → ℕ → ℕ → List Node → Option GrammarFault
nodes_fault tables nodes number [] = None
nodes_fault tables nodes number (node ∷ more) =
    or_fault (node_fault tables nodes number node) (nodes_fault tables nodes (number + 1) more)

abbrev pub is_confirm : Function → Bool
is_confirm Confirm = true
is_confirm function = false

abbrev pub chain_confirms : Node → Bool
chain_confirms node = list_any (λ (block : Block). is_confirm block.function) node.chain

-- how many nodes and tables there may be
abbrev pub has_size : Graph → Bool
has_size graph =
    nat_lt 0 (length graph.nodes) && nat_le (length graph.nodes) NODE_LIMIT
    && nat_le (length graph.tables) TABLE_LIMIT

-- [grammar-fault] the first fault of all
unfoldable pub grammar_fault : Graph → Option GrammarFault
grammar_fault graph =
    if not (has_size graph) then Some TooMany
    else or_fault (nodes_fault graph.tables (length graph.nodes) 0 graph.nodes)
    (if list_any chain_confirms graph.nodes then None else Some NoConfirm)
