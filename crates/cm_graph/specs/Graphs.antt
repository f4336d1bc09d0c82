-- The grammar of a language: a node for each place, and the tables of keywords and switches.
use Rattle.std.specs.Prelude.{ℕ, ◌+◌, ◌==◌, ◌&&◌, Bool, true, false, not, nat_lt, if◌then◌else◌, List, [], ◌∷◌, ◌++◌, length, flat_map, map, Option, None, Some, Result, Ok, Err, slice_get}
use Rattle.std.specs.List.{list_any}
use Rattle.std.specs.Option.{option_map_or}
use Rattle.cm_tables.specs.Order.{table_fault}
use Rattle.cm_tables.specs.declared.entry.Entry.{Entry}
use Rattle.cm_tables.specs.declared.table.TableFault.{TableFault}
use Rattle.cm_blocks.specs.Default.{first_fault}
use Rattle.cm_blocks.specs.Grammar.{Graph}
use Rattle.cm_blocks.specs.Words.{block, confirm, guide, node}
use Rattle.cm_blocks.specs.declared.function.Function.TheVariants.{Key, Switch}
use Rattle.cm_blocks.specs.declared.function.Role.TheVariants as roles
use Rattle.cm_blocks.specs.declared.grammar.GrammarFault.{GrammarFault}
use Rattle.cm_blocks.specs.declared.grammar.GrammarFault.TheVariants as faults
use Rattle.cm_blocks.specs.declared.node.Block.{Block}
use Rattle.cm_blocks.specs.declared.node.Node.{Node}
use Rattle.cm_synopsis.specs.CommandView.{CommandView}
use Rattle.cm_synopsis.specs.Ways.{Way}
use Rattle.cm_synopsis.specs.declared.part.Part.{Part}
use Rattle.cm_synopsis.specs.declared.part.Part.TheVariants.{Field, Guide}
use Rattle.cm_language.specs.Places.{Site}
use Rattle.cm_language.specs.Readings.{range_of, step_of}
use Rattle.cm_language.specs.declared.place.Exit.{Exit}
use Rattle.cm_language.specs.declared.place.Position.{Position}
use Rattle.cm_synopsis.specs.declared.way.Step.{Step}
use Rattle.cm_graph.specs.Clashes.{first_command, is_end, place_fault}
use Rattle.cm_graph.specs.Exits.{has_colon, is_keyword, is_option, is_switch, name_of, part_at}
use Rattle.cm_graph.specs.Fields.{field_block}
use Rattle.cm_graph.specs.Helps.{bad_help, help_at}
use Rattle.cm_graph.specs.Tables.{entry_of, inserted, node_of, number_of}
use Rattle.cm_graph.specs.declared.fault.GraphFault.{GraphFault}
use Rattle.cm_graph.specs.declared.fault.GraphReason.TheVariants.{BadHelp, LongChain, ManyKeywords, ManyTables, NotDrawn}

-- the tables so far, and the blocks of a place
pub record Chain : Type 0 where
  pub tables : List (List Entry)
  pub blocks : List Block

-- the nodes and the tables so far
pub record Sheet : Type 0 where
  pub nodes : List Node
  pub tables : List (List Entry)

-- an exit is a keyword, or a switch, that a line has once, or more often
abbrev pub is_sort : Bool → Bool → List CommandView → List Way → Exit → Bool
is_sort switch once commands ways exit =
    (if switch then is_switch (part_at commands ways exit) else is_keyword (part_at commands ways exit))
    && (if once then is_option ways exit else not (is_option ways exit))

-- the help of what is read at an exit
abbrev pub step_help : Option CommandView → Option Step → Option (List ℕ)
step_help (Some command) (Some step) = help_at command step.part
step_help command step = None

abbrev pub exit_help : List CommandView → List Way → Exit → Option (List ℕ)
exit_help commands ways exit =
    step_help (slice_get commands exit.position.command) (step_of ways exit.position)

abbrev pub entry_at : List CommandView → List Way → Exit → Entry
entry_at commands ways exit =
    entry_of (name_of (part_at commands ways exit)) (has_colon (part_at commands ways exit))
    (exit_help commands ways exit) exit.place

-- the entries of a sort, and those that are made
abbrev pub entries_from : Bool → Bool → List CommandView → List Way → List Entry → List Exit → List Entry
entries_from switch once commands ways made [] = made
entries_from switch once commands ways made (exit ∷ exits) =
    entries_from switch once commands ways
    (if is_sort switch once commands ways exit then inserted made (entry_at commands ways exit) else made) exits

-- a block that reads an entry of a table
abbrev pub table_block : Bool → Bool → ℕ → Block
table_block switch once number =
    record (block (if switch then Switch number else Key number) roles.None 0) { once = once }

abbrev pub with_block : Chain → Block → Chain
with_block chain it = record chain { blocks = chain.blocks ++ it ∷ [] }

-- a chain with a block for these entries: their table is the one that is there, or a new one
abbrev pub with_new : ℕ → Bool → Bool → List Entry → Chain → Option TableFault → Result Chain GraphFault
with_new command switch once entries chain (Some fault) =
    Err (record { command = command; other = command; reason = ManyKeywords })
with_new command switch once entries chain None =
    Ok (with_block (record chain { tables = chain.tables ++ entries ∷ [] })
    (table_block switch once (node_of (number_of chain.tables entries))))

abbrev pub with_entries : ℕ → Bool → Bool → List Entry → Chain → Result Chain GraphFault
with_entries command switch once entries chain =
    if length entries == 0 then Ok chain
    else if nat_lt (number_of chain.tables entries) (length chain.tables)
    then Ok (with_block chain (table_block switch once (node_of (number_of chain.tables entries))))
    else with_new command switch once entries chain (table_fault entries)

abbrev pub and_then : {A B : Type 0} → (A → Result B GraphFault) → Result A GraphFault → Result B GraphFault
and_then after (Ok value) = after value
and_then after (Err fault) = Err fault

abbrev pub with_sort : Bool → Bool → List CommandView → List Way → Site → Chain → Result Chain GraphFault
with_sort switch once commands ways site chain =
    with_entries (first_command site.positions) switch once (entries_from switch once commands ways [] site.exits) chain

-- switches before keywords, and of both first those that a line has once
abbrev pub with_switches : List CommandView → List Way → Site → Chain → Result Chain GraphFault
with_switches commands ways site chain =
    and_then (with_sort true false commands ways site) (with_sort true true commands ways site chain)

abbrev pub with_keywords : List CommandView → List Way → Site → Chain → Result Chain GraphFault
with_keywords commands ways site chain =
    and_then (with_sort false false commands ways site) (with_sort false true commands ways site chain)

-- the blocks of a field, one for each kind
abbrev pub blocks_of : Option Part → Option (ℕ × ℕ) → ℕ → List Block
blocks_of (Some (Field name kinds)) range next = map (field_block name range next) kinds
blocks_of part range next = []

abbrev pub field_blocks : List CommandView → List Way → Exit → List Block
field_blocks commands ways exit =
    blocks_of (part_at commands ways exit) (range_of ways exit.position) (node_of exit.place)

-- the block of a guide word
abbrev pub guides_of : Option Part → ℕ → List Block
guides_of (Some (Guide name)) next = guide name next ∷ []
guides_of part next = []

abbrev pub guide_blocks : List CommandView → List Way → Exit → List Block
guide_blocks commands ways exit = guides_of (part_at commands ways exit) (node_of exit.place)

-- what a place awaits where it has no other block: its first field
abbrev pub field_name : Option Part → Option (List ℕ)
field_name (Some (Field name kinds)) = Some name
field_name part = None

abbrev pub or_name : Option (List ℕ) → Option (List ℕ) → Option (List ℕ)
or_name (Some name) later = Some name
or_name None later = later

abbrev pub first_field : List CommandView → List Way → List Exit → Option (List ℕ)
first_field commands ways [] = None
first_field commands ways (exit ∷ exits) =
    or_name (field_name (part_at commands ways exit)) (first_field commands ways exits)

-- the node of a place behind whose tables the chain is so
abbrev pub node_with : List CommandView → List Way → List Exit → List Block → Node
node_with commands ways exits blocks = record
    (node (blocks ++ flat_map (field_blocks commands ways) exits ++ flat_map (guide_blocks commands ways) exits)) {
      awaits = if length blocks == 0 then first_field commands ways exits else None;
    }

-- the end of a line, where it may be at a place
abbrev pub ends_of : List Way → List Position → List Block
ends_of ways positions = if list_any (is_end ways) positions then confirm 0 ∷ [] else []

abbrev pub chain_of : List CommandView → List Way → Site → List (List Entry) → Result Chain GraphFault
chain_of commands ways site tables =
    and_then (with_keywords commands ways site)
    (with_switches commands ways site (record { tables = tables; blocks = ends_of ways site.positions }))

-- the sheet with the node of a place
abbrev pub with_node : List CommandView → List Way → List Exit → Sheet → Chain → Sheet
with_node commands ways exits sheet chain =
    record { nodes = sheet.nodes ++ node_with commands ways exits chain.blocks ∷ []; tables = chain.tables }

abbrev pub unless_fault : Option GraphFault → Result Sheet GraphFault → Result Sheet GraphFault
unless_fault (Some fault) later = Err fault
unless_fault None later = later

abbrev pub with_place : List CommandView → List Way → ℕ → Sheet → Site → Result Sheet GraphFault
with_place commands ways number sheet site =
    unless_fault (place_fault commands ways number site)
    (and_then (λ (chain : Chain). Ok (with_node commands ways site.exits sheet chain))
    (chain_of commands ways site sheet.tables))

-- the sheet with the nodes of these places, the first of which has a number
abbrev pub drawn : List CommandView → List Way → ℕ → Sheet → List Site → Result Sheet GraphFault
drawn commands ways number sheet [] = Ok sheet
drawn commands ways number sheet (site ∷ sites) =
    and_then (λ next. drawn commands ways (number + 1) next sites) (with_place commands ways number sheet site)

-- the first command of a place with a number
abbrev pub command_at : List Site → ℕ → ℕ
command_at sites number =
    option_map_or (λ (site : Site). first_command site.positions) (slice_get sites number) 0

-- why a sheet is no grammar
abbrev pub graph_fault : List Site → GrammarFault → GraphFault
graph_fault sites faults.TooMany = record { command = 0; other = 0; reason = ManyTables }
graph_fault sites (faults.ChainLong number) =
    record { command = command_at sites number; other = command_at sites number; reason = LongChain }
graph_fault sites fault = record { command = 0; other = 0; reason = NotDrawn }

abbrev pub graph_by : List Site → Graph → Option GrammarFault → Result Graph GraphFault
graph_by sites graph None = Ok graph
graph_by sites graph (Some fault) = Err (graph_fault sites fault)

abbrev pub graph_of_sheet : List Site → Sheet → Result Graph GraphFault
graph_of_sheet sites sheet =
    graph_by sites (record { nodes = sheet.nodes; tables = sheet.tables })
    (first_fault (record { nodes = sheet.nodes; tables = sheet.tables }))

abbrev pub unless_bad : Option ℕ → Result Graph GraphFault → Result Graph GraphFault
unless_bad (Some command) later = Err (record { command = command; other = command; reason = BadHelp })
unless_bad None later = later

-- [language-graph] the grammar of commands with these ways and places, or the first fault
unfoldable pub graph_of : List CommandView → List Way → List Site → Result Graph GraphFault
graph_of commands ways sites =
    unless_bad (bad_help 0 commands)
    (and_then (graph_of_sheet sites) (drawn commands ways 0 (record { nodes = []; tables = [] }) sites))
