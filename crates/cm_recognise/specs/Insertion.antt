-- What recognition puts into a line (COMND's recognition).
use Rattle.std.specs.Prelude.{ℕ, ◌+◌, ◌==◌, ◌&&◌, Bool, true, false, if◌then◌else◌, nat_lt, nat_le, List, [], ◌∷◌, ◌++◌, length, drop, Option, Some, None, slice_get}
use Rattle.std.specs.Option.{option_map_or}
use Rattle.cm_text.specs.declared.text.TheConstants.{LINE_LIMIT}
use Rattle.cm_blocks.specs.declared.field.Ending.{Ending}
use Rattle.cm_blocks.specs.declared.field.Ending.TheVariants as ending
use Rattle.cm_blocks.specs.declared.function.Function.{Function}
use Rattle.cm_blocks.specs.declared.function.Function.TheVariants.{Directory, InFile, AnyFile, Noise}
use Rattle.cm_blocks.specs.declared.node.Block.{Block}
use Rattle.cm_blocks.specs.declared.node.Node.{Node}
use Rattle.cm_blocks.specs.FieldView.{FieldView}
use Rattle.cm_blocks.specs.Grammar.{Graph}
use Rattle.cm_blocks.specs.Setting.{Setting}
use Rattle.cm_recognise.specs.declared.insertion.Insertion.{Insertion}
use Rattle.cm_recognise.specs.declared.insertion.Mode.{Mode}
use Rattle.cm_recognise.specs.declared.insertion.Mode.TheVariants as modes
use Rattle.cm_recognise.specs.declared.outcome.Outcome.{Outcome}
use Rattle.cm_recognise.specs.declared.outcome.Outcome.TheVariants.{Nothing, Part, Piece, Whole}
use Rattle.cm_recognise.specs.Outcome.{guide, outcome}

-- no bytes, and a bell
abbrev pub bell_only : Insertion
bell_only = record { bytes = []; bell = true }

-- the guide word that a block reads, as it is typed, and a space
abbrev pub guide_after : Function → List ℕ
guide_after (Noise text) = guide text ++ 32 ∷ []
guide_after function = []

-- the guide word with which a node begins
abbrev pub guide_of : Option Node → List ℕ
guide_of None = []
guide_of (Some node) = option_map_or (λ (block : Block). guide_after block.function) (slice_get node.chain 0) []

-- what is after a field that is whole: a space, and the guide word with which the next node begins
abbrev pub after : Graph → ℕ → List ℕ
after graph next = 32 ∷ guide_of (slice_get graph.nodes next)

-- what one outcome puts in; what several share rings, and where they share nothing the next block is asked
abbrev pub put_in : Graph → Outcome → Option Insertion
put_in graph Nothing = None
put_in graph (Part bytes) = if length bytes == 0 then None else Some (record { bytes = bytes; bell = true })
put_in graph (Piece bytes) = Some (record { bytes = bytes; bell = false })
put_in graph (Whole bytes next) = Some (record { bytes = bytes ++ after graph next; bell = false })

-- the first of two that puts anything in
abbrev pub or_put : Option Insertion → Option Insertion → Option Insertion
or_put None later = later
or_put (Some insertion) later = Some insertion

-- control-F asks those that read files that are there, or directories, alone
abbrev pub is_asked : Mode → Function → Bool
is_asked modes.Escape function = true
is_asked modes.Part InFile = true
is_asked modes.Part AnyFile = true
is_asked modes.Part Directory = true
is_asked modes.Part function = false

-- what one block puts in
abbrev pub block_put : Setting → List FieldView → Mode → List ℕ → ℕ → Block → Option Insertion
block_put s fields mode atom at block =
    if is_asked mode block.function then put_in s.graph (outcome s fields mode block atom at) else None

-- the first of these blocks that puts anything in
abbrev pub first_put : Setting → List FieldView → Mode → List ℕ → ℕ → List Block → Option Insertion
first_put s fields mode atom at [] = None
first_put s fields mode atom at (block ∷ more) =
    or_put (block_put s fields mode atom at block) (first_put s fields mode atom at more)

-- where nothing is typed the default of the node, and a space
abbrev pub default_put : List ℕ → Option (List ℕ) → Option Insertion
default_put atom None = None
default_put atom (Some text) =
    if length atom == 0 then Some (record { bytes = text ++ 32 ∷ []; bell = false }) else None

-- ESC takes the default, and else asks the blocks from this one on, as control-F does
abbrev pub asked : Setting → List FieldView → Mode → Node → ℕ → List ℕ → ℕ → Option Insertion
asked s fields modes.Escape node block atom at =
    or_put (default_put atom node.default) (first_put s fields modes.Escape atom at (drop block node.chain))
asked s fields modes.Part node block atom at = first_put s fields modes.Part atom at (drop block node.chain)

-- what does not fit into a line of so many bytes is not put in
abbrev pub fitted : ℕ → Option Insertion → Insertion
fitted size None = bell_only
fitted size (Some insertion) = if nat_le (size + length insertion.bytes) LINE_LIMIT then insertion else bell_only

-- at this place of the line the blocks of a node wait from this one on
abbrev pub at_block : Setting → List FieldView → Mode → List ℕ → ℕ → Option ℕ → Option Node → Option Insertion
at_block s fields mode line at None found = None
at_block s fields mode line at (Some block) None = None
at_block s fields mode line at (Some block) (Some node) = asked s fields mode node block (drop at line) at

-- [completion] what is put into a line with room whose parse has these fields and ends so; a place that is none of the
-- line gives nothing
unfoldable pub insertion : Setting → List FieldView → Ending → List ℕ → Mode → Insertion
insertion s fields (ending.Open place) line mode =
    if nat_lt (length line) LINE_LIMIT && nat_le place.at (length line)
    then fitted (length line) (at_block s fields mode line place.at place.block (slice_get s.graph.nodes place.node))
    else bell_only
insertion s fields ending.Done line mode = bell_only
insertion s fields (ending.Fault fault) line mode = bell_only
