-- What `?` shows of a line (COMND's help).
use Rattle.std.specs.Prelude.{ℕ, Bool, true, false, not, if◌then◌else◌, nat_le, List, [], ◌∷◌, ◌++◌, ◌==◌, ◌&&◌, length, drop, map, filter, codes, Option, Some, None, slice_get}
use Rattle.std.specs.List.{flat_map}
use Rattle.cm_text.specs.ScreenBytes.{end_of_line}
use Rattle.cm_fields.specs.declared.trial.Try.{Try}
use Rattle.cm_fields.specs.declared.trial.Try.TheVariants.{Accept, Refuse, More}
use Rattle.cm_fields.specs.Code.{code_text}
use Rattle.cm_hooks.specs.Meanings.{Meanings}
use Rattle.cm_blocks.specs.declared.field.Ending.{Ending}
use Rattle.cm_blocks.specs.declared.field.Ending.TheVariants as ending
use Rattle.cm_blocks.specs.declared.function.Function.{Function}
use Rattle.cm_blocks.specs.declared.function.Function.TheVariants.{Noise}
use Rattle.cm_blocks.specs.declared.node.Block.{Block}
use Rattle.cm_blocks.specs.declared.node.Node.{Node}
use Rattle.cm_blocks.specs.FieldView.{FieldView}
use Rattle.cm_blocks.specs.Grammar.{Graph}
use Rattle.cm_blocks.specs.Setting.{Setting}
use Rattle.cm_blocks.specs.Trial.{trial}
use Rattle.cm_help.specs.Phrase.{phrase}

-- a trial refuses
abbrev pub refuses : Try → Bool
refuses (Accept value looked end) = false
refuses (Refuse code looked) = true
refuses More = false

-- those of the blocks that do not refuse what is typed, from this place to the end of the line
abbrev pub possible : Setting → List ℕ → ℕ → List Block → List Block
possible s atom at blocks =
    filter (λ (block : Block). not (refuses (trial s block.function block.flags atom at))) blocks

-- the phrases of all blocks of a node, of which nothing is typed
abbrev pub node_phrases : Graph → Meanings → List FieldView → Option Node → List (List ℕ)
node_phrases graph meanings fields None = []
node_phrases graph meanings fields (Some node) = map (phrase graph meanings fields []) node.chain

abbrev pub is_guide : Function → Bool
is_guide (Noise text) = true
is_guide function = false

-- after a guide word of which nothing is typed, and which may be left out, the blocks of its next node may come too
abbrev pub after_guide : Graph → Meanings → List FieldView → Block → List ℕ → List (List ℕ)
after_guide graph meanings fields block atom =
    if is_guide block.function && length atom == 0
    then node_phrases graph meanings fields (slice_get graph.nodes block.next)
    else []

-- the phrases that a block gives
abbrev pub phrases : Graph → Meanings → List FieldView → List ℕ → Block → List (List ℕ)
phrases graph meanings fields atom block =
    phrase graph meanings fields atom block ∷ after_guide graph meanings fields block atom

-- the first phrase is after a space, each further one on a line of its own
unfoldable pub lead : Bool → List ℕ
lead true = codes " "
lead false = end_of_line ++ codes " or "

-- phrases, the first of which is the first of all, or not
abbrev pub listing : Bool → List (List ℕ) → List ℕ
listing first [] = []
listing first (phrase ∷ more) = (lead first ++ phrase) ++ listing false more

unfoldable pub comment : List ℕ
comment = codes " comment"

-- what may come where the blocks of a node wait from this one on
abbrev pub waiting : Setting → List FieldView → Node → ℕ → List ℕ → ℕ → List ℕ
waiting s fields node block atom at =
    listing true (flat_map (phrases s.graph s.meanings fields atom) (possible s atom at (drop block node.chain)))

-- what may come at this place of the line; where no block waits, a comment is not ended
abbrev pub at_place : Setting → List FieldView → List ℕ → ℕ → Option ℕ → Option Node → List ℕ
at_place s fields line at None found = comment
at_place s fields line at (Some block) None = []
at_place s fields line at (Some block) (Some node) = waiting s fields node block (drop at line) at

-- [question-mark]
-- what may come after a line of these fields whose parse ends so, or why it is refused; a place that is none of the
-- line gives nothing
unfoldable pub help_text : Setting → List FieldView → Ending → List ℕ → List ℕ
help_text s fields (ending.Open place) line =
    if nat_le place.at (length line)
    then at_place s fields line place.at place.block (slice_get s.graph.nodes place.node)
    else []
help_text s fields ending.Done line = []
help_text s fields (ending.Fault fault) line = lead true ++ code_text fault.code
