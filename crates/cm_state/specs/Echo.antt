-- The bytes that one key shows.
use Rattle.std.specs.Prelude.{ℕ, ◌-◌, ◌==◌, Bool, true, false, List, [], ◌∷◌, ◌++◌, length, drop, nat_lt, is_some, codes, if◌then◌else◌, Option, Some, None, slice_get}
use Rattle.std.specs.List.{flat_map, list_any}
use Rattle.cm_text.specs.declared.text.TheConstants.{JOIN, LINE_LIMIT}
use Rattle.cm_text.specs.ScreenBytes.{bell, control_c, end_of_line, question, rubout, screen_byte, shown_byte}
use Rattle.cm_io.specs.Pieces.{times}
use Rattle.cm_line.specs.declared.key.KeyClass.{KeyClass}
use Rattle.cm_line.specs.declared.key.KeyClass.TheVariants.{Text, End, Join, Rub, Word, Erase, Show, Back, Stop, Escape, Part, Help}
use Rattle.cm_line.specs.Keys.{class_at}
use Rattle.cm_line.specs.Word.{word_start}
use Rattle.cm_fields.specs.declared.code.Code.{Code}
use Rattle.cm_fields.specs.Code.{code_text}
use Rattle.cm_blocks.specs.declared.field.Ending.{Ending}
use Rattle.cm_blocks.specs.declared.field.Ending.TheVariants as ending
use Rattle.cm_blocks.specs.declared.node.Node.{Node}
use Rattle.cm_blocks.specs.Grammar.{Graph}
use Rattle.cm_blocks.specs.Setting.{Setting}
use Rattle.cm_help.specs.Help.{help_text}
use Rattle.cm_state.specs.declared.prompt.Prompt.{Prompt}
use Rattle.cm_state.specs.declared.prompt.Prompt.TheVariants.{Main, Sub, Own, Named}
use Rattle.cm_state.specs.Label.{label_name}
use Rattle.cm_state.specs.SessionState.{SessionState, line_before}
use Rattle.cm_state.specs.Edit.{completed, edited}

-- a line on the screen: it goes on below each hyphen that continued it
abbrev pub screen_line : List ℕ → List ℕ
screen_line line = flat_map shown_byte line

-- [prompt]
unfoldable pub prompt_text : Prompt → List ℕ
prompt_text Main = codes "@"
prompt_text Sub = codes "@@"
prompt_text (Own text) = text.now
prompt_text (Named name after) = label_name name ++ label_name after

-- a line after its prompt
unfoldable pub with_prompt : Prompt → List ℕ → List ℕ
with_prompt prompt line = prompt_text prompt ++ screen_line line

-- the end of the line, and the line again after its prompt
unfoldable pub again : Prompt → List ℕ → List ℕ
again prompt line = end_of_line ++ with_prompt prompt line

-- why a line is refused
unfoldable pub refusal : Code → List ℕ
refusal code = question ++ (code_text code ++ end_of_line)

unfoldable pub missing : List ℕ
missing = codes "?Missing "

-- why a line is refused that ends before the field that a node awaits: by its name, where the node has it, else by the
-- code
abbrev pub omission : Option (List ℕ) → Code → List ℕ
omission None code = refusal code
omission (Some name) code = missing ++ (name ++ end_of_line)

-- what a node awaits, where it names it
abbrev pub awaited : Option Node → Option (List ℕ)
awaited None = None
awaited (Some node) = node.awaits

-- what a finished line shows besides
unfoldable pub complaint : Graph → List ℕ → Ending → List ℕ
complaint graph line (ending.Open place) = []
complaint graph line ending.Done = []
complaint graph line (ending.Fault fault) =
    if fault.at == length line then omission (awaited (slice_get graph.nodes fault.node)) fault.code
    else refusal fault.code

-- a join byte is among these
abbrev pub has_join : List ℕ → Bool
has_join bytes = list_any (λ byte. byte == JOIN) bytes

-- how many bytes of a line a key of this class leaves, where it takes some away
abbrev pub left : KeyClass → List ℕ → ℕ
left Rub line = length line - 1
left Word line = word_start line
left Erase line = 0
left class line = length line

-- and whether a join byte is among those that go
abbrev pub takes_join : KeyClass → List ℕ → Bool
takes_join class line = has_join (drop (left class line) line)

-- from a line of this size to the one that is left: one rubout for each byte that went, or the line again where a row
-- of it went, or a bell where there was none
abbrev pub taken_away : Bool → Prompt → ℕ → List ℕ → List ℕ
taken_away joins prompt before line =
    if before == 0 then bell
    else (if joins then again prompt line else times (before - length line) rubout)

-- a bell, or nothing
unfoldable pub ring : Bool → List ℕ
ring true = bell
ring false = []

-- the echo of a key on a line of this size, from which it took a join byte or not, which control-H had a line to bring
-- back to or not, that left the session so; a key that completes shows the bytes that were added to the line, and rings
-- or not
abbrev pub echo_of : Setting → KeyClass → ℕ → ℕ → Bool → Bool → Bool → SessionState → List ℕ
echo_of s Text key size joins restores rings_bell now = if nat_lt size LINE_LIMIT then screen_byte key ∷ [] else bell
echo_of s Rub key size joins restores rings_bell now = taken_away joins now.prompt size now.line
echo_of s Word key size joins restores rings_bell now = taken_away joins now.prompt size now.line
echo_of s Erase key size joins restores rings_bell now = taken_away joins now.prompt size now.line
echo_of s Show key size joins restores rings_bell now = again now.prompt now.line
echo_of s Help key size joins restores rings_bell now =
    question ++ help_text s now.fields now.ending now.line ++ again now.prompt now.line
echo_of s Back key size joins restores rings_bell now = if restores then screen_line now.line else bell
echo_of s Stop key size joins restores rings_bell now = control_c ++ end_of_line
echo_of s Escape key size joins restores rings_bell now = drop size now.line ++ ring rings_bell
echo_of s Part key size joins restores rings_bell now = drop size now.line ++ ring rings_bell
echo_of s Join key size joins restores rings_bell now = end_of_line
echo_of s End key size joins restores rings_bell now = end_of_line ++ complaint s.graph now.line now.ending
echo_of s class key size joins restores rings_bell now = bell

-- [key-echo] the bytes that a key shows
unfoldable pub echo : Setting → SessionState → ℕ → List ℕ
echo s held key =
    let class = class_at (line_before held) key in
    echo_of s class key (length (line_before held)) (takes_join class (line_before held)) (is_some held.recall)
    (completed s held class).bell (edited s held key)
