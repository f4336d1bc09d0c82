-- How a field goes on that a block has begun to read (COMND's recognition).
use Rattle.std.specs.Prelude.{ℕ, ◌≤◌, ◌==◌, ◌&&◌, Bool, true, false, if◌then◌else◌, List, [], ◌∷◌, ◌++◌, length, slice_get}
use Rattle.std.specs.Option.{option_map_or}
use Rattle.cm_text.specs.Case.{begins_with}
use Rattle.cm_tables.specs.declared.entry.Entry.{Entry}
use Rattle.cm_tables.specs.declared.table.Look.{Look}
use Rattle.cm_tables.specs.declared.table.Look.TheVariants as looks
use Rattle.cm_fields.specs.declared.trial.Try.{Try}
use Rattle.cm_fields.specs.declared.value.FileKind.TheVariants.{In, Any}
use Rattle.cm_fields.specs.declared.trial.Try.TheVariants.{Accept, Refuse, More}
use Rattle.cm_hooks.specs.declared.answer.Tail.{Tail}
use Rattle.cm_hooks.specs.declared.answer.Tail.TheVariants as tails
use Rattle.cm_files.specs.declared.flags.Flags.{Flags}
use Rattle.cm_blocks.specs.declared.function.Function.{Function}
use Rattle.cm_blocks.specs.declared.function.Function.TheVariants.{Key, Switch, Noise, Token, User, Directory, InFile, AnyFile, Hook}
use Rattle.cm_blocks.specs.declared.node.Block.{Block}
use Rattle.cm_blocks.specs.FieldView.{FieldView}
use Rattle.cm_blocks.specs.Keyword.{has_colon}
use Rattle.cm_blocks.specs.Setting.{Setting}
use Rattle.cm_blocks.specs.Trial.{entry_next, table_of, trial}
use Rattle.cm_recognise.specs.declared.insertion.Mode.{Mode}
use Rattle.cm_recognise.specs.declared.outcome.Outcome.{Outcome}
use Rattle.cm_recognise.specs.declared.outcome.Outcome.TheVariants.{Nothing, Part, Piece, Whole}
use Rattle.cm_recognise.specs.FileOutcome.{directory_outcome, file_outcome, user_outcome}
use Rattle.cm_recognise.specs.Candidates.{missing}
use Rattle.cm_recognise.specs.Capitals.{in_case}
use Rattle.cm_recognise.specs.Remaining.{common_among, has_text_among, look_among, remains}

-- the text of the entry at a position
abbrev pub text_at : List Entry → ℕ → List ℕ
text_at table position = option_map_or (λ (entry : Entry). entry.text) (slice_get table position) []

-- the rest of the entry's text, in capitals after capitals, and after a switch that a value follows its colon
abbrev pub entry_outcome : Bool → List Entry → List ℕ → ℕ → Outcome
entry_outcome colon table atom position =
    if colon then Piece (in_case atom (missing (text_at table position) atom) ++ 58 ∷ [])
    else Whole (in_case atom (missing (text_at table position) atom)) (entry_next table position)

-- what several share; an entry that cannot be recognised and has the atom for its text lets it stand
abbrev pub shared_outcome : Bool → List ℕ → List ℕ → Outcome
shared_outcome has atom shared = if has then Nothing else Part (in_case atom shared)

-- the one entry that the look-up gives, or what several share
abbrev pub look_outcome : Bool → List Entry → List ℕ → Outcome → Look → Outcome
look_outcome switch table atom several looks.None = Nothing
look_outcome switch table atom several looks.Ambiguous = several
look_outcome switch table atom several (looks.Abbrev position) =
    entry_outcome (switch && has_colon table position) table atom position
look_outcome switch table atom several (looks.Exact position) =
    entry_outcome (switch && has_colon table position) table atom position

-- [once] a keyword, of the entries of its table that remain
abbrev pub keyword_outcome : Bool → (ℕ × Entry → Bool) → List Entry → List ℕ → Outcome
keyword_outcome switch left table atom =
    look_outcome switch table atom
    (shared_outcome (has_text_among left table atom) atom (common_among left table atom)) (look_among left table atom)

-- after the slash a switch goes on as a keyword does
abbrev pub switch_outcome : (ℕ × Entry → Bool) → List Entry → List ℕ → Outcome
switch_outcome left table [] = Nothing
switch_outcome left table (byte ∷ atom) = if byte == 47 then keyword_outcome true left table atom else Nothing

-- the rest of a fixed text that begins with the atom
abbrev pub phrase_outcome : List ℕ → ℕ → List ℕ → Outcome
phrase_outcome text next atom = if begins_with text atom then Whole (missing text atom) next else Nothing

-- a guide word as it is typed
abbrev pub guide : List ℕ → List ℕ
guide text = 40 ∷ text ++ 41 ∷ []

-- a trial on the atom and a space takes a field: then nothing is missing
abbrev pub plain_outcome : ℕ → Try → Outcome
plain_outcome next (Accept value looked end) = Whole [] next
plain_outcome next (Refuse code looked) = Nothing
plain_outcome next More = Nothing

-- what the hook itself says of the atom
abbrev pub hook_outcome : ℕ → Outcome → Tail → Outcome
hook_outcome next plain tails.None = plain
hook_outcome next plain (tails.Part text) = Part text
hook_outcome next plain (tails.Whole text) = Whole text next

-- by what the block reads, and which entries of its table are left, and for a file and a directory by its flags and
-- the key that completes; `plain` is the outcome of its own trial
abbrev pub by_function
    : Setting → Mode → (ℕ × Entry → Bool) → Function → Flags → ℕ → List ℕ → Outcome → Outcome
by_function s mode left (Key table) flags next atom plain =
    keyword_outcome false left (table_of s.graph table) atom
by_function s mode left (Switch table) flags next atom plain = switch_outcome left (table_of s.graph table) atom
by_function s mode left (Noise text) flags next atom plain = phrase_outcome (guide text) next atom
by_function s mode left (Token text) flags next atom plain =
    if length atom == 0 then Nothing else phrase_outcome text next atom
by_function s mode left User flags next atom plain = user_outcome s.catalogue next atom
by_function s mode left Directory flags next atom plain = directory_outcome s.catalogue flags.new next atom plain
by_function s mode left InFile flags next atom plain =
    file_outcome s.catalogue (record { mode = mode; kind = In; flags = flags; next = next }) atom plain
by_function s mode left AnyFile flags next atom plain =
    file_outcome s.catalogue (record { mode = mode; kind = Any; flags = flags; next = next }) atom plain
by_function s mode left (Hook id) flags next atom plain =
    if length atom == 0 then Nothing else hook_outcome next plain (s.meanings.completion id atom)
by_function s mode left function flags next atom plain = plain

-- an outcome has at most so many bytes
abbrev pub IsShort : ℕ → Outcome → Type 0
IsShort most Nothing = Unit {0}
IsShort most (Part bytes) = length bytes ≤ most
IsShort most (Piece bytes) = length bytes ≤ most
IsShort most (Whole bytes next) = length bytes ≤ most

-- how the field of a block goes on, behind these fields, of which the atom is typed, from this place to the end of the
-- line
unfoldable pub outcome : Setting → List FieldView → Mode → Block → List ℕ → ℕ → Outcome
outcome s fields mode block atom at =
    by_function s mode (remains s.graph fields block) block.function block.flags block.next atom
    (plain_outcome block.next (trial s block.function block.flags (atom ++ 32 ∷ []) at))
