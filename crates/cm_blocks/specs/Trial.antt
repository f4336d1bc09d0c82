-- What one block makes of the rest of a text, and what asking it costs.
use Rattle.std.specs.Prelude.{ℕ, ◌+◌, List, [], slice_get}
use Rattle.std.specs.Option.{option_map_or}
use Rattle.cm_tables.specs.declared.entry.Entry.{Entry}
use Rattle.cm_dates.specs.Date.{date}
use Rattle.cm_fields.specs.declared.trial.Try.{Try}
use Rattle.cm_fields.specs.declared.value.FileKind.TheVariants.{In, Out, Any}
use Rattle.cm_fields.specs.declared.trial.Try.TheVariants.{Accept, Refuse, More}
use Rattle.cm_fields.specs.declared.value.Value.{Value}
use Rattle.cm_fields.specs.declared.value.Value.TheVariants as values
use Rattle.cm_fields.specs.Mark.{comma, confirm}
use Rattle.cm_fields.specs.Numeral.{numeral}
use Rattle.cm_fields.specs.Phrase.{noise, token}
use Rattle.cm_fields.specs.Quoted.{long_quoted, quoted}
use Rattle.cm_fields.specs.Run.{number, run_field, word}
use Rattle.cm_fields.specs.Text.{text_field}
use Rattle.cm_files.specs.declared.flags.Flags.{Flags}
use Rattle.cm_files.specs.Fields.{directory, file, user}
use Rattle.cm_hooks.specs.Field.{hook}
use Rattle.cm_blocks.specs.declared.function.Function.{Function}
use Rattle.cm_blocks.specs.declared.function.Function.TheVariants.{Key, Switch, Noise, Number, Numeral, Word, Run, Quoted, LongQuoted, Token, Date, User, Directory, InFile, OutFile, AnyFile, Text, Comma, Confirm, Hook}
use Rattle.cm_blocks.specs.declared.node.Block.{Block}
use Rattle.cm_blocks.specs.Grammar.{Graph}
use Rattle.cm_blocks.specs.Keyword.{key, switch}
use Rattle.cm_blocks.specs.Setting.{Setting}

-- the table of this number
abbrev pub table_of : Graph → ℕ → List Entry
table_of graph number = option_map_or (λ (table : List Entry). table) (slice_get graph.tables number) []

-- what a function makes of the rest of a text, which begins at this place; the flags say how files and directories
-- are read
unfoldable pub trial : Setting → Function → Flags → List ℕ → ℕ → Try
trial s (Key table) flags rest at = key (table_of s.graph table) rest at
trial s (Switch table) flags rest at = switch (table_of s.graph table) rest at
trial s (Noise text) flags rest at = noise text rest at
trial s Number flags rest at = number rest at
trial s (Numeral numbers) flags rest at = numeral numbers rest at
trial s Word flags rest at = word rest at
trial s (Run set) flags rest at = run_field set rest at
trial s Quoted flags rest at = quoted rest at
trial s LongQuoted flags rest at = long_quoted rest at
trial s (Token text) flags rest at = token text rest at
trial s Date flags rest at = date rest at
trial s User flags rest at = user s.catalogue rest at
trial s Directory flags rest at = directory flags.new s.catalogue rest at
trial s InFile flags rest at = file s.catalogue In flags rest at
trial s OutFile flags rest at = file s.catalogue Out flags rest at
trial s AnyFile flags rest at = file s.catalogue Any flags rest at
trial s Text flags rest at = text_field rest at
trial s Comma flags rest at = comma rest at
trial s Confirm flags rest at = confirm rest at
trial s (Hook id) flags rest at = hook s.meanings id rest at

-- how many bytes it looked at, of so many
abbrev pub looked_of : ℕ → Try → ℕ
looked_of size (Accept value looked end) = looked
looked_of size (Refuse code looked) = looked
looked_of size More = size

-- what it costs: the bytes looked at, and one
abbrev pub price : ℕ → Try → ℕ
price size answer = looked_of size answer + 1

-- the node of the entry at a position
abbrev pub entry_next : List Entry → ℕ → ℕ
entry_next table position = option_map_or (λ (entry : Entry). entry.next) (slice_get table position) 0

-- the node that follows a keyword or a switch of this function
abbrev pub keyword_next : Graph → Function → ℕ → ℕ → ℕ
keyword_next graph (Key table) next position = entry_next (table_of graph table) position
keyword_next graph (Switch table) next position = entry_next (table_of graph table) position
keyword_next graph function next position = next

-- the node that follows a field: that of the entry of a keyword or a switch, else that of the block
abbrev pub next_of : Graph → Block → Value → ℕ
next_of graph block (values.Key entry code) = keyword_next graph block.function block.next entry
next_of graph block (values.Switch entry code) = keyword_next graph block.function block.next entry
next_of graph block value = block.next
