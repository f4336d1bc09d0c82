-- What `?` says that a block reads.
use Rattle.std.specs.Prelude.{ℕ, Bool, true, false, ◌&&◌, List, [], ◌∷◌, ◌++◌, drop, filter, unwrap_or, codes, Option, Some, None}
use Rattle.cm_text.specs.ScreenBytes.{end_of_line}
use Rattle.cm_tables.specs.declared.entry.Entry.{Entry}
use Rattle.cm_tables.specs.Listing.{listed_from}
use Rattle.cm_blocks.specs.declared.function.Function.{Function}
use Rattle.cm_blocks.specs.declared.function.Function.TheVariants.{Key, Switch, Noise, Number, Numeral, Word, Run, Quoted, LongQuoted, Token, Date, User, Directory, InFile, OutFile, AnyFile, Text, Comma, Confirm, Hook}
use Rattle.cm_blocks.specs.declared.node.Block.{Block}
use Rattle.cm_blocks.specs.FieldView.{FieldView}
use Rattle.cm_blocks.specs.Grammar.{Graph}
use Rattle.cm_blocks.specs.Once.{may_come}
use Rattle.cm_blocks.specs.Trial.{table_of}
use Rattle.cm_hooks.specs.Meanings.{Meanings}
use Rattle.cm_help.specs.Names.{gap, name_rows}
use Rattle.cm_help.specs.Numbers.{numbers_phrase}

-- the entries of a list stand two places in, switches after their slash
unfoldable pub indent : Bool → List ℕ
indent false = codes "  "
indent true = codes "  /"

-- a colon, or nothing
unfoldable pub colon : Bool → List ℕ
colon true = codes ":"
colon false = []

-- the help of an entry, after two spaces, where it has one
abbrev pub entry_help : Option (List ℕ) → List ℕ
entry_help None = []
entry_help (Some help) = gap ++ help

-- an entry on a line of its own: its text, the colon of a switch that a value follows, and its help
unfoldable pub entry_line : Bool → Entry → List ℕ
entry_line switch entry =
    end_of_line ++ indent switch ++ entry.text ++ colon (switch && entry.colon) ++ entry_help entry.help

-- the entries, each with its position, one after the other
abbrev pub entry_lines : Bool → List (ℕ × Entry) → List ℕ
entry_lines switch [] = []
entry_lines switch (place ∷ more) = entry_line switch place.1 ++ entry_lines switch more

unfoldable pub one_of : List ℕ
one_of = codes "one of the following:"

unfoldable pub none_matches : List ℕ
none_matches = codes "keyword, none matches"

-- the listed entries of a table, from a position on, that go on from an atom, of the positions that may come
abbrev pub choices : (ℕ → Bool) → ℕ → List Entry → List ℕ → List (ℕ × Entry)
choices may from table atom = filter (λ (e : ℕ × Entry). may e.0) (listed_from from table atom)

-- what a list of entries shows, or that there is none
abbrev pub keywords : Bool → List (ℕ × Entry) → List ℕ
keywords switch [] = none_matches
keywords switch (place ∷ more) = one_of ++ entry_lines switch (place ∷ more)

unfoldable pub guide_word : List ℕ
guide_word = codes "guide word ("

unfoldable pub guide_end : List ℕ
guide_end = codes ")"

unfoldable pub quote : List ℕ
quote = codes "\""

-- what a function reads, in its own words, where these positions of its table may come; a switch is told by what is
-- after its slash
unfoldable pub function_phrase : Graph → Meanings → (ℕ → Bool) → Function → List ℕ → List ℕ
function_phrase graph meanings may (Key table) atom = keywords false (choices may 0 (table_of graph table) atom)
function_phrase graph meanings may (Switch table) atom =
    keywords true (choices may 0 (table_of graph table) (drop 1 atom))
function_phrase graph meanings may (Noise text) atom = guide_word ++ text ++ guide_end
function_phrase graph meanings may Number atom = codes "decimal number"
function_phrase graph meanings may (Numeral numbers) atom = numbers_phrase numbers
function_phrase graph meanings may Word atom = codes "word"
function_phrase graph meanings may (Run set) atom = codes "field"
function_phrase graph meanings may Quoted atom = codes "quoted string"
function_phrase graph meanings may LongQuoted atom = codes "quoted string"
function_phrase graph meanings may (Token text) atom = quote ++ text ++ quote
function_phrase graph meanings may Date atom = codes "date, as 5-JAN-1980"
function_phrase graph meanings may User atom = codes "user name"
function_phrase graph meanings may Directory atom = codes "directory name"
function_phrase graph meanings may InFile atom = codes "input file"
function_phrase graph meanings may OutFile atom = codes "output file"
function_phrase graph meanings may AnyFile atom = codes "file specification"
function_phrase graph meanings may Text atom = codes "text to end of line"
function_phrase graph meanings may Comma atom = codes "comma"
function_phrase graph meanings may Confirm atom = codes "confirm with carriage return"
function_phrase graph meanings may (Hook id) atom = meanings.help id

-- what a block reads of which the atom is typed behind these fields, in words: its own, where it has any
abbrev pub words : Graph → Meanings → List FieldView → List ℕ → Block → List ℕ
words graph meanings fields atom block =
    unwrap_or block.help (function_phrase graph meanings (may_come graph fields block) block.function atom)

-- the names that a hook reads, where they are listed
abbrev pub function_names : Meanings → Function → List ℕ → List ℕ
function_names meanings (Hook id) atom = name_rows atom (meanings.names id)
function_names meanings function atom = []

-- what it reads, and the names
abbrev pub phrase : Graph → Meanings → List FieldView → List ℕ → Block → List ℕ
phrase graph meanings fields atom block =
    words graph meanings fields atom block ++ function_names meanings block.function atom
