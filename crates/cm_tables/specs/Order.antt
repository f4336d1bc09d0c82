-- What makes a list of entries a table, and the first fault of one that is none.
use Rattle.std.specs.Prelude.{ℕ, ◌+◌, Bool, true, false, ◌&&◌, ◌||◌, ◌==◌, if◌then◌else◌, nat_lt, List, [], ◌∷◌, length, Option, Some, None, slice_get}
use Rattle.std.specs.List.{list_all}
use Rattle.std.specs.Option.{option_map_or}
use Rattle.std.specs.Char.{is_ascii_alphanumeric}
use Rattle.std.specs.declared.cmp.Ordering.{Ordering}
use Rattle.std.specs.Ordering.{nat_cmp}
use Rattle.std.specs.Cmp.Lexicographic.{slice_cmp}
use Rattle.cm_text.specs.BeginLaws.{lower}
use Rattle.cm_text.specs.Bytes.{is_shown}
use Rattle.cm_text.specs.Case.{begins_with}
use Rattle.cm_tables.specs.Look.{is_recognised}
use Rattle.cm_tables.specs.declared.entry.Entry.{Entry}
use Rattle.cm_tables.specs.declared.entry.Flag.{Flag}
use Rattle.cm_tables.specs.declared.entry.Flag.TheVariants.{Plain, Invisible, NoRecognise, Short}
use Rattle.cm_tables.specs.declared.fault.TheConstants.{ENTRY_LIMIT}
use Rattle.cm_tables.specs.declared.table.TableFault.{TableFault}
use Rattle.cm_tables.specs.declared.table.TableFault.TheVariants.{TooMany, BadText, Repeat, Order, BadTarget, BadHelp}
use Rattle.std.specs.declared.cmp.Ordering.TheVariants.{Less, Equal, Greater}

-- a letter, a digit or a hyphen
abbrev pub is_keyword_byte : ℕ → Bool
is_keyword_byte byte = is_ascii_alphanumeric byte || byte == 45

-- at least one such byte and no other
abbrev pub is_keyword : List ℕ → Bool
is_keyword text = nat_lt 0 (length text) && list_all is_keyword_byte text

-- the order of two texts, with no regard to the case of letters
abbrev pub text_order : List ℕ → List ℕ → Ordering
text_order text other = slice_cmp nat_cmp (lower text) (lower other)

-- the first of two faults
abbrev pub first_fault : Option TableFault → Option TableFault → Option TableFault
first_fault None later = later
first_fault (Some fault) later = Some fault

-- the fault of a text by its order to the text before it
abbrev pub by_order : ℕ → Ordering → Option TableFault
by_order position Less = None
by_order position Equal = Some (Repeat position)
by_order position Greater = Some (Order position)

abbrev pub order_fault : ℕ → Option (List ℕ) → List ℕ → Option TableFault
order_fault position None text = None
order_fault position (Some before) text = by_order position (text_order before text)

-- the fault of the text at a position, after the text before it
abbrev pub text_fault : ℕ → Option (List ℕ) → List ℕ → Option TableFault
text_fault position before text =
    if is_keyword text then order_fault position before text else Some (BadText position)

-- the first fault of the texts from a position on
abbrev pub texts_fault : ℕ → Option (List ℕ) → List Entry → Option TableFault
texts_fault position before [] = None
texts_fault position before (entry ∷ more) =
    first_fault (text_fault position before entry.text) (texts_fault (position + 1) (Some entry.text) more)

-- what a Short entry may stand for: an entry of the table that an abbreviation may stand for, whose text goes
-- on from its own
abbrev pub is_target : List ℕ → Option Entry → Bool
is_target text None = false
is_target text (Some entry) = is_recognised entry.flag && begins_with entry.text text

abbrev pub target_fault : List Entry → ℕ → List ℕ → Flag → Option TableFault
target_fault table position text Plain = None
target_fault table position text Invisible = None
target_fault table position text NoRecognise = None
target_fault table position text (Short target) =
    if is_target text (slice_get table target) then None else Some (BadTarget position)

-- the first fault of the targets from a position on
abbrev pub targets_fault : List Entry → ℕ → List Entry → Option TableFault
targets_fault table position [] = None
targets_fault table position (entry ∷ more) =
    first_fault (target_fault table position entry.text entry.flag) (targets_fault table (position + 1) more)

-- its help, where it has one, is shown as it is
abbrev pub has_help : Entry → Bool
has_help entry = option_map_or is_shown entry.help true

-- the first fault of the helps from a position on
abbrev pub helps_fault : ℕ → List Entry → Option TableFault
helps_fault position [] = None
helps_fault position (entry ∷ more) =
    if has_help entry then helps_fault (position + 1) more else Some (BadHelp position)

-- the first fault of all: the number of entries, then the texts in order, then the targets, then the helps
unfoldable pub table_fault : List Entry → Option TableFault
table_fault table =
    if nat_lt ENTRY_LIMIT (length table) then Some TooMany
    else first_fault (texts_fault 0 None table) (first_fault (targets_fault table 0 table) (helps_fault 0 table))
