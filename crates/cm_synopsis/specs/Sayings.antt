-- What one line of a language says, under what the lines above have said.
use Rattle.std.specs.Prelude.{ℕ, ◌-◌, ◌==◌, ◌&&◌, ◌||◌, Bool, not, nat_le, nat_lt, if◌then◌else◌, List, [], ◌∷◌, ◌++◌, length, take, drop, Option, None, Some, is_some, slice_get, Result, Ok, Err}
use Rattle.std.specs.List.{list_all, list_any, prefix_len}
use Rattle.std.specs.Str.{bytes_eq}
use Rattle.cm_text.specs.Case.{equals}
use Rattle.cm_text.specs.declared.name.TheConstants.{NAME_LIMIT}
use Rattle.cm_synopsis.specs.CommandView.{CommandView}
use Rattle.cm_synopsis.specs.Commands.{command_of, help_fault, help_text, part_count, without_end}
use Rattle.cm_synopsis.specs.Bytes.{is_blank}
use Rattle.cm_synopsis.specs.Kinds.{known_kind}
use Rattle.cm_synopsis.specs.LineKinds.{line_kind}
use Rattle.cm_synopsis.specs.Names.{name_of}
use Rattle.cm_synopsis.specs.Words.{word_text, words}
use Rattle.cm_synopsis.specs.declared.cut.Word.{Word}
use Rattle.cm_synopsis.specs.declared.kinds.LineKind.{LineKind}
use Rattle.cm_synopsis.specs.declared.kinds.LineKind.TheVariants as kinds
use Rattle.cm_synopsis.specs.declared.fault.Fault.{Fault}
use Rattle.cm_synopsis.specs.declared.reason.Reason.{Reason}
use Rattle.cm_synopsis.specs.declared.reason.Reason.TheVariants.{BadByte, LongWord, ManyLists, ManyWords, NoHelp, NoName, SameList, SameName, SecondPrompt}
use Rattle.cm_synopsis.specs.declared.line.Saying.{Saying}
use Rattle.cm_synopsis.specs.declared.line.Saying.TheVariants as sayings
use Rattle.cm_synopsis.specs.declared.line.TheConstants.{HELP_WORD_LIMIT, LIST_LIMIT}

-- a byte that a prompt may have
abbrev pub is_print : ℕ → Bool
is_print byte = nat_le 32 byte && nat_le byte 126

-- what is made of a result, where it is one
abbrev pub and_then : {A B : Type 0} → (A → Result B Fault) → Result A Fault → Result B Fault
and_then after (Ok value) = after value
and_then after (Err fault) = Err fault

-- the end of a line from a place on, without the blanks in front
abbrev pub behind : List ℕ → ℕ → List ℕ
behind line at = drop (prefix_len is_blank (drop at line)) (drop at line)

-- the prompt that the end of a line is: one to 39 such bytes
abbrev pub prompt_of : List ℕ → List ℕ → Result Saying Fault
prompt_of line from =
    if length (without_end from) == 0 then Err (record { place = length line; reason = NoName })
    else if not (list_all is_print (without_end from))
    then Err (record { place = length line - (length from - prefix_len is_print from); reason = BadByte })
    else if nat_lt NAME_LIMIT (length (without_end from))
    then Err (record { place = length line - length from; reason = LongWord })
    else Ok (sayings.Prompt (without_end from))

-- the name that a word of a line is
abbrev pub at_place : ℕ → Result (List ℕ) Reason → Result (List ℕ) Fault
at_place place (Ok name) = Ok name
at_place place (Err reason) = Err (record { place = place; reason = reason })

abbrev pub word_name : List ℕ → Word → Result (List ℕ) Fault
word_name line word = at_place word.start (name_of (word_text line word))

-- a name that none of these is, with no regard to the case of letters
abbrev pub unless_there : ℕ → List (List ℕ) → List ℕ → Result (List ℕ) Fault
unless_there place names name =
    if list_any (λ (other : List ℕ). equals other name) names
    then Err (record { place = place; reason = SameName }) else Ok name

-- these names, and those that words are
abbrev pub names_after : List ℕ → List (List ℕ) → List Word → Result (List (List ℕ)) Fault
names_after line names [] = Ok names
names_after line names (word ∷ more) =
    and_then (λ (name : List ℕ). names_after line (names ++ name ∷ []) more)
    (and_then (unless_there word.start names) (word_name line word))

-- a list has a name that no list above has, and no kind of field
abbrev pub is_taken : List (List ℕ) → List ℕ → Bool
is_taken lists name = is_some (known_kind name) || list_any (λ (other : List ℕ). bytes_eq other name) lists

abbrev pub unless_taken : ℕ → List (List ℕ) → List ℕ → Result (List ℕ) Fault
unless_taken place lists name =
    if is_taken lists name then Err (record { place = place; reason = SameList }) else Ok name

abbrev pub list_named : List ℕ → List Word → List ℕ → Result Saying Fault
list_named line more name =
    and_then (λ (names : List (List ℕ)). Ok (sayings.Listing name names)) (names_after line [] more)

-- the list that a line tells: its name, and the names that it has from the start
abbrev pub list_by : List (List ℕ) → List ℕ → List Word → Option Word → Result Saying Fault
list_by lists line more None = Err (record { place = length line; reason = NoName })
list_by lists line more (Some word) =
    and_then (list_named line more) (and_then (unless_taken word.start lists) (word_name line word))

abbrev pub list_of : List (List ℕ) → List ℕ → List Word → Result Saying Fault
list_of lists line all =
    if nat_le LIST_LIMIT (length lists) then Err (record { place = 0; reason = ManyLists })
    else list_by lists line (drop 2 all) (slice_get all 1)

-- the next keyword before a help, of which there are not too many
abbrev pub next_keyword : List ℕ → ℕ → Word → Result (List ℕ) Fault
next_keyword line count word =
    if nat_le HELP_WORD_LIMIT count then Err (record { place = word.start; reason = ManyWords })
    else word_name line word

-- the keywords before the help
abbrev pub path_names : List ℕ → List (List ℕ) → List Word → Result (List (List ℕ)) Fault
path_names line names [] = Ok names
path_names line names (word ∷ more) =
    and_then (λ (name : List ℕ). path_names line (names ++ name ∷ []) more) (next_keyword line (length names) word)

abbrev pub help_with : List (List ℕ) → Result (List ℕ) Fault → Result Saying Fault
help_with path (Ok text) = Ok (sayings.Help (record { path = path; text = text }))
help_with path (Err fault) = Err fault

-- a text, where nothing is wrong with it
abbrev pub unless_fault : Option Fault → List ℕ → Result (List ℕ) Fault
unless_fault (Some fault) text = Err fault
unless_fault None text = Ok text

-- the help behind two hyphens, which are there
abbrev pub told_help : List ℕ → Option Word → Result (List ℕ) Fault
told_help line None = Err (record { place = length line; reason = NoHelp })
told_help line (Some word) = unless_fault (help_fault line (Some word)) (help_text line (Some word))

abbrev pub helped : List ℕ → Option Word → List (List ℕ) → Result Saying Fault
helped line dashes path =
    if length path == 0 then Err (record { place = length line; reason = NoName })
    else help_with path (told_help line dashes)

-- the help that a line tells, whose keywords are so many words but the first
abbrev pub help_line : List ℕ → List Word → ℕ → Result Saying Fault
help_line line all count =
    and_then (helped line (slice_get all count)) (path_names line [] (drop 1 (take count all)))

abbrev pub command_line : Result CommandView Fault → Result Saying Fault
command_line (Ok command) = Ok (sayings.Command command)
command_line (Err fault) = Err fault

-- what a line of a kind says: the lists that stand above, and whether a prompt does
abbrev pub saying_by : LineKind → List (List ℕ) → Bool → List ℕ → Result Saying Fault
saying_by kinds.Prompt lists prompted line =
    if prompted then Err (record { place = 0; reason = SecondPrompt })
    else prompt_of line (behind line 6)
saying_by kinds.Names lists prompted line = list_of lists line (words line)
saying_by kinds.Help lists prompted line = help_line line (words line) (part_count line (words line))
saying_by kinds.Command lists prompted line = command_line (command_of lists line)
saying_by kind lists prompted line = Ok sayings.Nothing

unfoldable pub saying_of : List (List ℕ) → Bool → List ℕ → Result Saying Fault
saying_of lists prompted line = saying_by (line_kind line) lists prompted line
