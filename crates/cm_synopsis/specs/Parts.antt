-- The parts of a command, each the meaning of one word.
use Rattle.std.specs.Prelude.{ℕ, ◌+◌, ◌-◌, ◌*◌, ◌==◌, Bool, false, not, ◌&&◌, nat_le, nat_lt, if◌then◌else◌, List, [], ◌∷◌, length, take, drop, codes, Option, None, Some, option_and_then, Result, Ok, Err}
use Rattle.std.specs.List.{list_all, prefix_len}
use Rattle.std.specs.Str.{bytes_eq}
use Rattle.cm_text.specs.declared.name.TheConstants.{NAME_LIMIT}
use Rattle.cm_synopsis.specs.Bytes.{ends_in, is_digit, is_fine, is_sign}
use Rattle.cm_synopsis.specs.Kinds.{inside, kinds_of}
use Rattle.cm_synopsis.specs.Names.{name_of}
use Rattle.cm_synopsis.specs.declared.field.Kind.{Kind}
use Rattle.cm_synopsis.specs.declared.part.Bracket.TheVariants.{AnyOrder, Choice, Optional}
use Rattle.cm_synopsis.specs.declared.part.Part.{Part}
use Rattle.cm_synopsis.specs.declared.part.Part.TheVariants.{Again, Close, Field, Guide, Keyword, Lead, Open, Or, Range, Switch}
use Rattle.cm_synopsis.specs.declared.part.TheConstants.{NUMBER_LIMIT}
use Rattle.cm_synopsis.specs.declared.reason.Reason.{Reason}
use Rattle.cm_synopsis.specs.declared.reason.Reason.TheVariants.{BadByte, BadRange, LongWord, NoName, OpenGuide}

-- where the first such byte is: behind the last where there is none
abbrev pub place_before : ℕ → List ℕ → ℕ
place_before last text = prefix_len (λ byte. not (byte == last)) text

-- what is in the parentheses of a guide word: one to 39 bytes
abbrev pub guide_of : Option (List ℕ) → Result Part Reason
guide_of None = Err OpenGuide
guide_of (Some text) =
    if length text == 0 then Err NoName
    else if nat_lt NAME_LIMIT (length text) then Err LongWord
    else Ok (Guide text)

-- each sign is a part
abbrev pub sign_part : ℕ → Part
sign_part sign =
    if sign == 91 then Open Optional
    else if sign == 60 then Open Choice
    else if sign == 123 then Open AnyOrder
    else if sign == 93 then Close Optional
    else if sign == 62 then Close Choice
    else if sign == 125 then Close AnyOrder
    else Or

-- a part of a name
abbrev pub named : (List ℕ → Part) → Result (List ℕ) Reason → Result Part Reason
named part (Ok name) = Ok (part name)
named part (Err reason) = Err reason

-- what is behind the slash of a switch: a name, and a colon where a field follows
abbrev pub switch_of : List ℕ → Result Part Reason
switch_of text =
    if ends_in 58 text then named Lead (name_of (take (length text - 1) text)) else named Switch (name_of text)

-- a field has a name and kinds
abbrev pub field_of : Result (List ℕ) Reason → Result (List Kind) Reason → Result Part Reason
field_of (Err reason) kinds = Err reason
field_of (Ok name) (Err reason) = Err reason
field_of (Ok name) (Ok kinds) = Ok (Field name kinds)

-- a number with one digit more, up to the limit
abbrev pub next_number : ℕ → ℕ → Option ℕ
next_number number byte =
    if not (is_digit byte) then None
    else if nat_lt NUMBER_LIMIT (number * 10 + (byte - 48)) then None
    else Some (number * 10 + (byte - 48))

abbrev pub number_after : ℕ → List ℕ → Option ℕ
number_after number [] = Some number
number_after number (byte ∷ bytes) = option_and_then (λ next. number_after next bytes) (next_number number byte)

-- the number that one digit or more write
abbrev pub number_of : List ℕ → Option ℕ
number_of digits = if length digits == 0 then None else number_after 0 digits

-- a range from one number to another that is not less
abbrev pub ranged : Option ℕ → Option ℕ → Result Part Reason
ranged None high = Err BadRange
ranged (Some low) None = Err BadRange
ranged (Some low) (Some high) = if nat_le low high then Ok (Range low high) else Err BadRange

-- the first byte is a digit
abbrev pub begins_in_digit : List ℕ → Bool
begins_in_digit [] = false
begins_in_digit (byte ∷ bytes) = is_digit byte

-- behind a field of numbers, what begins in a digit and has a hyphen is a range; any other word is a keyword
abbrev pub plain_part : Bool → List ℕ → Result Part Reason
plain_part numbered text =
    if numbered && begins_in_digit text && nat_lt (place_before 45 text) (length text)
    then ranged (number_of (take (place_before 45 text) text)) (number_of (drop (place_before 45 text + 1) text))
    else named Keyword (name_of text)

-- two points repeat a field, and a word with a colon is one
abbrev pub word_part : List (List ℕ) → Bool → List ℕ → Result Part Reason
word_part lists numbered text =
    if bytes_eq text (codes "..") then Ok Again
    else if nat_lt (place_before 58 text) (length text)
    then field_of (name_of (take (place_before 58 text) text)) (kinds_of lists (drop (place_before 58 text + 1) text))
    else plain_part numbered text

-- the part that a word is, under the lists that stand above, behind a field of numbers or not
unfoldable pub part_of : List (List ℕ) → Bool → List ℕ → Result Part Reason
part_of lists numbered [] = Err NoName
part_of lists numbered (byte ∷ bytes) =
    if byte == 40 then guide_of (inside 41 (byte ∷ bytes))
    else if byte == 47 then switch_of bytes
    else if is_sign byte then Ok (sign_part byte)
    else word_part lists numbered (byte ∷ bytes)

-- no line has a byte that is neither a blank nor one of 33 to 126
abbrev pub read_part : List (List ℕ) → Bool → List ℕ → Result Part Reason
read_part lists numbered text =
    if not (list_all is_fine text) then Err BadByte else part_of lists numbered text
