-- The names in a language: of keywords, switches, fields and lists.
use Rattle.std.specs.Prelude.{ℕ, Bool, ◌||◌, ◌==◌, not, nat_lt, if◌then◌else◌, List, length, Result, Ok, Err}
use Rattle.std.specs.Char.{is_ascii_alphanumeric}
use Rattle.std.specs.List.{list_all}
use Rattle.cm_text.specs.declared.name.TheConstants.{NAME_LIMIT}
use Rattle.cm_synopsis.specs.declared.reason.Reason.{Reason}
use Rattle.cm_synopsis.specs.declared.reason.Reason.TheVariants.{BadWord, LongWord, NoName}

-- a letter, a digit, a hyphen, an underscore or a point
unfoldable pub is_name_byte : ℕ → Bool
is_name_byte byte = is_ascii_alphanumeric byte || byte == 45 || byte == 95 || byte == 46

-- a text of one to 39 such bytes is a name
abbrev pub name_of : List ℕ → Result (List ℕ) Reason
name_of text =
    if length text == 0 then Err NoName
    else if not (list_all is_name_byte text) then Err BadWord
    else if nat_lt NAME_LIMIT (length text) then Err LongWord
    else Ok text
