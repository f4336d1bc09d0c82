-- The classes of bytes.
use Rattle.std.specs.Prelude.{ℕ, Bool, not, ◌&&◌, ◌||◌, ◌==◌, nat_le, List}
use Rattle.std.specs.List.{list_all}
use Rattle.std.specs.Char.{is_ascii_alphanumeric}
use Rattle.cm_text.specs.declared.text.TheConstants.{JOIN}

-- TAB, or from space to tilde, but no question mark
unfoldable pub is_text : ℕ → Bool
is_text byte = (byte == 9 || (nat_le 32 byte && nat_le byte 126)) && not (byte == 63)

-- from space to tilde, but no question mark
abbrev pub is_shown_byte : ℕ → Bool
is_shown_byte byte = nat_le 32 byte && nat_le byte 126 && not (byte == 63)

-- a text of such bytes alone, which is shown as it is
abbrev pub is_shown : List ℕ → Bool
is_shown text = list_all is_shown_byte text

-- a text byte, or the join byte, which continues the line
unfoldable pub is_line_byte : ℕ → Bool
is_line_byte byte = is_text byte || byte == JOIN

-- a letter, a digit or a hyphen
unfoldable pub is_word : ℕ → Bool
is_word byte = is_ascii_alphanumeric byte || byte == 45

-- a word byte, a dollar sign or an underscore
unfoldable pub is_name : ℕ → Bool
is_name byte = is_word byte || byte == 36 || byte == 95

-- a space, TAB or join byte
unfoldable pub is_blank : ℕ → Bool
is_blank byte = byte == 32 || byte == 9 || byte == JOIN
