-- The classes of bytes.
use Rattle.std.specs.Prelude.{ℕ, ◌-◌, Bool, false, not, ◌&&◌, ◌||◌, ◌==◌, nat_le, List, length, slice_get}
use Rattle.std.specs.Option.{option_map_or}

-- a space, TAB or carriage return
unfoldable pub is_blank : ℕ → Bool
is_blank byte = byte == 32 || byte == 9 || byte == 13

-- one of [ ] < > { } |
unfoldable pub is_sign : ℕ → Bool
is_sign byte =
    byte == 91 || byte == 93 || byte == 60 || byte == 62 || byte == 123 || byte == 125 || byte == 124

-- neither a blank, nor a sign, nor (
unfoldable pub is_plain : ℕ → Bool
is_plain byte = not (is_blank byte) && not (is_sign byte) && not (byte == 40)

-- a blank, or one of 33 to 126: a line has no other byte
unfoldable pub is_fine : ℕ → Bool
is_fine byte = is_blank byte || (nat_le 33 byte && nat_le byte 126)

-- a decimal digit
abbrev pub is_digit : ℕ → Bool
is_digit byte = nat_le 48 byte && nat_le byte 57

-- the last of some bytes is this one
abbrev pub ends_in : ℕ → List ℕ → Bool
ends_in last run = option_map_or (λ (byte : ℕ). byte == last) (slice_get run (length run - 1)) false
