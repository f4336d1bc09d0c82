-- Sets of bytes below 128. A set is the number whose bits of value 1 are at the places of its bytes.
use Rattle.std.specs.Prelude.{ℕ, ◌+◌, ◌-◌, ◌^◌, Bool, ◌==◌, nat_lt, if◌then◌else◌, List, codes}
use Rattle.std.specs.Int.{bit_at}
use Rattle.std.specs.Int.RustNames.{bit_or}
use Rattle.std.specs.List.{fold}

-- a byte is in a set
unfoldable pub has_byte : ℕ → ℕ → Bool
has_byte set byte = bit_at set byte == 1

-- no byte is
abbrev pub is_empty : ℕ → Bool
is_empty set = set == 0

-- a byte of seven bits
abbrev pub is_low : ℕ → Bool
is_low byte = nat_lt byte 128

-- a set with one byte more
abbrev pub with_byte : ℕ → ℕ → ℕ
with_byte set byte = bit_or set (2 ^ byte)

-- the set of these bytes
unfoldable pub set_of : List ℕ → ℕ
set_of bytes = fold with_byte 0 bytes

-- a set with each byte from the first to the last more
unfoldable pub with_range : ℕ → ℕ → ℕ → ℕ
with_range set first last =
    if nat_lt last first then set else bit_or set (2 ^ (last + 1) - 2 ^ first)

-- the bytes of words, and of names
unfoldable pub words : ℕ
words = with_range (with_range (with_range (set_of (codes "-")) 48 57) 65 90) 97 122

unfoldable pub names : ℕ
names = with_range (with_range (with_range (set_of (codes "-$_")) 48 57) 65 90) 97 122
