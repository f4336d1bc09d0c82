-- Where the digits and the dividers of a MAC address are.
use Rattle.std.specs.Prelude.{ℕ, ◌≡◌, ◌≢◌, ◌+◌, ◌*◌, ◌<◌, ◌%◌, ◌⊎◌, List, length, slice_index}
use Rattle.std.specs.Char.{digit_value}
use Rattle.cm_net.specs.Mac.{colon, hyphen}
use Rattle.cm_net.specs.declared.mac.TheConstants.{MAC_TEXT_SIZE}

-- what is at a place of the text may be there: each third byte is the divider, the others are hexadecimal digits
pub record FitsPlace (text : List ℕ) (place : ℕ) : Type 0 where
  pub divided : place % 3 ≡ 2 → slice_index text place ≡ slice_index text 2
  pub digit : place % 3 ≢ 2 → digit_value (slice_index text place) < 16

-- so many bytes, each where it may be
pub record HasMacShape (text : List ℕ) : Type 0 where
  pub size : length text ≡ MAC_TEXT_SIZE
  pub divides : (slice_index text 2 ≡ hyphen) ⊎ (slice_index text 2 ≡ colon)
  pub placed : (place : ℕ) → place < MAC_TEXT_SIZE → FitsPlace text place

-- the octet that the digits at a place and at the next write
abbrev pub octet_at : List ℕ → ℕ → ℕ
octet_at text place = digit_value (slice_index text place) * 16 + digit_value (slice_index text (place + 1))
