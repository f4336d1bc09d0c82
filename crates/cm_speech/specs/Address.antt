-- Which atoms are addresses, and what is said of those that are none.
use Rattle.std.specs.Prelude.{ℕ, zero, suc, Bool, true, ◌==◌, ◌&&◌, ◌||◌, ◌%◌, nat_lt, if◌then◌else◌, List, codes, is_some, length, slice_index}
use Rattle.std.specs.Char.{digit_value}
use Rattle.std.specs.Int.{from_be_bytes, w32}
use Rattle.std.specs.Option.{option_map_or}
use Rattle.cm_hooks.specs.declared.answer.Answer.{Answer}
use Rattle.cm_hooks.specs.declared.answer.Answer.TheVariants.{Yes, NoBecause}
use Rattle.cm_net.specs.Mac.{colon, hyphen}
use Rattle.cm_net.specs.Values.{ipv4_value, ipv4_prefix_value, ipv6_value, ipv6_prefix_value}
use Rattle.cm_net.specs.declared.mac.TheConstants.{MAC_TEXT_SIZE}
use Rattle.cm_speech.specs.declared.rules.TheConstants.{IPV4_HOOK, IPV4_PREFIX_HOOK, IPV6_HOOK, IPV6_PREFIX_HOOK, MAC_HOOK}

-- each of the first so many places passes a test
abbrev pub all_places : (ℕ → Bool) → ℕ → Bool
all_places test zero = true
all_places test (suc count) = all_places test count && test count

-- each third byte is the divider, the others are hexadecimal digits
abbrev pub fits : List ℕ → ℕ → Bool
fits text place =
    if place % 3 == 2 then slice_index text place == slice_index text 2
    else nat_lt (digit_value (slice_index text place)) 16

-- six pairs of hexadecimal digits, with hyphens between all of them or colons between all of them
unfoldable pub is_mac : List ℕ → Bool
is_mac text =
    length text == MAC_TEXT_SIZE && (slice_index text 2 == hyphen || slice_index text 2 == colon)
    && all_places (fits text) MAC_TEXT_SIZE

-- the atom writes the address that the hook with this id reads
unfoldable pub is_address : ℕ → List ℕ → Bool
is_address id atom =
    if id == IPV4_HOOK then is_some (ipv4_value atom)
    else (if id == IPV4_PREFIX_HOOK then is_some (ipv4_prefix_value atom)
    else (if id == IPV6_HOOK then is_some (ipv6_value atom)
    else (if id == IPV6_PREFIX_HOOK then is_some (ipv6_prefix_value atom) else is_mac atom)))

-- the number of an IPv4 address, and 0 of each other
unfoldable pub address_number : ℕ → List ℕ → ℕ
address_number id atom =
    if id == IPV4_HOOK then option_map_or (from_be_bytes w32) (ipv4_value atom) 0 else 0

-- why an atom is refused
unfoldable pub refusal : ℕ → Answer
refusal id =
    if id == IPV4_HOOK then NoBecause (record { number = 128; text = codes "Not an IPv4 address" })
    else (if id == IPV4_PREFIX_HOOK
    then NoBecause (record { number = 129; text = codes "Not an IPv4 address and length" })
    else (if id == IPV6_HOOK then NoBecause (record { number = 130; text = codes "Not an IPv6 address" })
    else (if id == IPV6_PREFIX_HOOK
    then NoBecause (record { number = 131; text = codes "Not an IPv6 address and length" })
    else NoBecause (record { number = 132; text = codes "Not a MAC address" }))))

-- an address is taken with its number
unfoldable pub address_verdict : ℕ → List ℕ → Answer
address_verdict id atom = if is_address id atom then Yes (address_number id atom) else refusal id

-- what `?` says of a field
unfoldable pub help_of : ℕ → List ℕ
help_of id =
    if id == IPV4_HOOK then codes "IPv4 address"
    else (if id == IPV4_PREFIX_HOOK then codes "IPv4 address and length"
    else (if id == IPV6_HOOK then codes "IPv6 address"
    else (if id == IPV6_PREFIX_HOOK then codes "IPv6 address and length"
    else (if id == MAC_HOOK then codes "MAC address" else codes "name"))))
