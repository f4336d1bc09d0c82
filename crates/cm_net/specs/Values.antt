-- The value that a text writes, computed from its bytes, for a program whose meaning is a function of what is typed.
use Rattle.std.specs.Prelude.{ℕ, Bool, ◌&&◌, ◌==◌, nat_le, if◌then◌else◌, List, [], ◌∷◌, decimal, Option, None, Some, option_and_then}
use Rattle.std.specs.Net.Reader.{Read, read_ipv4, read_ipv6, whole_value}
use Rattle.std.specs.Str.{bytes_eq}
use Rattle.std.specs.Str.Parse.{digits_value}
use Rattle.cm_net.specs.Parts.{slash}
use Rattle.cm_net.specs.declared.prefix.TheConstants.{IPV4_LENGTH_LIMIT, IPV6_LENGTH_LIMIT}

-- the four octets of an IPv4 address, where the text writes one
unfoldable pub ipv4_value : List ℕ → Option (List ℕ)
ipv4_value text = whole_value (read_ipv4 text)

-- the eight segments of an IPv6 address, where the text writes one
unfoldable pub ipv6_value : List ℕ → Option (List ℕ)
ipv6_value text = whole_value (read_ipv6 text)

-- a number of this limit, in decimal digits with no zero before them
abbrev pub is_length : ℕ → List ℕ → Bool
is_length limit digits = nat_le (digits_value 10 digits) limit && bytes_eq digits (decimal (digits_value 10 digits))

-- an address, and the length of a prefix in what follows it
abbrev pub with_length : ℕ → List ℕ × List ℕ → Option (List ℕ × ℕ)
with_length limit (parts, []) = None
with_length limit (parts, byte ∷ digits) =
    if byte == slash && is_length limit digits then Some (parts, digits_value 10 digits) else None

-- the octets and the length of an IPv4 prefix, where the text writes one
unfoldable pub ipv4_prefix_value : List ℕ → Option (List ℕ × ℕ)
ipv4_prefix_value text = option_and_then (with_length IPV4_LENGTH_LIMIT) (read_ipv4 text)

-- the segments and the length of an IPv6 prefix, where the text writes one
unfoldable pub ipv6_prefix_value : List ℕ → Option (List ℕ × ℕ)
ipv6_prefix_value text = option_and_then (with_length IPV6_LENGTH_LIMIT) (read_ipv6 text)
