-- The one text that is written of a value. Those of addresses are std's: dotted decimal, and for IPv6 that of RFC 5952.
use Rattle.std.specs.Prelude.{ℕ, ◌/◌, ◌%◌, List, [], ◌∷◌, ◌++◌, slice_index}
use Rattle.std.specs.Char.{digit_char}
use Rattle.std.specs.Fmt.{decimal}
use Rattle.std.specs.Net.Addr.{ipv4_octets, ipv6_segments}
use Rattle.std.specs.Net.Text.{ipv4_text, ipv6_text}
use Rattle.cm_net.specs.Mac.{colon}
use Rattle.cm_net.specs.Parts.{slash}
use Rattle.cm_net.specs.declared.mac.Mac.{Mac}
use Rattle.cm_net.specs.declared.prefix.Ipv4Prefix.{Ipv4Prefix}
use Rattle.cm_net.specs.declared.prefix.Ipv6Prefix.{Ipv6Prefix}

-- the address, a slash, and the length
abbrev pub ipv4_prefix_text : Ipv4Prefix → List ℕ
ipv4_prefix_text prefix = ipv4_text (ipv4_octets prefix.address) ++ slash ∷ decimal prefix.prefix_length

-- the same of IPv6
abbrev pub ipv6_prefix_text : Ipv6Prefix → List ℕ
ipv6_prefix_text prefix = ipv6_text (ipv6_segments prefix.address) ++ slash ∷ decimal prefix.prefix_length

-- an octet in two hexadecimal digits, with letters in lower case
abbrev pub pair_text : ℕ → List ℕ
pair_text octet = digit_char (octet / 16) ∷ digit_char (octet % 16) ∷ []

-- six octets in pairs of digits, with colons between them
abbrev pub pairs_text : List ℕ → List ℕ
pairs_text octets =
    pair_text (slice_index octets 0) ++ colon ∷ pair_text (slice_index octets 1)
    ++ colon ∷ pair_text (slice_index octets 2) ++ colon ∷ pair_text (slice_index octets 3)
    ++ colon ∷ pair_text (slice_index octets 4) ++ colon ∷ pair_text (slice_index octets 5)

-- those of a MAC address
abbrev pub mac_text : Mac → List ℕ
mac_text mac = pairs_text mac.octets
