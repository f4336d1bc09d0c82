-- A prefix: an address, a slash, and how many of the first bits of the address are the prefix (RFC 4632, 3.1; RFC 4291,
-- 2.3).
use Rattle.std.specs.Prelude.{ℕ, ◌-◌, ◌^◌, ◌%◌, List}
use Rattle.std.specs.Net.Addr.{ipv4_bits, ipv6_bits}
use Rattle.cm_net.specs.Parts.{IsIpv4Parts, IsIpv6Parts}
use Rattle.cm_net.specs.declared.prefix.Ipv4Prefix.{Ipv4Prefix}
use Rattle.cm_net.specs.declared.prefix.Ipv6Prefix.{Ipv6Prefix}
use Rattle.cm_net.specs.declared.prefix.TheConstants.{IPV4_LENGTH_LIMIT, IPV6_LENGTH_LIMIT}

-- the text writes this IPv4 prefix
abbrev pub IsIpv4PrefixText : List ℕ → Ipv4Prefix → Type 0
IsIpv4PrefixText text prefix = IsIpv4Parts text prefix.address prefix.prefix_length

-- the text writes this IPv6 prefix
abbrev pub IsIpv6PrefixText : List ℕ → Ipv6Prefix → Type 0
IsIpv6PrefixText text prefix = IsIpv6Parts text prefix.address prefix.prefix_length

-- the bits of the address behind the prefix, as one number
abbrev pub ipv4_host : Ipv4Prefix → ℕ
ipv4_host prefix = ipv4_bits prefix.address % 2 ^ (IPV4_LENGTH_LIMIT - prefix.prefix_length)

-- those of an IPv6 address
abbrev pub ipv6_host : Ipv6Prefix → ℕ
ipv6_host prefix = ipv6_bits prefix.address % 2 ^ (IPV6_LENGTH_LIMIT - prefix.prefix_length)
