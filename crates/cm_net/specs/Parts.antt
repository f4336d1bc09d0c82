-- The two parts of a prefix: what is before the last slash of a text, and the length after it.
use Rattle.std.specs.Prelude.{ℕ, ◌≡◌, ◌≤◌, ◌==◌, not, true, Bool, List, ◌∷◌, ◌++◌}
use Rattle.std.specs.Fmt.{decimal}
use Rattle.std.specs.List.{list_all}
use Rattle.std.specs.Net.Grammar.{IsIpv4Text, IsIpv6Text}
use Rattle.std.specs.declared.net.ipv4_addr.Ipv4Addr.{Ipv4Addr}
use Rattle.std.specs.declared.net.ipv6_addr.Ipv6Addr.{Ipv6Addr}
use Rattle.cm_net.specs.declared.prefix.TheConstants.{IPV4_LENGTH_LIMIT, IPV6_LENGTH_LIMIT}

-- the byte between an address and the length of its prefix
abbrev pub slash : ℕ
slash = 47

-- any other byte
abbrev pub is_no_slash : ℕ → Bool
is_no_slash byte = not (byte == slash)

-- the text is what is before its last slash, that slash, and what is after it
pub record HasLastSlash (text front back : List ℕ) : Type 0 where
  pub spelled : text ≡ front ++ slash ∷ back
  pub last : list_all is_no_slash back ≡ true

-- a number of this limit, in decimal digits with no zero before them
pub record IsLength (limit : ℕ) (text : List ℕ) (length : ℕ) : Type 0 where
  pub within : length ≤ limit
  pub spelled : text ≡ decimal length

-- an address in a text of its family, a slash, and a length
pub record IsPrefixText {A : Type 0} (Writes : List ℕ → A → Type 0) (limit : ℕ) (text : List ℕ) (address : A)
    (length : ℕ) : Type 0 where
  pub front : List ℕ
  pub back : List ℕ
  pub spelled : text ≡ front ++ slash ∷ back
  pub before : Writes front address
  pub after : IsLength limit back length

-- the text is an IPv4 address, a slash and a length
abbrev pub IsIpv4Parts : List ℕ → Ipv4Addr → ℕ → Type 0
IsIpv4Parts text address length = IsPrefixText IsIpv4Text IPV4_LENGTH_LIMIT text address length

-- or an IPv6 address and its length
abbrev pub IsIpv6Parts : List ℕ → Ipv6Addr → ℕ → Type 0
IsIpv6Parts text address length = IsPrefixText IsIpv6Text IPV6_LENGTH_LIMIT text address length
