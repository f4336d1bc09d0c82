use Rattle.std.proofs.Common.{lit<}
use Rattle.std.specs.Net.Grammar.{IsIpv4Text, IsIpv6Text}
use Rattle.std.proofs.NetLemmas.Theorems.{IsIpv4Text_unique, IsIpv6Text_unique}
use Rattle.cm_net.specs.declared.prefix.TheConstants.{IPV4_LENGTH_LIMIT, IPV6_LENGTH_LIMIT}
use Rattle.cm_net.proofs.MacTexts.{one_mac}
use Rattle.cm_net.proofs.PrefixTexts.{one_prefix}
use Rattle.cm_net.proofs.laws.a_text_has_one_value.Goals as goal

pub returns : goal.returns
returns c = record {
  ipv4 = IsIpv4Text_unique;
  ipv6 = IsIpv6Text_unique;
  ipv4_prefixes = λ text prefix other is also.
      one_prefix IsIpv4Text IPV4_LENGTH_LIMIT (lit< tt) text IsIpv4Text_unique prefix.address other.address prefix.prefix_length other.prefix_length is also;
  ipv6_prefixes = λ text prefix other is also.
      one_prefix IsIpv6Text IPV6_LENGTH_LIMIT (lit< tt) text IsIpv6Text_unique prefix.address other.address prefix.prefix_length other.prefix_length is also;
  macs = λ text mac other is also. λ i. record { octets = one_mac text mac.octets other.octets is also i };
}
