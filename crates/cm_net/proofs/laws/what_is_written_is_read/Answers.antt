use Rattle.std.specs.Net.Addr.{ipv4_octets, ipv6_segments}
use Rattle.std.specs.Net.Grammar.{IsIpv4Text, IsIpv6Text}
use Rattle.std.specs.Net.Text.{ipv4_text, ipv6_text}
use Rattle.std.proofs.NetLemmas.Texts.{IsColonHex-ipv6_text, IsDotted-ipv4_text}
use Rattle.cm_net.specs.declared.prefix.TheConstants.{IPV4_LENGTH_LIMIT, IPV6_LENGTH_LIMIT}
use Rattle.cm_net.proofs.MacTexts.{mac_read}
use Rattle.cm_net.proofs.PrefixTexts.{prefix_read}
use Rattle.cm_net.proofs.laws.what_is_written_is_read.Goals as goal

pub returns : goal.returns
returns c = record {
  ipv4 = λ address is. IsDotted-ipv4_text (ipv4_octets address) is.0 is.1;
  ipv6 = λ address is. IsColonHex-ipv6_text (ipv6_segments address) is.0 is.1;
  ipv4_prefixes = λ prefix is.
      prefix_read IsIpv4Text IPV4_LENGTH_LIMIT (ipv4_text (ipv4_octets prefix.address)) prefix.address prefix.prefix_length
      (IsDotted-ipv4_text (ipv4_octets prefix.address) is.0 is.1) prefix.within;
  ipv6_prefixes = λ prefix is.
      prefix_read IsIpv6Text IPV6_LENGTH_LIMIT (ipv6_text (ipv6_segments prefix.address)) prefix.address prefix.prefix_length
      (IsColonHex-ipv6_text (ipv6_segments prefix.address) is.0 is.1) prefix.within;
  macs = λ mac six fits. mac_read mac.octets six fits;
}
