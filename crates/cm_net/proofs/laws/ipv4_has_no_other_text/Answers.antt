use Rattle.std.proofs.Common.{ℕ, List, ◌∷◌, ◌++◌, ◌∙◌, ap, decimal}
use Rattle.std.specs.Net.Addr.{ipv4_octets}
use Rattle.cm_net.specs.Parts.{slash}
use Rattle.cm_net.proofs.Ipv4Texts.{one_dotted}
use Rattle.cm_net.proofs.laws.ipv4_has_no_other_text.Goals as goal

pub returns : goal.returns
returns c = record {
  addresses = λ text address is. one_dotted text (ipv4_octets address) is;
  prefixes = λ text prefix is.
      is.spelled ∙ ap (λ (it : List ℕ). is.front ++ slash ∷ it) is.after.spelled
      ∙ ap (λ (it : List ℕ). it ++ slash ∷ decimal prefix.prefix_length) (one_dotted is.front (ipv4_octets prefix.address) is.before);
}
