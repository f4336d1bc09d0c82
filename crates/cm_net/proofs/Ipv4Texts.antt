-- An IPv4 address has one text.
use Rattle.std.proofs.Common.{◌≡◌, ℕ, List, ap, sym, ◌∙◌}
use Rattle.std.specs.Net.Grammar.{IsDotted}
use Rattle.std.specs.Net.Text.{ipv4_text}

pub one_dotted : (text octets : List ℕ) → IsDotted text octets → text ≡ ipv4_text octets
one_dotted text octets is = is.spelled ∙ sym (ap ipv4_text is.value)
