-- Help that is shown as it is, is ASCII.
use Rattle.std.proofs.Common.{◌≡◌, ℕ, ◌<◌, ◌&&◌, true, not, nat_lt, List, length, arith}
use Rattle.std.specs.Str.{IsAscii}
use Rattle.std.proofs.lemmas.Bool.{and_parts}
use Rattle.std.proofs.lemmas.Bool.Decides.{nat_tests}
use Rattle.cm_text.specs.Bytes.{is_shown, is_shown_byte}
use Rattle.cm_text.specs.declared.name.TheConstants.{NAME_LIMIT}
use Rattle.cm_lists.proofs.Ascii.{IsAscii_of_all}
use Rattle.cm_graph.specs.Helps.{is_help}

shown_byte : (byte : ℕ) → is_shown_byte byte ≡ true → byte < 128
shown_byte byte is = grind (arith, nat_tests)

pub help_ascii : (help : List ℕ) → is_help help ≡ true → IsAscii help
help_ascii help is =
    IsAscii_of_all is_shown_byte shown_byte help
    (and_parts (nat_lt 0 (length help) && not (nat_lt NAME_LIMIT (length help))) (is_shown help) is).1
