-- The bytes of a line are ASCII, and so are those of a name.
use Rattle.std.proofs.Common.{◌≡◌, ℕ, ◌<◌, zero, suc, true, List, [], ◌∷◌, arith}
use Rattle.std.specs.List.{AllByRecursion, list_all}
use Rattle.std.specs.Str.{IsAscii}
use Rattle.std.proofs.lemmas.Bool.Decides.{nat_tests}
use Rattle.cm_lists.proofs.Ascii.{IsAscii_of_all}
use Rattle.cm_text.specs.Bytes.{is_line_byte, is_name, is_text, is_word}
use Rattle.cm_text.specs.Text.{IsLine, finished}

line_byte_is_ascii : (byte : ℕ) → is_line_byte byte ≡ true → byte < 128
unfolding is_line_byte is_text
line_byte_is_ascii byte is = grind (arith, nat_tests)

-- the bytes of a line, and the CR after them
finished_ascii : (bytes : List ℕ) → AllByRecursion (λ byte. is_line_byte byte ≡ true) bytes → IsAscii (finished bytes)
finished_ascii [] is zero = omega arith
finished_ascii [] is (suc i) = omega arith
finished_ascii (byte ∷ more) is zero = line_byte_is_ascii byte is.0
finished_ascii (byte ∷ more) is (suc i) = finished_ascii more is.1 i

plain_ascii : (bytes : List ℕ) → AllByRecursion (λ byte. is_line_byte byte ≡ true) bytes → IsAscii bytes
plain_ascii [] is i = omega arith
plain_ascii (byte ∷ more) is zero = line_byte_is_ascii byte is.0
plain_ascii (byte ∷ more) is (suc i) = plain_ascii more is.1 i

pub line_is_ascii : (bytes : List ℕ) → IsLine bytes → IsAscii bytes
line_is_ascii bytes is = plain_ascii bytes is.plain

pub finished_is_ascii : (bytes : List ℕ) → IsLine bytes → IsAscii (finished bytes)
finished_is_ascii bytes is = finished_ascii bytes is.plain

-- a byte of a name, and all of them
pub name_byte_is_ascii : (byte : ℕ) → is_name byte ≡ true → byte < 128
unfolding is_name is_word
name_byte_is_ascii byte is = grind (arith, nat_tests)

pub name_bytes_are_ascii : (text : List ℕ) → list_all is_name text ≡ true → IsAscii text
name_bytes_are_ascii text all = IsAscii_of_all is_name name_byte_is_ascii text all
