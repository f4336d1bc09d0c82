-- Names are ASCII.
use Rattle.std.proofs.Common.{◌≡◌, ℕ, ◌-◌, ◌<◌, true, List, length, take, drop, arith}
use Rattle.std.specs.List.{list_all}
use Rattle.std.specs.Str.{IsAscii}
use Rattle.std.proofs.lemmas.Bool.Decides.{nat_tests}
use Rattle.cm_lists.proofs.Ascii.{IsAscii_of_all}
use Rattle.cm_lists.proofs.Quantifiers.{all_drop, all_take}
use Rattle.cm_synopsis.specs.Bytes.{is_blank, is_fine}
use Rattle.cm_synopsis.specs.Names.{is_name_byte}
use Rattle.cm_synopsis.specs.Sayings.{is_print}

byte_ascii : (byte : ℕ) → is_name_byte byte ≡ true → byte < 128
unfolding is_name_byte
byte_ascii byte is = grind (arith, nat_tests)

pub name_ascii : (text : List ℕ) → list_all is_name_byte text ≡ true → IsAscii text
name_ascii text all = IsAscii_of_all is_name_byte byte_ascii text all

fine_ascii : (byte : ℕ) → is_fine byte ≡ true → byte < 128
unfolding is_fine is_blank
fine_ascii byte is = grind (arith, nat_tests)

-- what is between the first byte and the last of bytes that a line may have
pub inside_ascii : (text : List ℕ) → list_all is_fine text ≡ true → IsAscii (take (length text - 2) (drop 1 text))
inside_ascii text all =
    IsAscii_of_all is_fine fine_ascii _ (all_take is_fine (length text - 2) (drop 1 text) (all_drop is_fine 1 text all))

print_byte : (byte : ℕ) → is_print byte ≡ true → byte < 128
print_byte byte is = grind (arith, nat_tests)

-- a prompt
pub print_ascii : (text : List ℕ) → list_all is_print text ≡ true → IsAscii text
print_ascii text all = IsAscii_of_all is_print print_byte text all
