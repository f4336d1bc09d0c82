-- Fields of the tests that have points and slashes in them.
use Rattle.std.proofs.Common.{◌≡◌, ℕ, ◌==◌, ◌||◌, Bool, true, arith}
use Rattle.std.proofs.lemmas.Bool.Decides.{nat_tests}
use Rattle.cm_text.specs.Bytes.{is_name, is_word}
use Rattle.cm_hooks.specs.FieldBytes.{FieldBytes, is_graphic}

abbrev pub is_port : ℕ → Bool
is_port byte = is_name byte || byte == 46 || byte == 47

pub port_graphic : (byte : ℕ) → is_port byte ≡ true → is_graphic byte ≡ true
unfolding is_name is_word
port_graphic byte is = grind (arith, nat_tests)

abbrev pub port_bytes : FieldBytes
port_bytes = record { test = is_port; graphic = port_graphic }
