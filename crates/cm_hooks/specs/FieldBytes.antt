-- Which bytes a field of a program's own may have.
use Rattle.std.proofs.Common.{◌≡◌, ℕ, ◌==◌, ◌&&◌, nat_le, Bool, true, false, not, refl, arith}
use Rattle.std.proofs.lemmas.Bool.Decides.{nat_tests}
use Rattle.cm_text.specs.Bytes.{is_name, is_shown_byte, is_word}

-- from `!` to tilde, but no question mark
abbrev pub is_graphic : ℕ → Bool
is_graphic byte = nat_le 33 byte && nat_le byte 126 && not (byte == 63)

-- a test of a byte, which graphic bytes alone pass
pub record FieldBytes : Type 0 where
  pub test : ℕ → Bool
  pub graphic : (byte : ℕ) → test byte ≡ true → is_graphic byte ≡ true

pub name_graphic : (byte : ℕ) → is_name byte ≡ true → is_graphic byte ≡ true
unfolding is_name is_word
name_graphic byte is = grind (arith, nat_tests)

-- letters, digits, `-`, `$` and `_`
abbrev pub name_bytes : FieldBytes
name_bytes = record { test = is_name; graphic = name_graphic }

-- what they are is shown as it is
pub graphic_shown : (bytes : FieldBytes) (byte : ℕ) → bytes.test byte ≡ true → is_shown_byte byte ≡ true
graphic_shown bytes byte is = let graphic = bytes.graphic byte is in grind (arith, nat_tests)

-- a byte that is not graphic is none of them
pub not_graphic : (bytes : FieldBytes) (byte : ℕ) → is_graphic byte ≡ false → bytes.test byte ≡ false
not_graphic bytes byte is = by (bytes.test byte) refl
  where
    by : (b : Bool) → bytes.test byte ≡ b → b ≡ false
    by true inside = let graphic = bytes.graphic byte inside in cc
    by false outside = refl
