-- Bytes of lines as they are shown.
use Rattle.std.proofs.Common.{◌≡◌, ℕ, ◌==◌, ◌&&◌, ◌||◌, not, Bool, true, false, [], ◌∷◌, nat_le, if◌then◌else◌, refl, sym, arith}
use Rattle.std.proofs.lemmas.Bool.Decides.{nat_tests}
use Rattle.cm_text.specs.Bytes.{is_line_byte, is_text}
use Rattle.cm_text.specs.ScreenBytes.{screen_byte, shown_byte}
use Rattle.cm_text.specs.declared.text.TheConstants.{JOIN}
use Rattle.cm_io.specs.Display.{is_printed}

-- a text byte is shown as a printed byte
pub byte_is_printed : (byte : ℕ) → is_text byte ≡ true → is_printed (screen_byte byte) ≡ true
unfolding is_text is_printed
byte_is_printed byte text = by (byte == 9) (nat_le 32 byte && nat_le byte 126) (not (byte == 63)) refl text
  where
    by : (tab plain other : Bool) → plain ≡ (nat_le 32 byte && nat_le byte 126) → ((tab || plain) && other) ≡ true
        → (nat_le 32 (if tab then 32 else byte) && nat_le (if tab then 32 else byte) 126) ≡ true
    by true plain other is both = refl
    by false true other is both = sym is
    by false false other is both = cc

-- it is no join byte
text_joins_not : (byte : ℕ) → is_text byte ≡ true → (byte == JOIN) ≡ false
unfolding is_text
text_joins_not byte text = grind (arith, nat_tests)

pub text_shown : (byte : ℕ) → is_text byte ≡ true → shown_byte byte ≡ screen_byte byte ∷ []
unfolding shown_byte
text_shown byte text = let plain = text_joins_not byte text in rw plain refl

-- and each other byte of a line is one
pub text_unless : (byte : ℕ) → is_line_byte byte ≡ true → (byte == JOIN) ≡ false → is_text byte ≡ true
unfolding is_line_byte
text_unless byte line plain = by (is_text byte) (byte == JOIN) line plain
  where
    by : (text joins : Bool) → (text || joins) ≡ true → joins ≡ false → text ≡ true
    by true joins both none = refl
    by false joins both none = cc
