-- What may be in a line.
use Rattle.std.proofs.Common.{◌≡◌, ℕ, true, List, [], ◌∷◌, refl}
use Rattle.std.specs.List.{AllByRecursion}
use Rattle.cm_text.specs.Bytes.{is_line_byte, is_text}
use Rattle.cm_text.specs.declared.text.TheConstants.{JOIN}

-- a text byte
pub text_in_line : (byte : ℕ) → is_text byte ≡ true → is_line_byte byte ≡ true
unfolding is_line_byte
text_in_line byte is = rw is refl

-- text bytes alone
pub texts_in_line : (bytes : List ℕ) → AllByRecursion (λ byte. is_text byte ≡ true) bytes
    → AllByRecursion (λ byte. is_line_byte byte ≡ true) bytes
texts_in_line [] are = tt
texts_in_line (byte ∷ bytes) are = (text_in_line byte are.0, texts_in_line bytes are.1)

-- the join byte
pub join_in_line : is_line_byte JOIN ≡ true
unfolding is_line_byte is_text
join_in_line = refl
