-- The class of a key on a line.
use Rattle.std.proofs.Common.{◌≡◌, ℕ, ◌<◌, Bool, true, false, ◌&&◌, if◌then◌else◌, List, [], ◌∷◌, length, refl, arith}
use Rattle.cm_text.specs.Bytes.{is_text}
use Rattle.cm_text.specs.Text.{ends_in_hyphen}
use Rattle.cm_line.specs.declared.key.KeyClass.TheVariants.{Text, Join}
use Rattle.cm_line.specs.Keys.{class_at, class_of, is_end}

-- no key continues a line by itself
pub none_joins : (key : ℕ) → class_of key ≡ Join → ⊥
unfolding class_of
none_joins key is = grind arith

-- none continues an empty line
pub class_at_none : (key : ℕ) → class_at [] key ≡ class_of key
unfolding class_at
class_at_none key = by (is_end (class_of key))
  where
    by : (end : Bool) → (if end && false then Join else class_of key) ≡ class_of key
    by true = refl
    by false = refl

-- and only text bytes are text
text_key : (key : ℕ) → class_of key ≡ Text → is_text key ≡ true
unfolding class_of
text_key key is = grind arith

pub text_at : (line : List ℕ) (key : ℕ) → class_at line key ≡ Text → is_text key ≡ true
unfolding class_at
text_at line key is = by (is_end (class_of key) && ends_in_hyphen line) is
  where
    by : (test : Bool) → (if test then Join else class_of key) ≡ Text → is_text key ≡ true
    by true is = cc
    by false is = text_key key is

-- a line that ends in a hyphen has a byte
pub some_bytes : (line : List ℕ) → ends_in_hyphen line ≡ true → 0 < length line
some_bytes [] is = cc
some_bytes (byte ∷ line) is = omega arith
