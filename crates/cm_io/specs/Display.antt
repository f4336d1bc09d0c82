-- Displays: what shows the bytes that it is fed, and begins its last row with a text.
use Rattle.std.specs.Prelude.{ℕ, ◌≡◌, ◌≤◌, ◌-◌, ◌&&◌, nat_le, Bool, true, List, [], ◌∷◌, ◌++◌, length, take}
use Rattle.std.specs.List.{AllByRecursion}
use Rattle.cm_text.specs.ScreenBytes.{bell, rubout}
use Rattle.cm_io.specs.Pieces.{times}

-- from space to tilde
unfoldable pub is_printed : ℕ → Bool
is_printed byte = nat_le 32 byte && nat_le byte 126

abbrev pub ArePrinted : List ℕ → Type 0
ArePrinted text = AllByRecursion (λ byte. is_printed byte ≡ true) text

-- a display is fed bytes and holds a text: the row that it writes on is that text, and the next byte goes after it.
-- Bytes are fed in turn; those that are printed go after the text; a bell leaves it; rubouts take bytes off its end;
-- and a line feed begins a row that holds nothing
pub record IsDisplay {D : Type 0} (feed : D → List ℕ → D) (Holds : D → List ℕ → Type 0) : Type 0 where
  pub turns : (display : D) (bytes more : List ℕ) → feed display (bytes ++ more) ≡ feed (feed display bytes) more
  pub texts : (display : D) (text bytes : List ℕ) → ArePrinted bytes → Holds display text
      → Holds (feed display bytes) (text ++ bytes)
  pub bells : (display : D) (text : List ℕ) → Holds display text → Holds (feed display bell) text
  pub rubouts : (count : ℕ) (display : D) (text : List ℕ) → count ≤ length text → Holds display text
      → Holds (feed display (times count rubout)) (take (length text - count) text)
  pub line_feeds : (display : D) (bytes : List ℕ) → Holds (feed display (bytes ++ 10 ∷ [])) []
