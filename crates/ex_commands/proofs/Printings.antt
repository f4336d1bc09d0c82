-- Bytes, as they are shown.
use Rattle.std.proofs.Common.{◌≡◌, ℕ, suc, ◌+◌, Bool, true, false, List, [], ◌∷◌, ◌++◌, map, take, drop, refl, sym, ap, ◌∙◌, arith}
use Rattle.std.specs.List.{prefix_len}
use Rattle.std.proofs.lemmas.Bool.{eqb-true}
use Rattle.cm_text.specs.ScreenBytes.{printing_byte}
use Rattle.ex_commands.specs.PrintingBytes.{first_shown, is_printing}

-- those that are shown as they are, the byte after them, and the rest
pub run_shown : (line : List ℕ)
    → map printing_byte line ≡ take (prefix_len is_printing line) line ++ map printing_byte (drop (prefix_len is_printing line) line)
run_shown [] = refl
run_shown (byte ∷ line) = by (is_printing byte) refl (run_shown line)
  where
    by : (test : Bool) → is_printing byte ≡ test
        → map printing_byte line ≡ take (prefix_len is_printing line) line ++ map printing_byte (drop (prefix_len is_printing line) line)
        → map printing_byte (byte ∷ line)
        ≡ take (prefix_len is_printing (byte ∷ line)) (byte ∷ line) ++ map printing_byte (drop (prefix_len is_printing (byte ∷ line)) (byte ∷ line))
    by true is more =
        let same : printing_byte byte ≡ byte = eqb-true (printing_byte byte) byte is in
        let one : suc (prefix_len is_printing line) ≡ 1 + prefix_len is_printing line = omega arith in
        rw is (ap (λ (it : ℕ). it ∷ map printing_byte line) same ∙ ap (λ (it : List ℕ). byte ∷ it) more
        ∙ ap (λ (n : ℕ). take n (byte ∷ line) ++ map printing_byte (drop n (byte ∷ line))) one)
    by false is more = rw is refl

pub first_more : (line : List ℕ) → map printing_byte line ≡ first_shown line ++ map printing_byte (drop 1 line)
first_more [] = refl
first_more (byte ∷ line) = refl

-- so that after a run the rest of it is left
pub run_left : (line run more : List ℕ) (size : ℕ) → size ≡ prefix_len is_printing line → run ≡ take size line → more ≡ drop size line
    → map printing_byte line ≡ run ++ map printing_byte more
run_left line run more size is front back =
    run_shown line
    ∙ ap (λ (n : ℕ). take n line ++ map printing_byte (drop n line)) (sym is)
    ∙ ap (λ (it : List ℕ). it ++ map printing_byte (drop size line)) (sym front)
    ∙ ap (λ (it : List ℕ). run ++ map printing_byte it) (sym back)

-- and after the byte that is not shown as it is
pub first_left : (line next : List ℕ) → next ≡ drop 1 line → map printing_byte line ≡ first_shown line ++ map printing_byte next
first_left line next is = first_more line ∙ ap (λ (it : List ℕ). first_shown line ++ map printing_byte it) (sym is)
