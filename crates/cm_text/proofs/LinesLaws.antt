-- The lines of bytes, one after the other.
use Rattle.std.proofs.Common.{◌≡◌, ℕ, suc, ◌+◌, ◌<◌, ◌≤◌, List, [], ◌∷◌, length, take, drop, get_or, refl, sym, ap, ◌∙◌, subst, arith}
use Rattle.std.proofs.Math.Seq.{drop-cons, drop-length}
use Rattle.std.proofs.lemmas.List.{length-take-le, take-take, take_all}
use Rattle.cm_lists.proofs.Pieces.{some_length}
use Rattle.cm_text.specs.Lines.{BeginsLine, last_line, lines, lines_after, without_return}
use Rattle.cm_text.specs.declared.lines.LineEnd.{LineEnd}

-- the next byte is a line feed
feeds : (begun : List ℕ) (byte : ℕ) (bytes : List ℕ) → byte ≡ 10
    → lines_after begun (byte ∷ bytes) ≡ without_return begun ∷ lines_after [] bytes
feeds begun byte bytes is = rw is refl

-- a line feed is found after bytes that are none
pub at_feed : (bytes : List ℕ) (at : ℕ) (first : LineEnd) → lines_after (take at bytes) (drop at bytes) ≡ lines_after [] bytes
    → at < length bytes → get_or bytes at 0 ≡ 10 → take first.end (take at bytes) ≡ without_return (take at bytes)
    → first.end ≤ length (take at bytes) → first.next ≡ at + 1 → BeginsLine bytes first
unfolding lines
at_feed bytes at first begun within is ends short next =
    let size : length (take at bytes) ≡ at = length-take-le at bytes (omega (arith, within)) in
    let inside : first.end ≤ at = subst (λ n. first.end ≤ n) size short in
    let line : take first.end bytes ≡ without_return (take at bytes) = sym (take-take first.end at bytes inside) ∙ ends in
    let rest : drop at bytes ≡ get_or bytes at 0 ∷ drop (suc at) bytes = drop-cons bytes at 0 within in
    let after : suc at ≡ first.next = omega (arith, next) in
    record {
      line = sym begun ∙ ap (λ (it : List ℕ). lines_after (take at bytes) it) rest ∙ feeds (take at bytes) (get_or bytes at 0) (drop (suc at) bytes) is
          ∙ ap (λ (it : List ℕ). it ∷ lines_after [] (drop (suc at) bytes)) (sym line)
          ∙ ap (λ (n : ℕ). take first.end bytes ∷ lines_after [] (drop n bytes)) after;
      end = omega (arith, inside, next);
      some = omega (arith, next);
      next = omega (arith, within, next);
    }

-- there is none: all bytes are one line, or there are none
pub none_left : (bytes : List ℕ) → length bytes ≡ 0 → lines bytes ≡ []
unfolding lines
none_left [] none = refl
none_left (byte ∷ bytes) none = absurd (omega (arith, none))

some_line : (bytes : List ℕ) → (length bytes ≡ 0 → ⊥) → last_line bytes ≡ bytes ∷ []
some_line [] some = absurd (some refl)
some_line (byte ∷ bytes) some = refl

pub one_left : (bytes : List ℕ) (at : ℕ) → lines_after (take at bytes) (drop at bytes) ≡ lines_after [] bytes
    → at ≡ length bytes → (length bytes ≡ 0 → ⊥)
    → BeginsLine bytes (record { end = length bytes; next = length bytes })
unfolding lines
one_left bytes at begun is some =
    let all : take at bytes ≡ bytes = ap (λ n. take n bytes) is ∙ take_all (length bytes) bytes (omega arith) in
    let none : drop at bytes ≡ [] = ap (λ n. drop n bytes) is ∙ drop-length bytes in
    record {
      line = sym begun ∙ ap (λ it. lines_after it (drop at bytes)) all ∙ ap (λ it. lines_after bytes it) none ∙ some_line bytes some
          ∙ ap (λ it. it ∷ []) (sym (take_all (length bytes) bytes (omega arith))) ∙ ap (λ it. take (length bytes) bytes ∷ lines_after [] it) (sym (drop-length bytes));
      end = omega arith;
      some = some_length bytes some;
      next = omega arith;
    }
