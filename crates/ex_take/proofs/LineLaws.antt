-- The lines of a command file.
-- The invariant over the lines of a file is the definition itself, begun (lines_behind, joined_behind), so no position
-- is spoken of. A line read ahead is a field, and one function reads a line, with lines_from as its clause.
use Rattle.std.proofs.Common.{◌≡◌, ℕ, ◌≤◌, nat_le, true, false, List, [], ◌∷◌, ◌+◌, length, take, drop, Option, None, Some, refl, sym, ap, subst, ◌∙◌, arith}
use Rattle.std.specs.List.{AllByRecursion, list_all}
use Rattle.std.proofs.lemmas.Bool.Decides.{nat_tests}
use Rattle.cm_text.specs.Bytes.{is_line_byte}
use Rattle.std.proofs.lemmas.List.{drop-drop}
use Rattle.cm_lists.proofs.Bools.{and_first, and_second}
use Rattle.cm_text.specs.Lines.{BeginsLine, BeginsLines, lines}
use Rattle.cm_text.specs.declared.lines.LineEnd.{LineEnd}
use Rattle.cm_text.specs.Text.{IsLine, ends_in_hyphen}
use Rattle.cm_text.specs.declared.text.TheConstants.{LINE_LIMIT}
use Rattle.ex_take.specs.Lines.{file_lines, is_line, joined_after, joined_lines}

-- a line that ends in no hyphen is whole
pub whole_line : (line : List ℕ) (others : List (List ℕ)) → ends_in_hyphen line ≡ false
    → joined_after line others ≡ line ∷ joined_lines others
whole_line line [] whole = refl
whole_line line (next ∷ others) whole = rw whole refl

-- no line is left
pub no_line : (bytes rest : List ℕ) (at : ℕ) (found : Option LineEnd) → rest ≡ drop at bytes → BeginsLines rest found → found ≡ None
    → [] ≡ file_lines (drop at bytes)
unfolding file_lines
no_line bytes rest at found is begins none =
    let empty : lines rest ≡ [] = subst (λ (it : Option LineEnd). BeginsLines rest it) none begins in
    sym (ap (λ (it : List ℕ). joined_lines (lines it)) (sym is) ∙ ap joined_lines empty)

-- the first line is read, and continued by those that follow it
pub reads_line : (bytes rest more : List ℕ) (at : ℕ) (found : Option LineEnd) (first : LineEnd) (line new : List ℕ) (result : ℕ)
    → rest ≡ drop at bytes → BeginsLines rest found → found ≡ Some first → line ≡ take first.end rest → more ≡ drop first.next rest
    → joined_after line (lines more) ≡ new ∷ file_lines (drop result more)
    → new ∷ file_lines (drop (at + first.next + result) bytes) ≡ file_lines (drop at bytes)
unfolding file_lines
reads_line bytes rest more at found first line new result is begins some read after joins =
    let begin : BeginsLine rest first = subst (λ (it : Option LineEnd). BeginsLines rest it) some begins in
    let place : drop result more ≡ drop (at + first.next + result) bytes
    = ap (λ (it : List ℕ). drop result it) after ∙ drop-drop result first.next rest ∙ ap (λ (it : List ℕ). drop (first.next + result) it) is
    ∙ drop-drop (first.next + result) at bytes ∙ ap (λ (n : ℕ). drop n bytes) (omega arith) in
    sym (ap (λ (it : List ℕ). joined_lines (lines it)) (sym is)
    ∙ ap (λ (it : List (List ℕ)). joined_lines it) begin.line
    ∙ ap (λ (it : List ℕ). joined_after it (lines (drop first.next rest))) (sym read)
    ∙ ap (λ (it : List ℕ). joined_after line (lines it)) (sym after)
    ∙ joins ∙ ap (λ (it : List ℕ). new ∷ file_lines it) place)

-- text bytes and join bytes alone

all_plain : (bytes : List ℕ) → list_all is_line_byte bytes ≡ true → AllByRecursion (λ byte. is_line_byte byte ≡ true) bytes
all_plain [] all = tt
all_plain (byte ∷ bytes) all =
    (and_first (is_line_byte byte) (list_all is_line_byte bytes) all, all_plain bytes (and_second (is_line_byte byte) (list_all is_line_byte bytes) all))

pub line_holds : (line : List ℕ) → is_line line ≡ true → IsLine line
line_holds line is = record {
  short = nat_le_true (length line) LINE_LIMIT (and_first (nat_le (length line) LINE_LIMIT) (list_all is_line_byte line) is);
  plain = all_plain line (and_second (nat_le (length line) LINE_LIMIT) (list_all is_line_byte line) is);
}
  where
    nat_le_true : (n m : ℕ) → nat_le n m ≡ true → n ≤ m
    nat_le_true n m is = grind (arith, nat_tests, is)
