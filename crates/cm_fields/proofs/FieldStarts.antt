-- Where a field begins: the walk over the bytes, and what is there.
use Rattle.std.proofs.Common.{◌≡◌, ◌≢◌, ℕ, ◌+◌, ◌≤◌, Bool, true, false, ◌==◌, inl, inr, List, [], ◌∷◌, ◌++◌, length, drop, Option, Some, None, refl, subst, sym, ap, ◌∙◌, arith, append-nil, append_assoc, length-append, length-drop}
use Rattle.std.proofs.lemmas.List.{drop-append-le}
use Rattle.std.proofs.lemmas.Bool.{cond_both, eqb-false, eqb-true, ne_eqb}
use Rattle.cm_text.specs.Bytes.{is_blank}
use Rattle.cm_fields.specs.declared.skipped.Comment.{Comment}
use Rattle.cm_fields.specs.declared.skipped.Comment.TheVariants.{Outside, ToMark, ToEnd}
use Rattle.cm_fields.specs.BeforeField.{ArePassed, BeginsOther, EndsLine, HasNoEnd, HasNoMark, IsOpen, IsPast, IsUnended}
use Rattle.cm_fields.specs.BeforeField.{blank, marked, nothing, to_end, unclosed}
use Rattle.cm_fields.specs.Skip.{or_later, passed, skip, skip_from}

mark_is_no_blank : is_blank 33 ≡ false
unfolding is_blank
mark_is_no_blank = refl

semicolon_is_no_blank : is_blank 59 ≡ false
unfolding is_blank
semicolon_is_no_blank = refl

end_is_no_blank : is_blank 13 ≡ false
unfolding is_blank
end_is_no_blank = refl

-- from what is there to the walk

through_mark : (raw : Bool) (at : ℕ) (inside rest : List ℕ) → HasNoMark inside
    → skip_from raw ToMark at (inside ++ 33 ∷ rest) ≡ skip_from raw Outside (at + length inside + 1) rest
through_mark raw at [] rest inner = ap (λ place. skip_from raw Outside place rest) (omega arith)
through_mark raw at (byte ∷ inside) rest inner =
    let first = ne_eqb byte 13 inner.0.1 in
    let second = ne_eqb byte 33 inner.0.0 in
    let place : at + 1 + length inside + 1 ≡ at + length (byte ∷ inside) + 1 = omega arith in
    rw (first, second) (through_mark raw (at + 1) inside rest inner.1 ∙ ap (λ place. skip_from raw Outside place rest) place)

mark_to_end : (raw : Bool) (at : ℕ) (inside after : List ℕ) → HasNoMark inside → EndsLine after
    → skip_from raw ToMark at (inside ++ after) ≡ Some (at + length inside)
mark_to_end raw at [] [] inner end = absurd end
mark_to_end raw at [] (byte ∷ after) inner end = rw end (ap Some (omega arith))
mark_to_end raw at (byte ∷ inside) after inner end =
    let first = ne_eqb byte 13 inner.0.1 in
    let second = ne_eqb byte 33 inner.0.0 in
    let place : at + 1 + length inside ≡ at + length (byte ∷ inside) = omega arith in
    rw (first, second) (mark_to_end raw (at + 1) inside after inner.1 end ∙ ap Some place)

semicolon_to_end : (raw : Bool) (at : ℕ) (inside after : List ℕ) → HasNoEnd inside → EndsLine after
    → skip_from raw ToEnd at (inside ++ after) ≡ Some (at + length inside)
semicolon_to_end raw at [] [] inner end = absurd end
semicolon_to_end raw at [] (byte ∷ after) inner end = rw end (ap Some (omega arith))
semicolon_to_end raw at (byte ∷ inside) after inner end =
    let first = ne_eqb byte 13 inner.0 in
    let place : at + 1 + length inside ≡ at + length (byte ∷ inside) = omega arith in
    rw first (semicolon_to_end raw (at + 1) inside after inner.1 end ∙ ap Some place)

stops_at_end : (raw : Bool) (at : ℕ) (after : List ℕ) → EndsLine after → skip_from raw Outside at after ≡ Some at
stops_at_end raw at [] end = absurd end
stops_at_end true at (byte ∷ after) end = rw (end, end_is_no_blank)
stops_at_end false at (byte ∷ after) end = rw (end, end_is_no_blank)

begins_mark : (raw : Bool) (at : ℕ) (rest : List ℕ) → raw ≡ false
    → skip_from raw Outside at (33 ∷ rest) ≡ skip_from raw ToMark (at + 1) rest
begins_mark true at rest has = cc
begins_mark false at rest has = rw mark_is_no_blank

begins_semicolon : (raw : Bool) (at : ℕ) (rest : List ℕ) → raw ≡ false
    → skip_from raw Outside at (59 ∷ rest) ≡ skip_from raw ToEnd (at + 1) rest
begins_semicolon true at rest has = cc
begins_semicolon false at rest has = rw semicolon_is_no_blank

-- the walk passes over blanks and whole comments
goes_past : (raw : Bool) (after : List ℕ) (at : ℕ) (bytes : List ℕ) → ArePassed raw after bytes
    → skip_from raw Outside at (bytes ++ after) ≡ skip_from raw Outside (at + length bytes) after
goes_past raw after at bytes nothing = ap (λ place. skip_from raw Outside place after) (omega arith)
goes_past raw after at bytes (blank byte more is rest) =
    let place : at + 1 + length more ≡ at + length (byte ∷ more) = omega arith in
    rw is (goes_past raw after (at + 1) more rest ∙ ap (λ place. skip_from raw Outside place after) place)
goes_past raw after at bytes (marked inside more has inner rest) =
    let whole : (inside ++ 33 ∷ more) ++ after ≡ inside ++ 33 ∷ (more ++ after) = append_assoc inside (33 ∷ more) after in
    let place : at + 1 + length inside + 1 + length more ≡ at + length (33 ∷ inside ++ 33 ∷ more) =
    omega (arith, length-append inside (33 ∷ more)) in
    begins_mark raw at ((inside ++ 33 ∷ more) ++ after) has
    ∙ ap (λ text. skip_from raw ToMark (at + 1) text) whole
    ∙ through_mark raw (at + 1) inside (more ++ after) inner
    ∙ goes_past raw after (at + 1 + length inside + 1) more rest
    ∙ ap (λ place. skip_from raw Outside place after) place
goes_past raw after at bytes (unclosed inside has inner end) =
    let place : at + 1 + length inside ≡ at + length (33 ∷ inside) = omega arith in
    begins_mark raw at (inside ++ after) has
    ∙ mark_to_end raw (at + 1) inside after inner end ∙ ap Some place
    ∙ sym (stops_at_end raw (at + length (33 ∷ inside)) after end)
goes_past raw after at bytes (to_end inside has inner end) =
    let place : at + 1 + length inside ≡ at + length (59 ∷ inside) = omega arith in
    begins_semicolon raw at (inside ++ after) has
    ∙ semicolon_to_end raw (at + 1) inside after inner end ∙ ap Some place
    ∙ sym (stops_at_end raw (at + length (59 ∷ inside)) after end)

stops_at_other : (raw : Bool) (at : ℕ) (after : List ℕ) → BeginsOther raw after → skip_from raw Outside at after ≡ Some at
stops_at_other raw at [] other = refl
stops_at_other true at (byte ∷ rest) other = let first = other.0 in rw first
stops_at_other false at (byte ∷ rest) other =
    let unlike = other.1 refl in
    let first = other.0 in
    let second = ne_eqb byte 33 unlike.0 in
    let third = ne_eqb byte 59 unlike.1 in
    rw (first, second, third)

stays_in_mark : (raw : Bool) (at : ℕ) (inside : List ℕ) → HasNoMark inside → skip_from raw ToMark at inside ≡ None
stays_in_mark raw at [] inner = refl
stays_in_mark raw at (byte ∷ inside) inner =
    let first = ne_eqb byte 13 inner.0.1 in
    let second = ne_eqb byte 33 inner.0.0 in
    rw (first, second) (stays_in_mark raw (at + 1) inside inner.1)

stays_in_semicolon : (raw : Bool) (at : ℕ) (inside : List ℕ) → HasNoEnd inside → skip_from raw ToEnd at inside ≡ None
stays_in_semicolon raw at [] inner = refl
stays_in_semicolon raw at (byte ∷ inside) inner =
    let first = ne_eqb byte 13 inner.0 in
    rw first (stays_in_semicolon raw (at + 1) inside inner.1)

never_ends : (raw : Bool) (at : ℕ) (after : List ℕ) → raw ≡ false → IsUnended after → skip_from raw Outside at after ≡ None
never_ends raw at [] has unended = absurd unended
never_ends raw at (byte ∷ inside) has (inl (is, inner)) =
    rw is (begins_mark raw at inside has ∙ stays_in_mark raw (at + 1) inside inner)
never_ends raw at (byte ∷ inside) has (inr (is, inner)) =
    rw is (begins_semicolon raw at inside has ∙ stays_in_semicolon raw (at + 1) inside inner)

pub skip_of_past : (raw : Bool) (text : List ℕ) (at place : ℕ) → IsPast raw (drop at text) at place
    → skip raw text at ≡ Some place
skip_of_past raw text at place past =
    ap (λ rest. skip_from raw Outside at rest) past.whole
    ∙ goes_past raw past.after at past.bytes past.passed
    ∙ stops_at_other raw (at + length past.bytes) past.after past.other
    ∙ ap Some (sym past.ends)

pub skip_of_open : (raw : Bool) (text : List ℕ) (at : ℕ) → IsOpen raw (drop at text) → skip raw text at ≡ None
skip_of_open raw text at open_comment =
    ap (λ rest. skip_from raw Outside at rest) open_comment.whole
    ∙ goes_past raw open_comment.after at open_comment.bytes open_comment.passed
    ∙ never_ends raw (at + length open_comment.bytes) open_comment.after open_comment.has_comments open_comment.unended

-- from the walk to what is there

abbrev FoundAt : Bool → List ℕ → ℕ → Option ℕ → Type 0
FoundAt raw rest at None = IsOpen raw rest
FoundAt raw rest at (Some place) = IsPast raw rest at place

found_further : (raw : Bool) (front rest : List ℕ) (at : ℕ) (found : Option ℕ)
    → ((after bytes : List ℕ) → ArePassed raw after bytes → ArePassed raw after (front ++ bytes))
    → FoundAt raw rest (at + length front) found → FoundAt raw (front ++ rest) at found
found_further raw front rest at None goes is_found = record {
  bytes = front ++ is_found.bytes;
  after = is_found.after;
  whole = ap (λ more. front ++ more) is_found.whole ∙ sym (append_assoc front is_found.bytes is_found.after);
  has_comments = is_found.has_comments;
  passed = goes is_found.after is_found.bytes is_found.passed;
  unended = is_found.unended;
}
found_further raw front rest at (Some place) goes is_found = record {
  bytes = front ++ is_found.bytes;
  after = is_found.after;
  whole = ap (λ more. front ++ more) is_found.whole ∙ sym (append_assoc front is_found.bytes is_found.after);
  ends = omega (arith, is_found.ends, length-append front is_found.bytes);
  passed = goes is_found.after is_found.bytes is_found.passed;
  other = is_found.other;
}

-- what the walk tells from a place on, within a comment however it began
abbrev Tells : Bool → Comment → ℕ → List ℕ → Option ℕ → Type 0
Tells raw Outside at rest found = FoundAt raw rest at found
Tells raw ToMark at rest found =
    (inside : List ℕ) (begin : ℕ) → HasNoMark inside → at ≡ begin + length (33 ∷ inside)
    → FoundAt raw (33 ∷ inside ++ rest) begin found
Tells raw ToEnd at rest found =
    (inside : List ℕ) (begin : ℕ) → HasNoEnd inside → at ≡ begin + length (59 ∷ inside)
    → FoundAt raw (59 ∷ inside ++ rest) begin found

-- only a text that is not raw has comments
abbrev MayBeIn : Bool → Comment → Type 0
MayBeIn raw Outside = Unit {0}
MayBeIn raw ToMark = raw ≡ false
MayBeIn raw ToEnd = raw ≡ false

outside_tells : (raw : Bool) (at byte : ℕ) (rest : List ℕ)
    → ((comment : Comment) → MayBeIn raw comment → Tells raw comment (at + 1) rest (skip_from raw comment (at + 1) rest))
    → FoundAt raw (byte ∷ rest) at (or_later at (passed raw Outside byte) (λ next. skip_from raw next (at + 1) rest))
outside_tells raw at byte rest later =
    let P : Option Comment → Type 0 = λ next. FoundAt raw (byte ∷ rest) at (or_later at next (λ next. skip_from raw next (at + 1) rest)) in
    cond_both (is_blank byte) (Some Outside) _ P (λ is. found_further raw (byte ∷ []) rest at _ (λ after bytes before. blank byte bytes is before) (later Outside tt)) (λ plain. cond_both raw None _ P (λ is_raw. record {
      bytes = [];
      after = byte ∷ rest;
      whole = refl;
      ends = omega arith;
      passed = nothing;
      other = (plain, λ (has : raw ≡ false). absurd (cc));
    }) (λ has. cond_both (byte == 33) (Some ToMark) _ P (λ test. let is = eqb-true byte 33 test in rw is (later ToMark has [] at tt (omega arith))) (λ first. cond_both (byte == 59) (Some ToEnd) None P (λ test. let is = eqb-true byte 59 test in rw is (later ToEnd has [] at tt (omega arith))) (λ second. record {
      bytes = [];
      after = byte ∷ rest;
      whole = refl;
      ends = omega arith;
      passed = nothing;
      other = (plain, λ _. (eqb-false byte 33 first, eqb-false byte 59 second));
    }))))

no_mark_push : (inside : List ℕ) (byte : ℕ) → HasNoMark inside → byte ≢ 33 → byte ≢ 13 → HasNoMark (inside ++ byte ∷ [])
no_mark_push [] byte inner mark end = ((mark, end), tt)
no_mark_push (first ∷ inside) byte inner mark end = (inner.0, no_mark_push inside byte inner.1 mark end)

no_end_push : (inside : List ℕ) (byte : ℕ) → HasNoEnd inside → byte ≢ 13 → HasNoEnd (inside ++ byte ∷ [])
no_end_push [] byte inner end = (end, tt)
no_end_push (first ∷ inside) byte inner end = (inner.0, no_end_push inside byte inner.1 end)

-- the end of the line ends a comment and is no part of it
other_at_end : (raw : Bool) (byte : ℕ) (rest : List ℕ) → byte ≡ 13 → BeginsOther raw (byte ∷ rest)
other_at_end raw byte rest is =
    (rw is end_is_no_blank, λ _. (λ (e : byte ≡ 33). absurd (omega arith), λ (e : byte ≡ 59). absurd (omega arith)))

-- one byte more of a comment
found_longer : (raw : Bool) (inside : List ℕ) (byte : ℕ) (rest : List ℕ) (begin : ℕ) (found : Option ℕ)
    → FoundAt raw ((inside ++ byte ∷ []) ++ rest) begin found → FoundAt raw (inside ++ byte ∷ rest) begin found
found_longer raw inside byte rest begin found is_found =
    subst (λ (text : List ℕ). FoundAt raw text begin found) (append_assoc inside (byte ∷ []) rest) is_found

marked_before : (raw : Bool) (inside after bytes : List ℕ) → raw ≡ false → HasNoMark inside → ArePassed raw after bytes
    → ArePassed raw after ((33 ∷ inside ++ 33 ∷ []) ++ bytes)
marked_before raw inside after bytes has inner before =
    subst (ArePassed raw after) (sym (append_assoc (33 ∷ inside) (33 ∷ []) bytes)) (marked inside bytes has inner before)

mark_tells : (raw : Bool) (at byte : ℕ) (rest : List ℕ) → raw ≡ false
    → ((comment : Comment) → MayBeIn raw comment → Tells raw comment (at + 1) rest (skip_from raw comment (at + 1) rest))
    → (inside : List ℕ) (begin : ℕ) → HasNoMark inside → at ≡ begin + length (33 ∷ inside)
    → FoundAt raw (33 ∷ inside ++ byte ∷ rest) begin (or_later at (passed raw ToMark byte) (λ next. skip_from raw next (at + 1) rest))
mark_tells raw at byte rest has later inside begin inner place =
    let P : Option Comment → Type 0 = λ next. FoundAt raw (33 ∷ inside ++ byte ∷ rest) begin (or_later at next (λ next. skip_from raw next (at + 1) rest)) in
    cond_both (byte == 13) None _ P (λ test. let is = eqb-true byte 13 test in record {
      bytes = 33 ∷ inside;
      after = byte ∷ rest;
      whole = refl;
      ends = place;
      passed = unclosed inside has inner is;
      other = other_at_end raw byte rest is;
    }) (λ end. cond_both (byte == 33) (Some Outside) (Some ToMark) P (λ test.
    let is = eqb-true byte 33 test in
    let further : at + 1 ≡ begin + length (33 ∷ inside ++ 33 ∷ []) = omega (arith, length-append (33 ∷ inside) (33 ∷ [])) in
    let is_found = subst (λ (from : ℕ). FoundAt raw rest from (skip_from raw Outside (at + 1) rest)) further (later Outside tt) in
    rw is (found_longer raw (33 ∷ inside) 33 rest begin _
    (found_further raw (33 ∷ inside ++ 33 ∷ []) rest begin _ (λ after bytes before. marked_before raw inside after bytes has inner before) is_found))) (λ mark. found_longer raw (33 ∷ inside) byte rest begin _
    (later ToMark has (inside ++ byte ∷ []) begin (no_mark_push inside byte inner (eqb-false byte 33 mark) (eqb-false byte 13 end))
    (omega (arith, length-append inside (byte ∷ []))))))

semicolon_tells : (raw : Bool) (at byte : ℕ) (rest : List ℕ) → raw ≡ false
    → ((comment : Comment) → MayBeIn raw comment → Tells raw comment (at + 1) rest (skip_from raw comment (at + 1) rest))
    → (inside : List ℕ) (begin : ℕ) → HasNoEnd inside → at ≡ begin + length (59 ∷ inside)
    → FoundAt raw (59 ∷ inside ++ byte ∷ rest) begin (or_later at (passed raw ToEnd byte) (λ next. skip_from raw next (at + 1) rest))
semicolon_tells raw at byte rest has later inside begin inner place =
    let P : Option Comment → Type 0 = λ next. FoundAt raw (59 ∷ inside ++ byte ∷ rest) begin (or_later at next (λ next. skip_from raw next (at + 1) rest)) in
    cond_both (byte == 13) None (Some ToEnd) P (λ test. let is = eqb-true byte 13 test in record {
      bytes = 59 ∷ inside;
      after = byte ∷ rest;
      whole = refl;
      ends = place;
      passed = to_end inside has inner is;
      other = other_at_end raw byte rest is;
    }) (λ end. found_longer raw (59 ∷ inside) byte rest begin _
    (later ToEnd has (inside ++ byte ∷ []) begin (no_end_push inside byte inner (eqb-false byte 13 end))
    (omega (arith, length-append inside (byte ∷ [])))))

walk_tells : (raw : Bool) (comment : Comment) (at : ℕ) (rest : List ℕ) → MayBeIn raw comment
    → Tells raw comment at rest (skip_from raw comment at rest)
walk_tells raw Outside at [] has =
    record { bytes = []; after = []; whole = refl; ends = omega arith; passed = nothing; other = tt }
walk_tells raw ToMark at [] has = λ inside begin inner place. record {
  bytes = [];
  after = 33 ∷ inside ++ [];
  whole = refl;
  has_comments = has;
  passed = nothing;
  unended = inl (refl, subst HasNoMark (sym (append-nil inside)) inner);
}
walk_tells raw ToEnd at [] has = λ inside begin inner place. record {
  bytes = [];
  after = 59 ∷ inside ++ [];
  whole = refl;
  has_comments = has;
  passed = nothing;
  unended = inr (refl, subst HasNoEnd (sym (append-nil inside)) inner);
}
walk_tells raw Outside at (byte ∷ rest) has =
    outside_tells raw at byte rest (λ comment may. walk_tells raw comment (at + 1) rest may)
walk_tells raw ToMark at (byte ∷ rest) has =
    mark_tells raw at byte rest has (λ comment may. walk_tells raw comment (at + 1) rest may)
walk_tells raw ToEnd at (byte ∷ rest) has =
    semicolon_tells raw at byte rest has (λ comment may. walk_tells raw comment (at + 1) rest may)

pub past_of_skip : (raw : Bool) (text : List ℕ) (at place : ℕ) → skip raw text at ≡ Some place
    → IsPast raw (drop at text) at place
past_of_skip raw text at place is = subst (FoundAt raw (drop at text) at) is (walk_tells raw Outside at (drop at text) tt)

pub open_of_skip : (raw : Bool) (text : List ℕ) (at : ℕ) → skip raw text at ≡ None → IsOpen raw (drop at text)
open_of_skip raw text at is = subst (FoundAt raw (drop at text) at) is (walk_tells raw Outside at (drop at text) tt)

skip_from_goes_on : (raw : Bool) (comment : Comment) (at : ℕ) (rest more : List ℕ) (place : ℕ)
    → skip_from raw comment at rest ≡ Some place → (place ≡ at + length rest → BeginsOther raw more)
    → skip_from raw comment at (rest ++ more) ≡ Some place
skip_from_goes_on raw Outside at [] more place is other =
    let same : at ≡ place = cc in
    stops_at_other raw at more (other (omega arith)) ∙ is
skip_from_goes_on raw ToMark at [] more place is other = cc
skip_from_goes_on raw ToEnd at [] more place is other = cc
skip_from_goes_on raw comment at (byte ∷ rest) more place is other =
    by (passed raw comment byte) (λ next is other. skip_from_goes_on raw next (at + 1) rest more place is other) is
  where
    by : (next : Option Comment)
        → ((next : Comment) → skip_from raw next (at + 1) rest ≡ Some place → (place ≡ at + 1 + length rest → BeginsOther raw more)
        → skip_from raw next (at + 1) (rest ++ more) ≡ Some place)
        → or_later at next (λ next. skip_from raw next (at + 1) rest) ≡ Some place
        → or_later at next (λ next. skip_from raw next (at + 1) (rest ++ more)) ≡ Some place
    by None later is = is
    by (Some next) later is = later next is (λ ends. other (omega arith))

-- a place that is found stays however the text goes on, unless it is the end and what follows is passed over
pub skip_goes_on : (raw : Bool) (text more : List ℕ) (at place : ℕ) → at ≤ length text → skip raw text at ≡ Some place
    → (place ≡ length text → BeginsOther raw more) → skip raw (text ++ more) at ≡ Some place
skip_goes_on raw text more at place within is other =
    let whole = drop-append-le at text more within in
    let size = length-drop at text in
    rw whole (skip_from_goes_on raw Outside at (drop at text) more place is (λ ends. other (omega arith)))
