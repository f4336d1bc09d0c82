-- The names and texts that switches and rules read have their forms.
use Rattle.std.proofs.Common.{◌≡◌, ℕ, suc, ◌+◌, ◌-◌, ◌≤◌, ◌||◌, ◌&&◌, ◌==◌, Bool, true, false, cond, not, nat_le, if◌then◌else◌, List, [], ◌∷◌, length, take, drop, refl, ap, sym, subst, ◌∙◌, arith}
use Rattle.std.specs.List.{AllByRecursion, list_all}
use Rattle.std.proofs.lemmas.Bool.{and_from, and_parts, cond_both}
use Rattle.std.proofs.lemmas.Bool.Decides.{nat_tests}
use Rattle.std.proofs.lemmas.List.{drop-drop, length-take}
use Rattle.cm_lists.proofs.Bools.{cond_each}
use Rattle.cm_lists.proofs.Quantifiers.{all_drop, all_take}
use Rattle.cm_text.specs.Bytes.{is_line_byte, is_text}
use Rattle.cm_text.specs.Text.{IsLine, finished}
use Rattle.cm_state.specs.SessionState.{SessionState, text_of}
use Rattle.cm_text.specs.declared.name.TheConstants.{NAME_LIMIT}
use Rattle.cm_text.specs.declared.text.TheConstants.{JOIN}
use Rattle.cm_fields.specs.declared.code.Code.TheVariants.{FieldLong, NotQuoted}
use Rattle.cm_fields.specs.declared.trial.Try.TheVariants.{Accept, Refuse}
use Rattle.cm_fields.specs.Try.{span}
use Rattle.cm_fields.specs.declared.value.Span.{Span}
use Rattle.cm_fields.specs.declared.value.Value.TheVariants as values
use Rattle.cm_fields.specs.Quoted.{by_closing, closing, is_cut, quoted, unquoted}
use Rattle.cm_files.specs.Spec.{part}

-- what is between quotes ends no line and no row of one
abbrev is_inner : ℕ → Bool
is_inner byte = not (is_cut byte)

record IsInner (at size : ℕ) (rest : List ℕ) (place : Span) : Type 0 where
  starts : place.start ≡ at + 1
  more : at + 1 + size ≤ place.end
  inner : list_all is_inner (take (place.end - (at + 1 + size)) rest) ≡ true

one_more : (byte k : ℕ) (rest : List ℕ) → is_cut byte ≡ false → list_all is_inner (take k rest) ≡ true
    → list_all is_inner (take (suc k) (byte ∷ rest)) ≡ true
one_more byte k rest plain all = rw plain all

closing_inner : (at size written : ℕ) (rest : List ℕ) (place : Span) (looked end : ℕ)
    → by_closing at (closing size written rest) ≡ Accept (values.Quoted place) looked end → IsInner at size rest place
closing_inner at size written [] place looked end is = cc
closing_inner at size written (byte ∷ []) place looked end is =
    cond_each (λ found. by_closing at found ≡ Accept (values.Quoted place) looked end → IsInner at size (byte ∷ []) place)
    (is_cut byte) _ _ (λ is. cc) (λ is. cc) is
closing_inner at size written (byte ∷ next ∷ more) place looked end is =
    cond_both (is_cut byte) _ _ (λ found. by_closing at found ≡ Accept (values.Quoted place) looked end → IsInner at size (byte ∷ next ∷ more) place) (λ cr. λ is. cc) (λ plain. cond_both (byte == 34) _ _ (λ found. by_closing at found ≡ Accept (values.Quoted place) looked end → IsInner at size (byte ∷ next ∷ more) place) (λ quote. cond_both (next == 34) _ _ (λ found. by_closing at found ≡ Accept (values.Quoted place) looked end → IsInner at size (byte ∷ next ∷ more) place) (λ twice. λ is. (
    let it = closing_inner at (size + 2) (written + 1) more place looked end is in
    let far = it.more in
    let second : is_cut next ≡ false = grind (arith, nat_tests) in
    let sizes : place.end - (at + 1 + size) ≡ suc (suc (place.end - (at + 1 + (size + 2)))) = omega arith in
    record {
      starts = it.starts;
      more = omega arith;
      inner = ap (λ (n : ℕ). list_all is_inner (take n (byte ∷ next ∷ more))) sizes
          ∙ one_more byte (suc (place.end - (at + 1 + (size + 2)))) (next ∷ more) plain
          (one_more next (place.end - (at + 1 + (size + 2))) more second it.inner);
    }
    )) (λ alone. λ is. closed is)) (λ other. λ is. (
    let it = closing_inner at (size + 1) (written + 1) (next ∷ more) place looked end is in
    let far = it.more in
    let sizes : place.end - (at + 1 + size) ≡ suc (place.end - (at + 1 + (size + 1))) = omega arith in
    record {
      starts = it.starts;
      more = omega arith;
      inner = ap (λ (n : ℕ). list_all is_inner (take n (byte ∷ next ∷ more))) sizes
          ∙ one_more byte (place.end - (at + 1 + (size + 1))) (next ∷ more) plain it.inner;
    }
    ))) is
  where
    ends : (it : Span) → it ≡ span (at + 1) size → IsInner at size (byte ∷ next ∷ more) it
    ends it same =
        let none : at + 1 + size - (at + 1 + size) ≡ 0 = omega arith in
        subst (IsInner at size (byte ∷ next ∷ more)) (sym same) (record {
          starts = refl;
          more = omega arith;
          inner = ap (λ (n : ℕ). list_all is_inner (take n (byte ∷ next ∷ more))) none;
        })

    closed : (if nat_le written NAME_LIMIT then Accept (values.Quoted (span (at + 1) size)) (size + 3) (at + (size + 2)) else Refuse FieldLong (size + 3))
        ≡ Accept (values.Quoted place) looked end → IsInner at size (byte ∷ next ∷ more) place
    closed is = by (nat_le written NAME_LIMIT) is
      where
        by : (few : Bool) → (if few then Accept (values.Quoted (span (at + 1) size)) (size + 3) (at + (size + 2)) else Refuse FieldLong (size + 3))
            ≡ Accept (values.Quoted place) looked end → IsInner at size (byte ∷ next ∷ more) place
        by true is = let same : span (at + 1) size ≡ place = cc in ends place (sym same)
        by false is = cc

quoted_inner : (rest : List ℕ) (at : ℕ) (place : Span) (looked end : ℕ) → quoted rest at ≡ Accept (values.Quoted place) looked end
    → (place.start ≡ at + 1) × (list_all is_inner (take (place.end - place.start) (drop 1 rest)) ≡ true)
quoted_inner [] at place looked end is = cc
quoted_inner (byte ∷ rest) at place looked end is = by (byte == 34) is
  where
    by : (quote : Bool) → (if quote then by_closing at (closing 0 0 rest) else Refuse NotQuoted 1) ≡ Accept (values.Quoted place) looked end
        → (place.start ≡ at + 1) × (list_all is_inner (take (place.end - place.start) rest) ≡ true)
    by true is =
        let it = closing_inner at 0 0 rest place looked end is in
        let first = it.starts in
        let size : place.end - place.start ≡ place.end - (at + 1 + 0) = omega arith in
        (it.starts, ap (λ (n : ℕ). list_all is_inner (take n rest)) size ∙ it.inner)
    by false is = cc

-- a byte of a finished line
abbrev pub is_finished : ℕ → Bool
is_finished byte = is_line_byte byte || byte == 13

end_finished : is_finished 13 ≡ true
unfolding is_line_byte is_text
end_finished = refl

line_finished : (line : List ℕ) → AllByRecursion (λ byte. is_line_byte byte ≡ true) line → list_all is_finished (finished line) ≡ true
line_finished [] plain = and_from (is_finished 13) true end_finished refl
line_finished (byte ∷ line) plain = rw plain.0 (line_finished line plain.1)

line_plain : (line : List ℕ) → AllByRecursion (λ byte. is_line_byte byte ≡ true) line → list_all is_finished line ≡ true
line_plain [] plain = refl
line_plain (byte ∷ line) plain = rw plain.0 (line_plain line plain.1)

-- so are those of the text that a session holds
pub text_plain : (session : SessionState) → IsLine session.line → list_all is_finished (text_of session) ≡ true
text_plain session line = by session.is_finished
  where
    by : (test : Bool) → list_all is_finished (cond test (finished session.line) session.line) ≡ true
    by true = line_finished session.line line.plain
    by false = line_plain session.line line.plain

text_of_inner : (bytes : List ℕ) → list_all is_finished bytes ≡ true → list_all is_inner bytes ≡ true → list_all is_text bytes ≡ true
unfolding is_line_byte
text_of_inner [] all inner = refl
text_of_inner (byte ∷ bytes) all inner =
    let first = and_parts (is_finished byte) (list_all is_finished bytes) all in
    let second = and_parts (is_inner byte) (list_all is_inner bytes) inner in
    and_from (is_text byte) (list_all is_text bytes) (by (is_text byte) (byte == JOIN) (byte == 13) first.0 second.0)
    (text_of_inner bytes first.1 second.1)
  where
    by : (text joins cr : Bool) → ((text || joins) || cr) ≡ true → not (cr || joins) ≡ true → text ≡ true
    by true joins cr either other = refl
    by false true true either other = cc
    by false true false either other = cc
    by false false true either other = cc
    by false false false either other = cc

quote_is_text : is_text 34 ≡ true
unfolding is_text
quote_is_text = refl

unquoted_text : (bytes : List ℕ) → list_all is_text bytes ≡ true → list_all is_text (unquoted bytes) ≡ true
unquoted_text [] all = refl
unquoted_text (byte ∷ []) all = all
unquoted_text (byte ∷ next ∷ more) all =
    let first = and_parts (is_text byte) (list_all is_text (next ∷ more)) all in
    let second = and_parts (is_text next) (list_all is_text more) first.1 in
    cond_each (λ (it : List ℕ). list_all is_text it ≡ true) (byte == 34 && next == 34) (34 ∷ unquoted more) (byte ∷ unquoted (next ∷ more))
    (and_from (is_text 34) (list_all is_text (unquoted more)) quote_is_text (unquoted_text more second.1))
    (and_from (is_text byte) (list_all is_text (unquoted (next ∷ more))) first.0 (unquoted_text (next ∷ more) first.1))

-- the note of a quoted text in a finished line
pub note_formed : (text : List ℕ) (at : ℕ) (place : Span) (looked end : ℕ) → list_all is_finished text ≡ true
    → quoted (drop at text) at ≡ Accept (values.Quoted place) looked end
    → (nat_le (length (take NAME_LIMIT (unquoted (part text place)))) NAME_LIMIT
    && list_all is_text (take NAME_LIMIT (unquoted (part text place)))) ≡ true
note_formed text at place looked end all is =
    let it = quoted_inner (drop at text) at place looked end is in
    let first = it.0 in
    let from : drop place.start text ≡ drop 1 (drop at text) =
    ap (λ (n : ℕ). drop n text) (let sum : place.start ≡ at + 1 = it.0 in sum) ∙ sym (drop-drop 1 at text) in
    let inner : list_all is_inner (part text place) ≡ true =
    ap (λ (rest : List ℕ). list_all is_inner (take (place.end - place.start) rest)) from ∙ it.1 in
    let whole = all_take is_finished (place.end - place.start) (drop place.start text) (all_drop is_finished place.start text all) in
    let texts = unquoted_text (part text place) (text_of_inner (part text place) whole inner) in
    let size = length-take NAME_LIMIT (unquoted (part text place)) in
    let few : nat_le (length (take NAME_LIMIT (unquoted (part text place)))) NAME_LIMIT ≡ true = grind (arith, nat_tests) in
    and_from _ _ few (all_take is_text NAME_LIMIT (unquoted (part text place)) texts)
