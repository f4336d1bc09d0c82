-- The last slash of a text, and the length after it.
use Rattle.std.proofs.Common.{◌≡◌, ℕ, suc, ◌+◌, ◌<◌, ◌≤◌, ◌==◌, true, false, List, [], ◌∷◌, ◌++◌, length, length-append, take, drop, get_or, decimal, Result, Ok, refl, sym, ap, ◌∙◌, subst, arith, ne_eqb, add-one, take-append-drop, drop-cons}
use Rattle.std.specs.List.{list_all}
use Rattle.std.specs.Str.{IsUtf8}
use Rattle.std.specs.Str.Parse.{ParsesUnsigned}
use Rattle.std.proofs.lemmas.Bool.Decides.{nat_tests}
use Rattle.std.proofs.lemmas.List.{get_or-drop, length-drop}
use Rattle.std.proofs.Math.Seq.{get_or-append_seam}
use Rattle.std.proofs.lemmas.Fmt.{IsAscii-decimal, parse-decimal}
use Rattle.std.proofs.lemmas.Str.{IsUtf8-from_ascii}
use Rattle.cm_lists.proofs.Digits.{decimal_digits}
use Rattle.cm_lists.proofs.Quantifiers.{all_append_right, all_weaker}
use Rattle.std.specs.Char.{is_ascii_digit}
use Rattle.cm_net.specs.Parts.{IsLength, HasLastSlash, is_no_slash, slash}

-- bytes of which none is a slash
none_is : (text : List ℕ) → ((k : ℕ) → k < length text → get_or text k 0 ≡ slash → ⊥) → list_all is_no_slash text ≡ true
none_is [] none = refl
none_is (byte ∷ text) none =
    let here : (byte == slash) ≡ false = ne_eqb byte slash (none 0 (omega arith)) in
    let more = none_is text (λ k within. none (suc k) (omega (arith, within))) in
    rw here more

-- a slash after which there is none parts the text
pub parted_at : (text back : List ℕ) (at : ℕ) → at < length text → get_or text at 0 ≡ slash
    → ((k : ℕ) → at + 1 ≤ k → k < length text → get_or text k 0 ≡ slash → ⊥) → back ≡ drop (at + 1) text
    → HasLastSlash text (take at text) back
parted_at text back at within is none same =
    let cut : drop at text ≡ get_or text at 0 ∷ drop (suc at) text = drop-cons text at 0 within in
    let next : drop (suc at) text ≡ back = ap (λ n. drop n text) (sym (add-one at)) ∙ sym same in
    record {
      spelled = sym (take-append-drop at text) ∙ ap (λ (it : List ℕ). take at text ++ it) cut
          ∙ ap (λ (byte : ℕ). take at text ++ byte ∷ drop (suc at) text) is
          ∙ ap (λ (it : List ℕ). take at text ++ slash ∷ it) next;
      last = ap (list_all is_no_slash) same ∙ none_is (drop (at + 1) text) (λ k inside here.
          let size = length-drop (at + 1) text in
          none (at + 1 + k) (omega arith) (omega (arith, inside, size)) (sym (get_or-drop (at + 1) text k 0) ∙ here));
    }

-- where there is no slash nothing parts the text
pub not_parted : (text : List ℕ) → ((k : ℕ) → k < length text → get_or text k 0 ≡ slash → ⊥) → (front back : List ℕ)
    → HasLastSlash text front back → ⊥
not_parted text none front back parted =
    let spelled = parted.spelled in
    let size = simp length-append at (ap length spelled) in
    none (length front) (omega (arith, size)) (ap (λ (it : List ℕ). get_or it (length front) 0) spelled ∙ get_or-append_seam front slash back 0)

-- a slash is no byte after the last
no_slash_in : (front back : List ℕ) → list_all is_no_slash (front ++ slash ∷ back) ≡ true → ⊥
no_slash_in front back all =
    let here : false ≡ true = all_append_right is_no_slash front (slash ∷ back) all in
    cc

-- a text is parted in one way
pub one_parting : (front back other end : List ℕ) → front ++ slash ∷ back ≡ other ++ slash ∷ end
    → list_all is_no_slash back ≡ true → list_all is_no_slash end ≡ true → (front ≡ other) × (back ≡ end)
one_parting [] back [] end same all each = (refl, ap (λ (it : List ℕ). drop 1 it) same)
one_parting [] back (byte ∷ other) end same all each =
    let rest : back ≡ other ++ slash ∷ end = ap (λ (it : List ℕ). drop 1 it) same in
    absurd (no_slash_in other end (ap (list_all is_no_slash) (sym rest) ∙ all))
one_parting (byte ∷ front) back [] end same all each =
    let rest : front ++ slash ∷ back ≡ end = ap (λ (it : List ℕ). drop 1 it) same in
    absurd (no_slash_in front back (ap (list_all is_no_slash) rest ∙ each))
one_parting (byte ∷ front) back (first ∷ other) end same all each =
    let rest = one_parting front back other end (ap (λ (it : List ℕ). drop 1 it) same) all each in
    let here : byte ≡ first = ap (λ (it : List ℕ). get_or it 0 0) same in
    (ap (λ (it : List ℕ). byte ∷ it) rest.0 ∙ ap (λ (it : ℕ). it ∷ other) here, rest.1)

-- a decimal number has no slash
digit_is_no_slash : (byte : ℕ) → is_ascii_digit byte ≡ true → is_no_slash byte ≡ true
digit_is_no_slash byte is = grind (arith, nat_tests)

pub decimal_no_slash : (n : ℕ) → n < 256 → list_all is_no_slash (decimal n) ≡ true
decimal_no_slash n few =
    all_weaker is_ascii_digit is_no_slash digit_is_no_slash (decimal n) (decimal_digits n (omega arith))

-- the length that a text writes is what std reads of it
pub length_read : {E : Type 0} (limit n : ℕ) (text digits : List ℕ) (r : Result ℕ E) → limit < 256 → IsLength limit text n
    → digits ≡ text → ParsesUnsigned 8 10 digits r → r ≡ Ok n
length_read limit n text digits r few is same parsed =
    let small : n < 256 = omega (arith, is.within) in
    parse-decimal 8 n digits r (omega arith) (omega arith) (same ∙ is.spelled) parsed

pub length_is_text : (limit n : ℕ) (text : List ℕ) → limit < 256 → IsLength limit text n → IsUtf8 text
length_is_text limit n text few is =
    let small : n < 256 = omega (arith, is.within) in
    subst IsUtf8 (sym is.spelled) (IsUtf8-from_ascii (decimal n) (IsAscii-decimal n (omega arith)))
