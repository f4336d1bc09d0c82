-- One byte of a class, and of kinds with bars between them.
use Rattle.std.proofs.Common.{◌≡◌, ℕ, ◌+◌, ◌-◌, ◌<◌, ◌≤◌, true, false, List, [], ◌∷◌, ◌++◌, length, take, drop, get_or, refl, sym, ap, ◌∙◌, arith, nat_lt, Ok, Option, Result, length-drop}
use Rattle.std.proofs.lemmas.Bool.Decides.{nat_tests}
use Rattle.std.proofs.lemmas.List.{drop_more, get_or-drop, take_more}
use Rattle.cm_synopsis.specs.Kinds.{class_after, is_inside, kind_of, kinds_after, then_of, with_read}
use Rattle.cm_synopsis.specs.declared.field.Kind.{Kind}
use Rattle.cm_synopsis.specs.declared.reason.Reason.{Reason}

passes : (set passed byte : ℕ) (more : List ℕ) → nat_lt 0 passed ≡ true
    → class_after set passed (byte ∷ more) ≡ class_after set (passed - 1) more
passes set passed byte more is = rw is refl

-- a byte of the range before is passed
pub class_kept : (text : List ℕ) (set passed at : ℕ) (whole : Option ℕ) → at < length text → 0 < passed
    → class_after set passed (drop at text) ≡ whole → class_after set (passed - 1) (drop (at + 1) text) ≡ whole
class_kept text set passed at whole within some same =
    let is : nat_lt 0 passed ≡ true = grind (arith, nat_tests, some) in
    sym (passes set passed (get_or text at 0) (drop (at + 1) text) is)
    ∙ ap (class_after set passed) (sym (drop_more text at 0 within)) ∙ same

bars : (lists : List (List ℕ)) (made more : List Kind) (begun : List ℕ) (byte : ℕ) (bytes : List ℕ)
    → is_inside byte ≡ false → with_read made (kind_of lists begun) ≡ Ok more
    → kinds_after lists made begun (byte ∷ bytes) ≡ kinds_after lists more [] bytes
bars lists made more begun byte bytes is read =
    let step : kinds_after lists made begun (byte ∷ bytes)
    ≡ then_of (λ it. kinds_after lists it [] bytes) (with_read made (kind_of lists begun)) = rw is refl in
    step ∙ ap (then_of (λ it. kinds_after lists it [] bytes)) read

insides : (lists : List (List ℕ)) (made : List Kind) (begun : List ℕ) (byte : ℕ) (bytes : List ℕ)
    → is_inside byte ≡ true
    → kinds_after lists made begun (byte ∷ bytes) ≡ kinds_after lists made (begun ++ byte ∷ []) bytes
insides lists made begun byte bytes is = rw is refl

-- the bytes of a kind that is begun, with one more
begun_more : (text : List ℕ) (start at : ℕ) → start ≤ at → at < length text
    → take (at + 1 - start) (drop start text) ≡ take (at - start) (drop start text) ++ get_or text at 0 ∷ []
begun_more text start at order within =
    let size : at + 1 - start ≡ at - start + 1 = omega (arith, order) in
    let place : start + (at - start) ≡ at = omega (arith, order) in
    let inside : at - start < length (drop start text) = simp length-drop (omega (arith, order, within)) in
    ap (λ n. take n (drop start text)) size
    ∙ take_more (drop start text) (at - start) 0 inside
    ∙ ap (λ byte. take (at - start) (drop start text) ++ byte ∷ [])
    (get_or-drop start text (at - start) 0 ∙ ap (λ n. get_or text n 0) place)

-- a byte that is no bar goes on with the kind
pub inside_kept : (lists : List (List ℕ)) (made : List Kind) (text : List ℕ) (start at : ℕ)
    (whole : Result (List Kind) Reason) → start ≤ at → at < length text → is_inside (get_or text at 0) ≡ true
    → kinds_after lists made (take (at - start) (drop start text)) (drop at text) ≡ whole
    → kinds_after lists made (take (at + 1 - start) (drop start text)) (drop (at + 1) text) ≡ whole
inside_kept lists made text start at whole order within is same =
    ap (λ it. kinds_after lists made it (drop (at + 1) text)) (begun_more text start at order within)
    ∙ sym (insides lists made (take (at - start) (drop start text)) (get_or text at 0) (drop (at + 1) text) is)
    ∙ ap (kinds_after lists made (take (at - start) (drop start text))) (sym (drop_more text at 0 within)) ∙ same

-- a bar ends it
pub bar_kept : (lists : List (List ℕ)) (made more : List Kind) (text : List ℕ) (start at : ℕ)
    (whole : Result (List Kind) Reason) → at < length text → is_inside (get_or text at 0) ≡ false
    → with_read made (kind_of lists (take (at - start) (drop start text))) ≡ Ok more
    → kinds_after lists made (take (at - start) (drop start text)) (drop at text) ≡ whole
    → kinds_after lists more (take (at + 1 - (at + 1)) (drop (at + 1) text)) (drop (at + 1) text) ≡ whole
bar_kept lists made more text start at whole within is read same =
    let none : at + 1 - (at + 1) ≡ 0 = omega arith in
    ap (λ n. kinds_after lists more (take n (drop (at + 1) text)) (drop (at + 1) text)) none
    ∙ sym (bars lists made more (take (at - start) (drop start text)) (get_or text at 0) (drop (at + 1) text) is read)
    ∙ ap (kinds_after lists made (take (at - start) (drop start text))) (sym (drop_more text at 0 within)) ∙ same
