-- Laws of what a text begins with, with no regard to the case of letters.
use Rattle.std.proofs.Common.{◌≡◌, ℕ, ◌≤◌, Bool, true, false, List, ◌++◌, length, take, drop, map, refl, arith, ap, length-append, length-drop, length-take, ◌∙◌, sym}
use Rattle.std.specs.Char.{to_ascii_lowercase}
use Rattle.std.proofs.Math.Seq.{take-append_seam}
use Rattle.std.proofs.lemmas.List.{length-map, map-append, take-append-drop, take-map, take-take, take_all}
use Rattle.std.proofs.lemmas.Slice.Eq.{bytes_eq-Decides}
use Rattle.cm_text.specs.Case.{begins_with, equals}

-- a text without the case of its letters
abbrev pub lower : List ℕ → List ℕ
lower text = map to_ascii_lowercase text

-- a text begins with another exactly where its first bytes are that, without the case of letters
pub begins_same : (text other : List ℕ) → begins_with text other ≡ true → lower (take (length other) text) ≡ lower other
unfolding begins_with equals
begins_same text other begins = (bytes_eq-Decides _ _).0 begins

pub same_begins : (text other : List ℕ) → lower (take (length other) text) ≡ lower other → begins_with text other ≡ true
unfolding begins_with equals
same_begins text other same = (bytes_eq-Decides _ _).1 same

-- a text is no shorter than what it begins with
pub begins-le : (text other : List ℕ) → begins_with text other ≡ true → length other ≤ length text
begins-le text other begins =
    let same = ap length (begins_same text other begins) in
    let some = length-map (take (length other) text) to_ascii_lowercase in
    let all = length-map other to_ascii_lowercase in
    let size = length-take (length other) text in
    omega (arith, same, some, all, size)

-- what it begins with, and the rest of it, are as long as the text
pub length-whole : (text other : List ℕ) → begins_with text other ≡ true
    → length (other ++ drop (length other) text) ≡ length text
length-whole text other begins =
    let most = begins-le text other begins in
    simp (length-append, length-drop) (omega (arith, most))

-- and it begins with the two together
pub begins_whole : (text other : List ℕ) → begins_with text other ≡ true
    → begins_with text (other ++ drop (length other) text) ≡ true
begins_whole text other begins =
    let whole = other ++ drop (length other) text in
    let size = length-whole text other begins in
    let all : take (length whole) text ≡ text = take_all (length whole) text (omega (arith, size)) in
    let parts : lower (take (length other) text) ++ lower (drop (length other) text) ≡ lower text =
    sym (map-append to_ascii_lowercase (take (length other) text) (drop (length other) text))
    ∙ ap lower (take-append-drop (length other) text) in
    let joined : lower other ++ lower (drop (length other) text) ≡ lower text =
    rw (← begins_same text other begins) parts in
    same_begins text whole
    (ap lower all ∙ sym joined ∙ sym (map-append to_ascii_lowercase other (drop (length other) text)))

-- a text that does not begin with another does not begin with what is longer
pub begins_longer : (text other more : List ℕ) → begins_with text other ≡ false
    → begins_with text (other ++ more) ≡ false
begins_longer text other more begins = by (begins_with text (other ++ more)) refl
  where
    shorter : begins_with text (other ++ more) ≡ true → begins_with text other ≡ true
    shorter longer =
        let same = ap (take (length other)) (begins_same text (other ++ more) longer) in
        let within : length other ≤ length (other ++ more) = simp length-append (omega arith) in
        let size = length-map other to_ascii_lowercase in
        let first : take (length other) (lower (take (length (other ++ more)) text))
        ≡ lower (take (length other) text) =
        take-map to_ascii_lowercase (length other) (take (length (other ++ more)) text)
        ∙ ap lower (take-take (length other) (length (other ++ more)) text within) in
        let second : take (length other) (lower (other ++ more)) ≡ lower other =
        ap (take (length other)) (map-append to_ascii_lowercase other more)
        ∙ ap (λ n. take n (lower other ++ lower more)) (sym size) ∙ take-append_seam (lower other) (lower more) in
        same_begins text other (sym first ∙ same ∙ second)

    by : (b : Bool) → begins_with text (other ++ more) ≡ b → b ≡ false
    by true longer = let short = shorter longer in cc
    by false longer = refl
