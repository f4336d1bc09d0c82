-- [blank] What is passed over before a field, where the text goes on otherwise.
use Rattle.std.proofs.Common.{◌≡◌, ℕ, ◌+◌, ◌<◌, ◌≤◌, Bool, true, false, List, [], ◌∷◌, ◌++◌, length, drop, Option, Some, None, refl, subst, arith, length-drop, append-nil}
use Rattle.std.proofs.lemmas.List.{drop-append-le}
use Rattle.cm_text.specs.Bytes.{is_blank}
use Rattle.cm_fields.specs.declared.skipped.Comment.{Comment}
use Rattle.cm_fields.specs.declared.skipped.Comment.TheVariants.{Outside, ToMark, ToEnd}
use Rattle.cm_fields.specs.Skip.{ended, or_later, passed, skip, skip_from}

-- a place, where there is one, lies between two others
abbrev IsBetween : ℕ → ℕ → Option ℕ → Type 0
IsBetween least most None = Unit {0}
IsBetween least most (Some place) = (least ≤ place) × (place ≤ most)

between_wider : (least most low high : ℕ) (found : Option ℕ) → low ≤ least → most ≤ high → IsBetween least most found
    → IsBetween low high found
between_wider least most low high None below above is = tt
between_wider least most low high (Some place) below above is = (omega arith, omega arith)

between_ended : (comment : Comment) (at : ℕ) → IsBetween at at (ended comment at)
between_ended Outside at = (omega arith, omega arith)
between_ended ToMark at = tt
between_ended ToEnd at = tt

between_or_later : (at most : ℕ) (next : Option Comment) (later : Comment → Option ℕ)
    → ((comment : Comment) → IsBetween (at + 1) most (later comment)) → at ≤ most → IsBetween at most (or_later at next later)
between_or_later at most None later after room = (omega arith, room)
between_or_later at most (Some comment) later after room =
    between_wider (at + 1) most at most (later comment) (omega arith) (omega arith) (after comment)

skip_between : (raw : Bool) (comment : Comment) (at : ℕ) (rest : List ℕ)
    → IsBetween at (at + length rest) (skip_from raw comment at rest)
skip_between raw comment at [] =
    between_wider at at at (at + length {A = ℕ} []) (ended comment at) (omega arith) (omega arith) (between_ended comment at)
skip_between raw comment at (byte ∷ rest) =
    between_or_later at (at + length (byte ∷ rest)) (passed raw comment byte) (λ next. skip_from raw next (at + 1) rest)
    (λ next. between_wider (at + 1) (at + 1 + length rest) (at + 1) (at + length (byte ∷ rest)) (skip_from raw next (at + 1) rest)
    (omega arith) (omega arith) (skip_between raw next (at + 1) rest))
    (omega arith)

-- the place found is at least that from which it is sought, and at most the end of the text
pub skip_reaches : (raw : Bool) (comment : Comment) (at : ℕ) (rest : List ℕ) (place : ℕ)
    → skip_from raw comment at rest ≡ Some place → (at ≤ place) × (place ≤ at + length rest)
skip_reaches raw comment at rest place is = subst (IsBetween at (at + length rest)) is (skip_between raw comment at rest)

-- the other place is this one, where this lies before the end
abbrev IsKept : ℕ → Option ℕ → Option ℕ → Type 0
IsKept end None other = Unit {0}
IsKept end (Some place) other = place < end → other ≡ Some place

kept_beyond : (end most : ℕ) (found other : Option ℕ) → IsBetween end most found → IsKept end found other
kept_beyond end most None other is = tt
kept_beyond end most (Some place) other is = λ before. absurd (omega (arith, is.0))

kept_or_later : (end at : ℕ) (next : Option Comment) (later other : Comment → Option ℕ)
    → ((comment : Comment) → IsKept end (later comment) (other comment))
    → IsKept end (or_later at next later) (or_later at next other)
kept_or_later end at None later other after = λ before. refl
kept_or_later end at (Some comment) later other after = after comment

skip_kept : (raw : Bool) (comment : Comment) (at end : ℕ) (front more other : List ℕ) → end ≡ at + length front
    → IsKept end (skip_from raw comment at (front ++ more)) (skip_from raw comment at (front ++ other))
skip_kept raw comment at end [] more other is =
    kept_beyond end (at + length more) _ _
    (between_wider at (at + length more) end (at + length more) (skip_from raw comment at more) (omega arith) (omega arith)
    (skip_between raw comment at more))
skip_kept raw comment at end (byte ∷ front) more other is =
    kept_or_later end at (passed raw comment byte) (λ next. skip_from raw next (at + 1) (front ++ more))
    (λ next. skip_from raw next (at + 1) (front ++ other))
    (λ next. skip_kept raw next (at + 1) end front more other (omega arith))

kept_before : (end place : ℕ) (found other : Option ℕ) → IsKept end found other → found ≡ Some place → place < end
    → other ≡ Some place
kept_before end place found other kept is before =
    let at_place = subst (λ (o : Option ℕ). IsKept end o other) is kept in at_place before

-- a place found in the front is found there however the text goes on
pub skip_from_stays : (raw : Bool) (comment : Comment) (at : ℕ) (front more other : List ℕ) (place : ℕ)
    → skip_from raw comment at (front ++ more) ≡ Some place → place < at + length front
    → skip_from raw comment at (front ++ other) ≡ Some place
skip_from_stays raw comment at front more other place is before =
    kept_before (at + length front) place _ _ (skip_kept raw comment at (at + length front) front more other refl) is before

-- the same from a place of the front on
pub skip_stays_before : (raw : Bool) (front more other : List ℕ) (at place : ℕ) → at ≤ length front
    → skip raw (front ++ more) at ≡ Some place → place < length front → skip raw (front ++ other) at ≡ Some place
skip_stays_before raw front more other at place within is before =
    let first = drop-append-le at front more within in
    let second = drop-append-le at front other within in
    let found : skip_from raw Outside at (drop at front ++ more) ≡ Some place = rw (← first) is in
    rw second (skip_from_stays raw Outside at (drop at front) more other place found (omega (arith, length-drop at front)))

-- a place before the end of a text is the one on every longer text
pub skip_stays : (raw : Bool) (text more : List ℕ) (at place : ℕ) → skip raw text at ≡ Some place → place < length text
    → skip raw (text ++ more) at ≡ Some place
skip_stays raw text more at place is before =
    let reached = skip_reaches raw Outside at (drop at text) place is in
    let whole : skip raw (text ++ []) at ≡ Some place = rw (append-nil text) is in
    skip_stays_before raw text [] more at place (omega (arith, reached.0)) whole before

-- the place found lies in the text, after the one from which it is sought
pub skip_within : (raw : Bool) (text : List ℕ) (at place : ℕ) → at ≤ length text → skip raw text at ≡ Some place
    → (at ≤ place) × (place ≤ length text)
skip_within raw text at place within is =
    let size = length-drop at text in
    let reached = skip_reaches raw Outside at (drop at text) place is in
    (omega arith, omega arith)

-- a place that is found, within so many bytes
pub record IsFound (found : Option ℕ) (least most : ℕ) : Type 0 where
  pub place : ℕ
  pub is : found ≡ Some place
  pub after : least ≤ place
  pub within : place ≤ most

-- the end of the line is passed over nowhere
end_not_passed : (raw : Bool) (comment : Comment) → passed raw comment 13 ≡ None
unfolding is_blank
end_not_passed true Outside = refl
end_not_passed false Outside = refl
end_not_passed raw ToMark = refl
end_not_passed raw ToEnd = refl

finds_before_end : (raw : Bool) (comment : Comment) (at : ℕ) (rest : List ℕ)
    → IsFound (skip_from raw comment at (rest ++ 13 ∷ [])) at (at + length rest)
finds_before_end raw comment at [] =
    record { place = at; is = rw (end_not_passed raw comment) refl; after = omega arith; within = omega arith }
finds_before_end raw comment at (byte ∷ rest) = by (passed raw comment byte) (λ next. finds_before_end raw next (at + 1) rest)
  where
    by : (next : Option Comment) → ((next : Comment) → IsFound (skip_from raw next (at + 1) (rest ++ 13 ∷ [])) (at + 1) (at + 1 + length rest))
        → IsFound (or_later at next (λ next. skip_from raw next (at + 1) (rest ++ 13 ∷ []))) at (at + length (byte ∷ rest))
    by None later = record { place = at; is = refl; after = omega arith; within = omega arith }
    by (Some next) later =
        let found = later next in
        record { place = found.place; is = found.is; after = omega (arith, found.after); within = omega (arith, found.within) }

-- in a finished text a place is found, not after the end of the line
pub skip_finds : (raw : Bool) (line : List ℕ) (at : ℕ) → at ≤ length line
    → IsFound (skip raw (line ++ 13 ∷ []) at) at (length line)
skip_finds raw line at within =
    let size = length-drop at line in
    let rest = drop-append-le at line (13 ∷ []) within in
    let found = finds_before_end raw Outside at (drop at line) in
    record { place = found.place; is = rw rest found.is; after = found.after; within = omega (arith, found.within) }
