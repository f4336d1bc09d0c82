-- [quoted-text] The text after an opening quote: one byte of it, and what decides.
use Rattle.std.proofs.Common.{◌≡◌, ◌≢◌, ℕ, ◌+◌, ◌-◌, ◌≤◌, Bool, true, false, ◌==◌, nat_le, if◌then◌else◌, List, [], ◌∷◌, ◌++◌, length, take, drop, get_or, refl, subst, arith}
use Rattle.std.proofs.lemmas.Bool.Decides.{nat_tests}
use Rattle.std.proofs.lemmas.List.{take_all}
use Rattle.cm_lists.proofs.Bools.{by_test, cond_each}
use Rattle.std.proofs.lemmas.Bool.{cond_both, ne_eqb}
use Rattle.cm_text.specs.declared.name.TheConstants.{NAME_LIMIT}
use Rattle.cm_text.specs.declared.text.TheConstants.{JOIN, LINE_LIMIT}
use Rattle.cm_fields.specs.declared.code.Code.TheVariants.{FieldLong, NotQuoted}
use Rattle.cm_fields.specs.declared.quotes.Closing.{Closing}
use Rattle.cm_fields.specs.declared.quotes.Closing.TheVariants.{Closed, Cut, Unknown}
use Rattle.cm_fields.specs.declared.value.Value.{Value}
use Rattle.cm_fields.specs.declared.value.Value.TheVariants.{Quoted}
use Rattle.cm_fields.specs.declared.trial.Try.{Try}
use Rattle.cm_fields.specs.declared.trial.Try.TheVariants.{Accept, Refuse, More}
use Rattle.cm_fields.specs.Local.{Holds, IsLocal, IsSeen}
use Rattle.cm_fields.specs.Quoted.{IsWithin, by_closing_of, closing, is_cut, long_quoted, quoted, quoted_of}
use Rattle.cm_fields.specs.Try.{span}
use Rattle.cm_fields.proofs.Trials.{LooksBeyond, Reaches, ReachesIfAccept, holds_beyond, holds_both, holds_same, is_local, reaches_accepted}

no_cut : (byte : ℕ) → byte ≢ 13 → byte ≢ JOIN → is_cut byte ≡ false
no_cut byte inner whole = let end = ne_eqb byte 13 inner in let join = ne_eqb byte JOIN whole in rw (end, join) refl

-- after a byte that is neither a quote nor the end of the line or of its row
pub plain_passed : (size written : ℕ) (inside : List ℕ) → 1 ≤ length inside → get_or inside 0 0 ≢ 13
    → get_or inside 0 0 ≢ JOIN → get_or inside 0 0 ≢ 34 → closing size written inside ≡ closing (size + 1) (written + 1) (take (length inside - 1) (drop 1 inside))
plain_passed size written [] some inner whole plain = absurd (omega arith)
plain_passed size written (byte ∷ []) some inner whole plain = let end = no_cut byte inner whole in rw end
plain_passed size written (byte ∷ next ∷ more) some inner whole plain =
    let end = no_cut byte inner whole in
    let quote = ne_eqb byte 34 plain in
    let rest : take (length (byte ∷ next ∷ more) - 1) (next ∷ more) ≡ next ∷ more = take_all _ (next ∷ more) (omega arith) in
    rw (end, quote, rest)

-- after a quote that stands twice
pub quote_passed : (size written : ℕ) (inside : List ℕ) → 2 ≤ length inside → get_or inside 0 0 ≡ 34
    → get_or inside 1 0 ≡ 34 → closing size written inside ≡ closing (size + 2) (written + 1) (take (length inside - 2) (drop 2 inside))
quote_passed size written [] some quote second = absurd (omega arith)
quote_passed size written (byte ∷ []) some quote second = absurd (omega arith)
quote_passed size written (byte ∷ next ∷ more) some quote second =
    let rest : take (length (byte ∷ next ∷ more) - 2) more ≡ more = take_all _ more (omega arith) in
    rw (quote, second, rest)

-- what is found is after at least so many bytes
abbrev IsAfter : ℕ → Closing → Type 0
IsAfter least (Closed size written) = least ≤ size
IsAfter least (Cut size) = least ≤ size
IsAfter least Unknown = Unit {0}

after_less : (less least : ℕ) (found : Closing) → less ≤ least → IsAfter least found → IsAfter less found
after_less less least (Closed size written) below is = omega arith
after_less less least (Cut size) below is = omega arith
after_less less least Unknown below is = tt

-- what holds of both ways of a choice holds of it
closing_after : (size written : ℕ) (inside : List ℕ) → IsAfter size (closing size written inside)
closing_after size written [] = tt
closing_after size written (byte ∷ []) = cond_each (IsAfter size) (is_cut byte) (Cut size) Unknown (omega arith) tt
closing_after size written (byte ∷ next ∷ more) =
    cond_each (IsAfter size) (is_cut byte) (Cut size) _ (omega arith)
    (cond_each (IsAfter size) (byte == 34) _ _
    (cond_each (IsAfter size) (next == 34) _ (Closed size written)
    (after_less size (size + 2) _ (omega arith) (closing_after (size + 2) (written + 1) more)) (omega arith))
    (after_less size (size + 1) _ (omega arith) (closing_after (size + 1) (written + 1) (next ∷ more))))

closing_within : (most size written : ℕ) (inside : List ℕ) → size + length inside ≤ most
    → IsWithin most (closing size written inside)
closing_within most size written [] within = tt
closing_within most size written (byte ∷ []) within = cond_each (IsWithin most) (is_cut byte) (Cut size) Unknown (omega arith) tt
closing_within most size written (byte ∷ next ∷ more) within =
    cond_each (IsWithin most) (is_cut byte) (Cut size) _ (omega arith)
    (cond_each (IsWithin most) (byte == 34) _ _
    (cond_each (IsWithin most) (next == 34) _ (Closed size written)
    (closing_within most (size + 2) (written + 1) more (omega arith)) (omega arith))
    (closing_within most (size + 1) (written + 1) (next ∷ more) (omega arith)))

-- the other is this one, where so many bytes decide this one
abbrev ClosingHolds : ℕ → Closing → Closing → Type 0
ClosingHolds end (Closed size written) other = size + 2 ≤ end → other ≡ Closed size written
ClosingHolds end (Cut size) other = size + 1 ≤ end → other ≡ Cut size
ClosingHolds end Unknown other = Unit {0}

closing_beyond : (end least : ℕ) (found other : Closing) → IsAfter least found → end ≤ least → ClosingHolds end found other
closing_beyond end least (Closed size written) other is beyond = λ seen. absurd (omega arith)
closing_beyond end least (Cut size) other is beyond = λ seen. absurd (omega arith)
closing_beyond end least Unknown other is beyond = tt

closing_both : (end : ℕ) (test : Bool) (t u t' u' : Closing) → ClosingHolds end t t' → ClosingHolds end u u'
    → ClosingHolds end (if test then t else u) (if test then t' else u')
closing_both end true t u t' u' first second = first
closing_both end false t u t' u' first second = second

cut_same : (end size : ℕ) (byte : ℕ) (u u' : Closing) → ClosingHolds end u u'
    → ClosingHolds end (if is_cut byte then Cut size else u) (if is_cut byte then Cut size else u')
cut_same end size byte u u' rest = closing_both end (is_cut byte) (Cut size) u (Cut size) u' (λ seen. refl) rest

-- one byte decides of no quote and no plain byte how the text goes on
quote_beyond : (end size written byte next : ℕ) (more : List ℕ) (other : Closing) → end ≤ size + 1
    → ClosingHolds end
    (if byte == 34 then (if next == 34 then closing (size + 2) (written + 1) more else Closed size written)
    else closing (size + 1) (written + 1) (next ∷ more)) other
quote_beyond end size written byte next more other room =
    cond_each (λ found. ClosingHolds end found other) (byte == 34) _ _
    (cond_each (λ found. ClosingHolds end found other) (next == 34) _ (Closed size written)
    (closing_beyond end (size + 2) _ other (closing_after (size + 2) (written + 1) more) (omega arith))
    (λ seen. absurd (omega arith)))
    (closing_beyond end (size + 1) _ other (closing_after (size + 1) (written + 1) (next ∷ more)) (omega arith))

-- after the last byte of the front, which alone decides only the end of the line
last_holds : (end size written byte : ℕ) (more other : List ℕ) → end ≤ size + 1
    → ClosingHolds end (closing size written (byte ∷ more)) (closing size written (byte ∷ other))
last_holds end size written byte [] [] room = cut_same end size byte _ _ tt
last_holds end size written byte [] (next ∷ other) room = cut_same end size byte _ _ tt
last_holds end size written byte (next ∷ more) [] room = cut_same end size byte _ _ (quote_beyond end size written byte next more Unknown room)
last_holds end size written byte (next ∷ more) (second ∷ other) room =
    cut_same end size byte _ _ (quote_beyond end size written byte next more _ room)

closing_holds : (end size written : ℕ) (front more other : List ℕ) → end ≤ size + length front
    → ClosingHolds end (closing size written (front ++ more)) (closing size written (front ++ other))
closing_holds end size written [] more other room =
    closing_beyond end size (closing size written more) _ (closing_after size written more) (omega arith)
closing_holds end size written (byte ∷ []) more other room = last_holds end size written byte more other (omega arith)
closing_holds end size written (byte ∷ next ∷ front) more other room =
    cut_same end size byte _ _
    (closing_both end (byte == 34) _ _ _ _
    (closing_both end (next == 34) _ (Closed size written) _ (Closed size written)
    (closing_holds end (size + 2) (written + 1) front more other (omega arith)) (λ seen. refl))
    (closing_holds end (size + 1) (written + 1) (next ∷ front) more other (omega arith)))

-- from how the text goes on to the trial
by_closing_beyond : (limit size at : ℕ) (found : Closing) → size ≤ 1 → LooksBeyond size (by_closing_of limit at found)
by_closing_beyond limit size at (Closed length written) room =
    cond_both (nat_le written limit) _ _ (LooksBeyond size) (λ _. omega arith) (λ _. omega arith)
by_closing_beyond limit size at (Cut length) room = omega arith
by_closing_beyond limit size at Unknown room = tt

by_closing_holds : (limit end at : ℕ) (found other : Closing) → ClosingHolds end found other
    → Holds (1 + end) (by_closing_of limit at found) (by_closing_of limit at other)
by_closing_holds limit end at (Closed size written) other holds =
    by_test _ (nat_le (size + 2) end)
    (λ seen. holds_same _ _ _ (let same = holds (grind (arith, nat_tests)) in rw same))
    (λ unseen. holds_beyond _ _ _ (cond_both (nat_le written limit) _ _ (LooksBeyond (1 + end)) (λ _. grind (arith, nat_tests)) (λ _. grind (arith, nat_tests))))
by_closing_holds limit end at (Cut size) other holds = λ seen. let same = holds (omega arith) in rw same
by_closing_holds limit end at Unknown other holds = tt

by_closing_seen : (limit most at : ℕ) (found : Closing) → IsWithin most found → IsSeen (1 + most) (by_closing_of limit at found)
by_closing_seen limit most at (Closed size written) within =
    cond_both (nat_le written limit) _ _ (IsSeen (1 + most)) (λ _. omega arith) (λ _. omega arith)
by_closing_seen limit most at (Cut size) within = omega arith
by_closing_seen limit most at Unknown within = tt

by_closing_reaches : (limit most at : ℕ) (found : Closing) → IsWithin most found → ReachesIfAccept at (1 + most) (by_closing_of limit at found)
by_closing_reaches limit most at (Closed size written) within =
    cond_both (nat_le written limit) _ _ (ReachesIfAccept at (1 + most)) (λ _. record { some = omega arith; begins = omega arith; seen = omega arith; within = omega arith }) (λ _. tt)
by_closing_reaches limit most at (Cut size) within = tt
by_closing_reaches limit most at Unknown within = tt

-- what the first bytes decide of a quoted text they decide however the text goes on
quoted_decided : (limit : ℕ) (front more other : List ℕ) (at : ℕ) → Holds (length front) (quoted_of limit (front ++ more) at) (quoted_of limit (front ++ other) at)
quoted_decided limit [] [] other at = tt
quoted_decided limit [] (byte ∷ more) other at =
    holds_beyond _ _ _ (cond_both (byte == 34) _ _ (LooksBeyond 0) (λ _. by_closing_beyond limit 0 at (closing 0 0 more) (omega arith)) (λ _. omega arith))
quoted_decided limit (byte ∷ front) more other at =
    let end = closing_holds (length front) 0 0 front more other (omega arith) in
    let decided = by_closing_holds limit (length front) at _ _ end in
    let size : 1 + length front ≡ length (byte ∷ front) = omega arith in
    holds_both (length (byte ∷ front)) (byte == 34) _ (Refuse NotQuoted 1) _ (Refuse NotQuoted 1)
    (rw (← size) decided) (λ seen. refl)

quoted_seen : (limit : ℕ) (rest : List ℕ) (at : ℕ) → IsSeen (length rest) (quoted_of limit rest at)
quoted_seen limit [] at = tt
quoted_seen limit (byte ∷ rest) at =
    let size : 1 + length rest ≡ length (byte ∷ rest) = omega arith in
    let within = by_closing_seen limit (length rest) at _ (closing_within (length rest) 0 0 rest (omega arith)) in
    cond_both (byte == 34) _ _ (IsSeen (length (byte ∷ rest))) (λ _. rw (← size) within) (λ _. omega arith)

quotes_are_local : (limit : ℕ) → IsLocal (quoted_of limit)
quotes_are_local limit = is_local (quoted_of limit) (quoted_decided limit) (quoted_seen limit)

pub quoted_is_local : IsLocal quoted
quoted_is_local = quotes_are_local NAME_LIMIT

pub long_quoted_is_local : IsLocal long_quoted
long_quoted_is_local = quotes_are_local LINE_LIMIT

quoted_reaches_if : (limit : ℕ) (rest : List ℕ) (at : ℕ) → ReachesIfAccept at (length rest) (quoted_of limit rest at)
quoted_reaches_if limit [] at = tt
quoted_reaches_if limit (byte ∷ rest) at =
    let size : 1 + length rest ≡ length (byte ∷ rest) = omega arith in
    let reached = by_closing_reaches limit (length rest) at _ (closing_within (length rest) 0 0 rest (omega arith)) in
    cond_both (byte == 34) _ _ (ReachesIfAccept at (length (byte ∷ rest))) (λ _. rw (← size) reached) (λ _. tt)

-- an accepted quoted text ends in the text, and the byte after it was looked at
quotes_reach : (limit : ℕ) (rest : List ℕ) (at : ℕ) (value : Value) (looked end : ℕ)
    → quoted_of limit rest at ≡ Accept value looked end → Reaches at (length rest) looked end
quotes_reach limit rest at value looked end is =
    reaches_accepted at (length rest) (quoted_of limit rest at) value looked end (quoted_reaches_if limit rest at) is

pub quoted_reaches : (rest : List ℕ) (at : ℕ) (value : Value) (looked end : ℕ) → quoted rest at ≡ Accept value looked end
    → Reaches at (length rest) looked end
quoted_reaches rest at value looked end is = quotes_reach NAME_LIMIT rest at value looked end is

pub long_quoted_reaches : (rest : List ℕ) (at : ℕ) (value : Value) (looked end : ℕ)
    → long_quoted rest at ≡ Accept value looked end → Reaches at (length rest) looked end
long_quoted_reaches rest at value looked end is = quotes_reach LINE_LIMIT rest at value looked end is

-- a closing quote, where there is one, is the last byte before this place
abbrev ClosesAt : ℕ → Closing → Type 0
ClosesAt place (Closed size written) = size + 1 ≡ place
ClosesAt place (Cut size) = Unit {0}
ClosesAt place Unknown = Unit {0}

abbrev pub IsQuoted : Value → Type 0
IsQuoted (Quoted part) = Unit {0}
IsQuoted value = ⊥

-- a quoted text, where there is one, ends at this place
abbrev pub QuotedAt : ℕ → Try → Type 0
QuotedAt place (Accept value looked end) = (end ≡ place) × IsQuoted value
QuotedAt place (Refuse code looked) = Unit {0}
QuotedAt place More = Unit {0}

closing_ends : (size written : ℕ) (inside : List ℕ) → closing size written inside ≡ Unknown
    → ClosesAt (size + length inside) (closing size written (inside ++ 32 ∷ []))
closing_ends size written [] is = tt
closing_ends size written (byte ∷ []) is =
    cond_each (ClosesAt (size + length (byte ∷ []))) (is_cut byte) (Cut size) _ tt
    (cond_each (ClosesAt (size + length (byte ∷ []))) (byte == 34) (Closed size written) Unknown (omega arith) tt)
closing_ends size written (byte ∷ next ∷ more) is =
    by (is_cut byte) (byte == 34) (next == 34) (closing_ends (size + 2) (written + 1) more)
    (closing_ends (size + 1) (written + 1) (next ∷ more)) is
  where
    place : ℕ
    place = size + length (byte ∷ next ∷ more)

    by : (end quote second : Bool)
        → (closing (size + 2) (written + 1) more ≡ Unknown
        → ClosesAt (size + 2 + length more) (closing (size + 2) (written + 1) (more ++ 32 ∷ [])))
        → (closing (size + 1) (written + 1) (next ∷ more) ≡ Unknown
        → ClosesAt (size + 1 + length (next ∷ more)) (closing (size + 1) (written + 1) ((next ∷ more) ++ 32 ∷ [])))
        → (if end then Cut size else (if quote then (if second then closing (size + 2) (written + 1) more else Closed size written)
        else closing (size + 1) (written + 1) (next ∷ more))) ≡ Unknown
        → ClosesAt (size + length (byte ∷ next ∷ more))
        (if end then Cut size else (if quote then (if second then closing (size + 2) (written + 1) (more ++ 32 ∷ []) else Closed size written)
        else closing (size + 1) (written + 1) ((next ∷ more) ++ 32 ∷ [])))
    by true quote second twice plain is = cc
    by false true false twice plain is = cc
    by false true true twice plain is =
        subst (λ (place : ℕ). ClosesAt place (closing (size + 2) (written + 1) (more ++ 32 ∷ []))) (omega arith) (twice is)
    by false false second twice plain is =
        subst (λ (place : ℕ). ClosesAt place (closing (size + 1) (written + 1) ((next ∷ more) ++ 32 ∷ []))) (omega arith) (plain is)

closing_unknown : (limit at : ℕ) (found : Closing) → by_closing_of limit at found ≡ More → found ≡ Unknown
closing_unknown limit at Unknown is = refl
closing_unknown limit at (Cut size) is = cc
closing_unknown limit at (Closed size written) is = by (nat_le written limit) is
  where
    by : (test : Bool) → (if test then Accept (Quoted (span (at + 1) size)) (size + 3) (at + (size + 2)) else Refuse FieldLong (size + 3)) ≡ More
        → Closed size written ≡ Unknown
    by true is = cc
    by false is = cc

by_closing_ends : (limit at place : ℕ) (found : Closing) → ClosesAt place found → QuotedAt (at + (1 + place)) (by_closing_of limit at found)
by_closing_ends limit at place (Closed size written) closes =
    cond_each (QuotedAt (at + (1 + place))) (nat_le written limit) _ _ (omega arith, tt) tt
by_closing_ends limit at place (Cut size) closes = tt
by_closing_ends limit at place Unknown closes = tt

-- a text that wants more and that a space closes ends with what is before the space
quotes_end : (limit : ℕ) (rest : List ℕ) (at : ℕ) → quoted_of limit rest at ≡ More
    → QuotedAt (at + length rest) (quoted_of limit (rest ++ 32 ∷ []) at)
quotes_end limit [] at is = tt
quotes_end limit (byte ∷ inside) at is = by (byte == 34) is
  where
    by : (test : Bool) → (if test then by_closing_of limit at (closing 0 0 inside) else Refuse NotQuoted 1) ≡ More
        → QuotedAt (at + length (byte ∷ inside)) (if test then by_closing_of limit at (closing 0 0 (inside ++ 32 ∷ [])) else Refuse NotQuoted 1)
    by false is = tt
    by true is =
        let closes = closing_ends 0 0 inside (closing_unknown limit at (closing 0 0 inside) is) in
        subst (λ (place : ℕ). QuotedAt place (by_closing_of limit at (closing 0 0 (inside ++ 32 ∷ [])))) (omega arith)
        (by_closing_ends limit at (0 + length inside) _ closes)

pub quoted_ends : (rest : List ℕ) (at : ℕ) → quoted rest at ≡ More → QuotedAt (at + length rest) (quoted (rest ++ 32 ∷ []) at)
quoted_ends rest at is = quotes_end NAME_LIMIT rest at is

pub long_quoted_ends : (rest : List ℕ) (at : ℕ) → long_quoted rest at ≡ More
    → QuotedAt (at + length rest) (long_quoted (rest ++ 32 ∷ []) at)
long_quoted_ends rest at is = quotes_end LINE_LIMIT rest at is
