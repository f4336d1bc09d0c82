-- The end of the line decides every trial.
use Rattle.std.proofs.Common.{◌≡◌, ℕ, zero, suc, ◌+◌, ◌<◌, ◌≤◌, Bool, true, false, not, ◌==◌, ◌&&◌, nat_le, cond, List, [], ◌∷◌, ◌++◌, length, take, slice_get, Result, Ok, Err, refl, arith, length-append}
use Rattle.std.proofs.lemmas.Bool.{and_parts, cond_both}
use Rattle.std.specs.List.{common_prefix_len, prefix_len}
use Rattle.std.specs.Option.{option_map_or}
use Rattle.std.proofs.lemmas.Bool.Decides.{nat_tests}
use Rattle.cm_lists.proofs.Bools.{cond_each}
use Rattle.cm_text.specs.Case.{begins_with}
use Rattle.cm_text.specs.declared.name.TheConstants.{NAME_LIMIT}
use Rattle.cm_text.specs.declared.text.TheConstants.{LINE_LIMIT}
use Rattle.cm_fields.specs.declared.code.Code.{Code}
use Rattle.cm_fields.specs.declared.quotes.Closing.{Closing}
use Rattle.cm_fields.specs.declared.quotes.Closing.TheVariants.{Closed, Cut, Unknown}
use Rattle.cm_fields.specs.declared.value.Value.{Value}
use Rattle.cm_fields.specs.Finish.{Decides, DecidesFinished, has_no_end}
use Rattle.cm_fields.specs.Mark.{comma, confirm}
use Rattle.cm_fields.specs.Phrase.{is_inside, noise, same_letter, token, typed_noise}
use Rattle.cm_fields.specs.Quoted.{by_closing_of, closing, is_cut, long_quoted, quoted, quoted_of}
use Rattle.cm_fields.specs.Try.{by_run, said}

-- a run that the end of the line is no part of ends before it
run_one : (is_here : Bool) (most size : ℕ) → size ≤ most → cond is_here (1 + size) 0 ≤ suc most
run_one true most size within = omega arith
run_one false most size within = omega arith

pub run_finishes : (is_part : ℕ → Bool) → is_part 13 ≡ false → (line : List ℕ)
    → prefix_len is_part (line ++ 13 ∷ []) ≤ length line
run_finishes is_part outside [] = rw outside (omega arith)
run_finishes is_part outside (byte ∷ line) =
    run_one (is_part byte) (length line) (prefix_len is_part (line ++ 13 ∷ [])) (run_finishes is_part outside line)

pub not_all : (size : ℕ) (line : List ℕ) → size ≤ length line → (size == length (line ++ 13 ∷ [])) ≡ true → ⊥
not_all size line within equal = let whole = length-append line (13 ∷ []) in absurd (grind (arith, nat_tests))

said_decides : (at most size looked : ℕ) (decision : Result Value Code) → size ≤ most → Decides at most (said at size looked decision)
said_decides at most size looked (Ok value) within = omega arith
said_decides at most size looked (Err code) within = tt

-- so a trial of a run decides
pub run_decides : (is_part : ℕ → Bool) (decide : ℕ → List ℕ → Result Value Code) → is_part 13 ≡ false
    → DecidesFinished (λ rest at. by_run is_part (decide at) rest at)
run_decides is_part decide outside line at =
    let within = run_finishes is_part outside line in
    cond_both (prefix_len is_part (line ++ 13 ∷ []) == length (line ++ 13 ∷ [])) _ _ (Decides at (length line)) (λ equal. absurd (not_all _ line within equal)) (λ _. said_decides at (length line) (prefix_len is_part (line ++ 13 ∷ [])) _ (decide at _) within)

-- where a finished line has a mark other than its end
pub mark_inside : (mark : ℕ) → (13 == mark) ≡ false → (line : List ℕ) (size : ℕ) → size ≤ length line
    → option_map_or (λ byte. byte == mark) (slice_get (line ++ 13 ∷ []) size) false ≡ true → size < length line
mark_inside mark differs [] zero within is = cc
mark_inside mark differs [] (suc size) within is = absurd (omega arith)
mark_inside mark differs (byte ∷ line) zero within is = omega arith
mark_inside mark differs (byte ∷ line) (suc size) within is =
    let later = mark_inside mark differs line size (omega arith) is in omega arith

typed_decides : (phrase line : List ℕ) (at : ℕ) → Decides at (1 + length line) (typed_noise phrase (line ++ 13 ∷ []) at)
unfolding typed_noise
typed_decides phrase line at =
    let size = prefix_len is_inside (line ++ 13 ∷ []) in
    let within = run_finishes is_inside refl line in
    cond_both (size == length (line ++ 13 ∷ [])) _ _ (Decides at (1 + length line)) (λ equal. absurd (not_all size line within equal)) (λ _. cond_both (option_map_or (λ byte. byte == 41) (slice_get (line ++ 13 ∷ []) size) false && begins_with phrase (take size (line ++ 13 ∷ []))) _ _ (Decides at (1 + length line)) (λ both. let inside = mark_inside 41 refl line size within ((and_parts _ _ both).0) in omega arith) (λ _. tt))

pub noise_decides : (phrase : List ℕ) → DecidesFinished (noise phrase)
noise_decides phrase [] at = omega arith
noise_decides phrase (byte ∷ line) at =
    let size : 1 + length line ≡ length (byte ∷ line) = omega arith in
    let typed = typed_decides phrase line at in
    cond_both (byte == 40) _ _ (Decides at (length (byte ∷ line))) (λ _. rw (← size) typed) (λ _. omega arith)

same_finishes : (phrase line : List ℕ) → has_no_end phrase ≡ true
    → common_prefix_len same_letter phrase (line ++ 13 ∷ []) ≤ length line
same_finishes [] line plain = omega arith
same_finishes (letter ∷ phrase) [] plain = by (same_letter letter 13) (and_parts _ _ plain).0
  where
    by : (test : Bool) → not test ≡ true → cond test (1 + common_prefix_len same_letter phrase []) 0 ≤ 0
    by true is = cc
    by false is = omega arith
same_finishes (letter ∷ phrase) (byte ∷ line) plain =
    run_one (same_letter letter byte) (length line) (common_prefix_len same_letter phrase (line ++ 13 ∷ []))
    (same_finishes phrase line (rest_true (not (same_letter letter 13)) _ plain))
  where
    rest_true : (a b : Bool) → (a && b) ≡ true → b ≡ true
    rest_true true b is = is
    rest_true false b is = cc

pub token_decides : (phrase : List ℕ) → has_no_end phrase ≡ true → DecidesFinished (token phrase)
unfolding token
token_decides phrase plain line at =
    let size = common_prefix_len same_letter phrase (line ++ 13 ∷ []) in
    let within = same_finishes phrase line plain in
    cond_both (size == length phrase) _ _ (Decides at (length line)) (λ _. omega arith) (λ _. cond_both (size == length (line ++ 13 ∷ [])) _ _ (Decides at (length line)) (λ equal. absurd (not_all size line within equal)) (λ _. tt))

-- a quote in a finished line is closed, or the line ends in it
abbrev ClosingDecides : ℕ → Closing → Type 0
ClosingDecides most (Closed size written) = size + 1 ≤ most
ClosingDecides most (Cut size) = Unit {0}
ClosingDecides most Unknown = ⊥

decides_less : (less most : ℕ) (found : Closing) → less ≤ most → ClosingDecides less found → ClosingDecides most found
decides_less less most (Closed size written) below is = omega arith
decides_less less most (Cut size) below is = tt
decides_less less most Unknown below is = is

closing_decides : (size written : ℕ) (line : List ℕ) → ClosingDecides (size + length line) (closing size written (line ++ 13 ∷ []))
closing_decides size written [] = tt
closing_decides size written (byte ∷ []) =
    cond_each (ClosingDecides (size + length (byte ∷ []))) (is_cut byte) (Cut size) _ tt
    (cond_each (ClosingDecides (size + length (byte ∷ []))) (byte == 34) (Closed size written) _ (omega arith) tt)
closing_decides size written (byte ∷ next ∷ line) =
    cond_each (ClosingDecides (size + length (byte ∷ next ∷ line))) (is_cut byte) (Cut size) _ tt
    (cond_each (ClosingDecides (size + length (byte ∷ next ∷ line))) (byte == 34) _ _
    (cond_each (ClosingDecides (size + length (byte ∷ next ∷ line))) (next == 34) _ (Closed size written)
    (decides_less (size + 2 + length line) _ _ (omega arith) (closing_decides (size + 2) (written + 1) line)) (omega arith))
    (decides_less (size + 1 + length (next ∷ line)) _ _ (omega arith) (closing_decides (size + 1) (written + 1) (next ∷ line))))

by_closing_decides : (limit at most : ℕ) (found : Closing) → ClosingDecides most found → Decides at (1 + most) (by_closing_of limit at found)
by_closing_decides limit at most (Closed size written) decided =
    cond_both (nat_le written limit) _ _ (Decides at (1 + most)) (λ _. omega arith) (λ _. tt)
by_closing_decides limit at most (Cut size) decided = tt
by_closing_decides limit at most Unknown decided = absurd decided

quotes_decide : (limit : ℕ) → DecidesFinished (quoted_of limit)
quotes_decide limit [] at = tt
quotes_decide limit (byte ∷ line) at =
    let size : 1 + (0 + length line) ≡ length (byte ∷ line) = omega arith in
    let closed = by_closing_decides limit at (0 + length line) _ (closing_decides 0 0 line) in
    cond_both (byte == 34) _ _ (Decides at (length (byte ∷ line))) (λ _. rw (← size) closed) (λ _. tt)

pub quoted_decides : DecidesFinished quoted
quoted_decides = quotes_decide NAME_LIMIT

pub long_quoted_decides : DecidesFinished long_quoted
long_quoted_decides = quotes_decide LINE_LIMIT

pub comma_decides : DecidesFinished comma
comma_decides [] at = tt
comma_decides (byte ∷ line) at =
    cond_both (byte == 44) _ _ (Decides at (length (byte ∷ line))) (λ _. omega arith) (λ _. tt)

pub confirm_decides : DecidesFinished confirm
confirm_decides [] at = omega arith
confirm_decides (byte ∷ line) at =
    cond_both (byte == 13) _ _ (Decides at (length (byte ∷ line))) (λ _. omega arith) (λ _. tt)
