-- Guide words, fixed texts and the rest of a line.
use Rattle.std.proofs.Common.{◌≡◌, ℕ, suc, ◌+◌, ◌<◌, ◌≤◌, Bool, true, false, ◌==◌, ◌&&◌, cond, if◌then◌else◌, List, [], ◌∷◌, ◌++◌, length, take, slice_get, refl, ap, arith, length-append}
use Rattle.std.specs.List.{common_prefix_len, prefix_len}
use Rattle.std.specs.Option.{option_map_or}
use Rattle.std.proofs.lemmas.Bool.Decides.{nat_tests}
use Rattle.std.proofs.lemmas.List.{take-append-le}
use Rattle.std.proofs.lemmas.List.Sums.{common_prefix_len-le, prefix_len-le-length}
use Rattle.cm_lists.proofs.Bools.{by_test}
use Rattle.cm_lists.proofs.Elements.{slice_get-append_left}
use Rattle.cm_lists.proofs.Prefixes.{prefix_len_beyond, prefix_len_inside}
use Rattle.std.proofs.lemmas.Bool.{cond_both}
use Rattle.cm_text.specs.Case.{begins_with}
use Rattle.cm_fields.specs.declared.code.Code.TheVariants.{BadNoise, NotToken}
use Rattle.cm_fields.specs.declared.value.Value.{Value}
use Rattle.cm_fields.specs.declared.value.Value.TheVariants.{Noise, Token}
use Rattle.cm_fields.specs.declared.trial.Try.{Try}
use Rattle.cm_fields.specs.declared.trial.Try.TheVariants.{Accept, Refuse}
use Rattle.cm_fields.specs.Local.{Holds, IsLocal, IsSeen}
use Rattle.cm_fields.specs.Phrase.{is_inside, noise, same_letter, token, typed_noise}
use Rattle.cm_fields.proofs.Trials.{LooksBeyond, Reaches, ReachesIfAccept, holds_beyond, holds_both, holds_same, is_local, reaches_accepted}

-- where the text in parentheses ends in the front, what is made of it
abbrev noise_said : List ℕ → List ℕ → ℕ → ℕ → Try
noise_said phrase inside size at =
    if option_map_or (λ byte. byte == 41) (slice_get inside size) false && begins_with phrase (take size inside)
    then Accept (Noise true) (size + 2) (at + (size + 2)) else Refuse BadNoise (size + 2)

noise_inside : (phrase front more : List ℕ) (at : ℕ) → prefix_len is_inside front < length front
    → typed_noise phrase (front ++ more) at ≡ noise_said phrase front (prefix_len is_inside front) at
unfolding typed_noise
noise_inside phrase front more at ends =
    let whole = prefix_len_inside is_inside front more ends in
    let other : (prefix_len is_inside front == length (front ++ more)) ≡ false = grind (arith, nat_tests, length-append front more) in
    let same = take-append-le (prefix_len is_inside front) front more (omega arith) in
    let byte = slice_get-append_left front more (prefix_len is_inside front) ends in
    rw (whole, other, same, byte)

said_beyond : (size : ℕ) (phrase inside : List ℕ) (run at : ℕ) → size < run + 2 → LooksBeyond size (noise_said phrase inside run at)
said_beyond size phrase inside run at beyond =
    cond_both (option_map_or (λ byte. byte == 41) (slice_get inside run) false && begins_with phrase (take run inside)) _ _ (LooksBeyond size) (λ _. beyond) (λ _. beyond)

noise_beyond : (size : ℕ) (phrase inside : List ℕ) (at : ℕ) → size < prefix_len is_inside inside + 2
    → LooksBeyond size (typed_noise phrase inside at)
unfolding typed_noise
noise_beyond size phrase inside at beyond =
    cond_both (prefix_len is_inside inside == length inside) _ _ (LooksBeyond size) (λ _. tt) (λ _. said_beyond size phrase inside (prefix_len is_inside inside) at beyond)

typed_decided : (phrase front more other : List ℕ) (at : ℕ)
    → Holds (1 + length front) (typed_noise phrase (front ++ more) at) (typed_noise phrase (front ++ other) at)
typed_decided phrase front more other at =
    let size = prefix_len is_inside front in
    by_test _ (size == length front)
    (λ ends. holds_beyond _ _ _ (noise_beyond (1 + length front) phrase (front ++ more) at
    (let beyond = prefix_len_beyond is_inside front more (grind (arith, nat_tests)) in omega arith)))
    (λ ends.
    let inside : size < length front = (let most = prefix_len-le-length is_inside front in grind (arith, nat_tests)) in
    let first = noise_inside phrase front more at inside in
    let second = noise_inside phrase front other at inside in
    holds_same _ _ _ (cc))

noise_decided : (phrase front more other : List ℕ) (at : ℕ)
    → Holds (length front) (noise phrase (front ++ more) at) (noise phrase (front ++ other) at)
noise_decided phrase [] [] other at = tt
noise_decided phrase [] (byte ∷ more) other at =
    holds_beyond _ _ _ (cond_both (byte == 40) _ _ (LooksBeyond 0) (λ _. noise_beyond 0 phrase more at (omega arith)) (λ _. omega arith))
noise_decided phrase (byte ∷ front) more other at =
    let size : 1 + length front ≡ length (byte ∷ front) = omega arith in
    let decided = typed_decided phrase front more other at in
    holds_both (length (byte ∷ front)) (byte == 40) _ (Accept (Noise false) 1 at) _ (Accept (Noise false) 1 at)
    (rw (← size) decided) (λ seen. refl)

typed_seen : (phrase inside : List ℕ) (at : ℕ) → IsSeen (1 + length inside) (typed_noise phrase inside at)
unfolding typed_noise
typed_seen phrase inside at =
    let size = prefix_len is_inside inside in
    let most = prefix_len-le-length is_inside inside in
    cond_both (size == length inside) _ _ (IsSeen (1 + length inside)) (λ _. tt) (λ ends. cond_both (option_map_or (λ byte. byte == 41) (slice_get inside size) false && begins_with phrase (take size inside)) _ _ (IsSeen (1 + length inside)) (λ _. grind (arith, nat_tests)) (λ _. grind (arith, nat_tests)))

noise_seen : (phrase rest : List ℕ) (at : ℕ) → IsSeen (length rest) (noise phrase rest at)
noise_seen phrase [] at = tt
noise_seen phrase (byte ∷ rest) at =
    let size : 1 + length rest ≡ length (byte ∷ rest) = omega arith in
    let within = typed_seen phrase rest at in
    cond_both (byte == 40) _ _ (IsSeen (length (byte ∷ rest))) (λ _. rw (← size) within) (λ _. omega arith)

pub noise_is_local : (phrase : List ℕ) → IsLocal (noise phrase)
noise_is_local phrase = is_local (noise phrase) (noise_decided phrase) (noise_seen phrase)

typed_reaches : (phrase inside : List ℕ) (at : ℕ) → ReachesIfAccept at (1 + length inside) (typed_noise phrase inside at)
unfolding typed_noise
typed_reaches phrase inside at =
    let size = prefix_len is_inside inside in
    let most = prefix_len-le-length is_inside inside in
    cond_both (size == length inside) _ _ (ReachesIfAccept at (1 + length inside)) (λ _. tt) (λ ends.
    let before : size < length inside = grind (arith, nat_tests) in
    cond_both (option_map_or (λ byte. byte == 41) (slice_get inside size) false && begins_with phrase (take size inside)) _ _ (ReachesIfAccept at (1 + length inside)) (λ _. record { some = omega arith; begins = omega arith; seen = omega arith; within = omega arith }) (λ _. tt))

noise_reaches_if : (phrase rest : List ℕ) (at : ℕ) → ReachesIfAccept at (length rest) (noise phrase rest at)
noise_reaches_if phrase [] at = tt
noise_reaches_if phrase (byte ∷ rest) at =
    let size : 1 + length rest ≡ length (byte ∷ rest) = omega arith in
    let reached = typed_reaches phrase rest at in
    cond_both (byte == 40) _ _ (ReachesIfAccept at (length (byte ∷ rest))) (λ _. rw (← size) reached) (λ _. record { some = omega arith; begins = omega arith; seen = omega arith; within = omega arith })

-- an accepted guide word, typed or absent, ends in the text
pub noise_reaches : (phrase rest : List ℕ) (at : ℕ) (value : Value) (looked end : ℕ)
    → noise phrase rest at ≡ Accept value looked end → Reaches at (length rest) looked end
noise_reaches phrase rest at value looked end is =
    reaches_accepted at (length rest) (noise phrase rest at) value looked end (noise_reaches_if phrase rest at) is

-- where a phrase and the front part, they part however the text goes on
one_same_inside : (same : Bool) (most size other : ℕ) → cond same (1 + size) 0 < suc most → (size < most → other ≡ size)
    → cond same (1 + other) 0 ≡ cond same (1 + size) 0
one_same_inside true most size other ends on = ap (λ count. 1 + count) (on (omega arith))
one_same_inside false most size other ends on = refl

same_inside : (phrase front more : List ℕ) → common_prefix_len same_letter phrase front < length front
    → common_prefix_len same_letter phrase (front ++ more) ≡ common_prefix_len same_letter phrase front
same_inside [] front more ends = refl
same_inside (letter ∷ phrase) [] more ends = absurd (omega arith)
same_inside (letter ∷ phrase) (byte ∷ front) more ends =
    one_same_inside (same_letter letter byte) (length front) _ _ ends (same_inside phrase front more)

-- where the front has the whole phrase, so has every text
one_same_whole : (same : Bool) (most size other : ℕ) → cond same (1 + size) 0 ≡ suc most → (size ≡ most → other ≡ most)
    → cond same (1 + other) 0 ≡ suc most
one_same_whole true most size other ends on = let next = on (omega arith) in omega arith
one_same_whole false most size other ends on = absurd (omega arith)

same_whole : (phrase front more : List ℕ) → common_prefix_len same_letter phrase front ≡ length phrase
    → common_prefix_len same_letter phrase (front ++ more) ≡ length phrase
same_whole [] front more ends = refl
same_whole (letter ∷ phrase) [] more ends = absurd (omega arith)
same_whole (letter ∷ phrase) (byte ∷ front) more ends =
    one_same_whole (same_letter letter byte) (length phrase) _ _ ends (same_whole phrase front more)

-- where the whole front begins the phrase, what follows may go on
one_same_beyond : (same : Bool) (most size other : ℕ) → cond same (1 + size) 0 ≡ suc most → (size ≡ most → most ≤ other)
    → suc most ≤ cond same (1 + other) 0
one_same_beyond true most size other ends on = let next = on (omega arith) in omega arith
one_same_beyond false most size other ends on = absurd (omega arith)

same_beyond : (phrase front more : List ℕ) → common_prefix_len same_letter phrase front ≡ length front
    → length front ≤ common_prefix_len same_letter phrase (front ++ more)
same_beyond [] front more ends = omega arith
same_beyond (letter ∷ phrase) [] more ends = omega arith
same_beyond (letter ∷ phrase) (byte ∷ front) more ends =
    one_same_beyond (same_letter letter byte) (length front) _ _ ends (same_beyond phrase front more)

token_beyond : (size : ℕ) (phrase rest : List ℕ) (at : ℕ) → size ≤ common_prefix_len same_letter phrase rest
    → size < length phrase → LooksBeyond size (token phrase rest at)
unfolding token
token_beyond size phrase rest at beyond short =
    let same = common_prefix_len same_letter phrase rest in
    cond_both (same == length phrase) _ _ (LooksBeyond size) (λ ends. grind (arith, nat_tests)) (λ _. cond_both (same == length rest) _ _ (LooksBeyond size) (λ _. tt) (λ _. omega arith))

-- where the front decides, the trial is that of its common part
abbrev token_said : List ℕ → ℕ → ℕ → Try
token_said phrase size at = if size == length phrase then Accept Token size (at + size) else Refuse NotToken (size + 1)

token_inside : (phrase front more : List ℕ) (at : ℕ) → common_prefix_len same_letter phrase front < length front
    → token phrase (front ++ more) at ≡ token_said phrase (common_prefix_len same_letter phrase front) at
unfolding token
token_inside phrase front more at ends =
    let same = same_inside phrase front more ends in
    let other : (common_prefix_len same_letter phrase front == length (front ++ more)) ≡ false = grind (arith, nat_tests, length-append front more) in
    rw (same, other)

pub token_whole : (phrase front more : List ℕ) (at : ℕ) → common_prefix_len same_letter phrase front ≡ length phrase
    → token phrase (front ++ more) at ≡ Accept Token (length phrase) (at + length phrase)
unfolding token
token_whole phrase front more at ends =
    let same = same_whole phrase front more ends in
    let test : (length phrase == length phrase) ≡ true = grind (arith, nat_tests) in
    rw (same, test)

token_decided : (phrase front more other : List ℕ) (at : ℕ)
    → Holds (length front) (token phrase (front ++ more) at) (token phrase (front ++ other) at)
token_decided phrase front more other at =
    let size = common_prefix_len same_letter phrase front in
    let least = common_prefix_len-le same_letter phrase front in
    by_test _ (size == length phrase)
    (λ whole.
    let ends : size ≡ length phrase = grind (arith, nat_tests) in
    let first = token_whole phrase front more at ends in
    let second = token_whole phrase front other at ends in
    holds_same _ _ _ (cc))
    (λ short. by_test _ (size == length front)
    (λ ends. holds_beyond _ _ _ (token_beyond (length front) phrase (front ++ more) at
    (same_beyond phrase front more (grind (arith, nat_tests))) (grind (arith, nat_tests, least.0))))
    (λ ends.
    let inside : size < length front = grind (arith, nat_tests, least.1) in
    let first = token_inside phrase front more at inside in
    let second = token_inside phrase front other at inside in
    holds_same _ _ _ (cc)))

token_seen : (phrase rest : List ℕ) (at : ℕ) → IsSeen (length rest) (token phrase rest at)
unfolding token
token_seen phrase rest at =
    let size = common_prefix_len same_letter phrase rest in
    let least = common_prefix_len-le same_letter phrase rest in
    cond_both (size == length phrase) _ _ (IsSeen (length rest)) (λ _. least.1) (λ _. cond_both (size == length rest) _ _ (IsSeen (length rest)) (λ _. tt) (λ ends. grind (arith, nat_tests, least.1)))

pub token_is_local : (phrase : List ℕ) → IsLocal (token phrase)
token_is_local phrase = is_local (token phrase) (token_decided phrase) (token_seen phrase)

token_reaches_if : (phrase rest : List ℕ) (at : ℕ) → 1 ≤ length phrase → ReachesIfAccept at (length rest) (token phrase rest at)
unfolding token
token_reaches_if phrase rest at some =
    let size = common_prefix_len same_letter phrase rest in
    let least = common_prefix_len-le same_letter phrase rest in
    cond_both (size == length phrase) _ _ (ReachesIfAccept at (length rest)) (λ whole.
    let all : size ≡ length phrase = grind (arith, nat_tests) in
    record { some = omega arith; begins = omega arith; seen = omega arith; within = omega (arith, least.1) }) (λ _. cond_both (size == length rest) _ _ (ReachesIfAccept at (length rest)) (λ _. tt) (λ _. tt))

-- an accepted fixed text, where the phrase is not empty, ends in the text
pub token_reaches : (phrase rest : List ℕ) (at : ℕ) (value : Value) (looked end : ℕ) → 1 ≤ length phrase
    → token phrase rest at ≡ Accept value looked end → Reaches at (length rest) looked end
token_reaches phrase rest at value looked end some is =
    reaches_accepted at (length rest) (token phrase rest at) value looked end (token_reaches_if phrase rest at some) is
