-- Trials that read a run of bytes, whatever the bytes and the decision.
use Rattle.std.proofs.Common.{◌≡◌, ℕ, ◌+◌, ◌<◌, ◌≤◌, Bool, false, ◌==◌, List, ◌++◌, length, take, Result, Ok, Err, arith, length-append}
use Rattle.std.specs.List.{prefix_len}
use Rattle.std.proofs.lemmas.Bool.Decides.{nat_tests}
use Rattle.std.proofs.lemmas.List.{take-append-le}
use Rattle.std.proofs.lemmas.List.Sums.{prefix_len-le-length}
use Rattle.cm_lists.proofs.Bools.{by_test}
use Rattle.cm_lists.proofs.Prefixes.{prefix_len_beyond, prefix_len_inside}
use Rattle.std.proofs.lemmas.Bool.{cond_both}
use Rattle.cm_fields.specs.declared.code.Code.{Code}
use Rattle.cm_fields.specs.declared.value.Value.{Value}
use Rattle.cm_fields.specs.declared.trial.Try.TheVariants.{Accept}
use Rattle.cm_fields.specs.Try.{by_run, said}
use Rattle.cm_fields.specs.Local.{Holds, IsLocal, IsSeen}
use Rattle.cm_fields.proofs.Trials.{LooksBeyond, Reaches, ReachesIfAccept, holds_beyond, holds_same, is_local, reaches_accepted}

-- where the run ends in the front, the trial is the decision on it
decided_inside : (is_part : ℕ → Bool) (decide : List ℕ → Result Value Code) (front more : List ℕ) (at : ℕ)
    → prefix_len is_part front < length front
    → by_run is_part decide (front ++ more) at
    ≡ said at (prefix_len is_part front) (prefix_len is_part front + 1) (decide (take (prefix_len is_part front) front))
decided_inside is_part decide front more at ends =
    let whole = prefix_len_inside is_part front more ends in
    let other : (prefix_len is_part front == length (front ++ more)) ≡ false = grind (arith, nat_tests, length-append front more) in
    let same = take-append-le (prefix_len is_part front) front more (omega arith) in
    rw (whole, other, same)

pub said_beyond : (size at field looked : ℕ) (decision : Result Value Code) → size < looked
    → LooksBeyond size (said at field looked decision)
said_beyond size at field looked (Ok value) beyond = beyond
said_beyond size at field looked (Err code) beyond = beyond

said_seen : (size at field looked : ℕ) (decision : Result Value Code) → looked ≤ size
    → IsSeen size (said at field looked decision)
said_seen size at field looked (Ok value) seen = seen
said_seen size at field looked (Err code) seen = seen

said_reaches : (at most field looked : ℕ) (decision : Result Value Code) → 1 ≤ looked → field ≤ looked → field ≤ most
    → ReachesIfAccept at most (said at field looked decision)
said_reaches at most field looked (Ok value) some seen within =
    record { some = some; begins = omega arith; seen = omega arith; within = omega arith }
said_reaches at most field looked (Err code) some seen within = tt

-- what the first bytes decide of a run they decide however the text goes on
pub run_decided : (is_part : ℕ → Bool) (decide : List ℕ → Result Value Code) (front more other : List ℕ) (at : ℕ)
    → Holds (length front) (by_run is_part decide (front ++ more) at) (by_run is_part decide (front ++ other) at)
run_decided is_part decide front more other at =
    let size = prefix_len is_part front in
    by_test _ (size == length front)
    (λ ends. holds_beyond _ _ _
    (cond_both (prefix_len is_part (front ++ more) == length (front ++ more)) _ _ (LooksBeyond (length front)) (λ _. tt) (λ _. said_beyond _ at _ _ _ (let beyond = prefix_len_beyond is_part front more (grind (arith, nat_tests)) in omega arith))))
    (λ ends.
    let inside : size < length front = (let most = prefix_len-le-length is_part front in grind (arith, nat_tests)) in
    let first = decided_inside is_part decide front more at inside in
    let second = decided_inside is_part decide front other at inside in
    holds_same _ _ _ (cc))

pub run_seen : (is_part : ℕ → Bool) (decide : List ℕ → Result Value Code) (rest : List ℕ) (at : ℕ)
    → IsSeen (length rest) (by_run is_part decide rest at)
run_seen is_part decide rest at =
    let most = prefix_len-le-length is_part rest in
    cond_both (prefix_len is_part rest == length rest) _ _ (IsSeen (length rest)) (λ _. tt) (λ ends. said_seen _ at _ _ _ (grind (arith, nat_tests)))

-- a trial of a run is local, whatever the bytes and the decision
pub run_is_local : (is_part : ℕ → Bool) (decide : ℕ → List ℕ → Result Value Code)
    → IsLocal (λ rest at. by_run is_part (decide at) rest at)
run_is_local is_part decide =
    is_local (λ rest at. by_run is_part (decide at) rest at) (λ front more other at. run_decided is_part (decide at) front more other at)
    (λ rest at. run_seen is_part (decide at) rest at)

-- an accepted run ends in the text, and the byte after it was looked at
pub run_reaches : (is_part : ℕ → Bool) (decide : List ℕ → Result Value Code) (rest : List ℕ) (at : ℕ) (value : Value)
    (looked end : ℕ) → by_run is_part decide rest at ≡ Accept value looked end → Reaches at (length rest) looked end
run_reaches is_part decide rest at value looked end is =
    let most = prefix_len-le-length is_part rest in
    reaches_accepted at (length rest) (by_run is_part decide rest at) value looked end
    (cond_both (prefix_len is_part rest == length rest) _ _ (ReachesIfAccept at (length rest)) (λ _. tt) (λ ends. said_reaches at (length rest) _ _ _ (omega arith) (omega arith) (omega arith))) is
