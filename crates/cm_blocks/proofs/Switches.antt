-- A switch is local, and where an accepted one ends.
use Rattle.std.proofs.Common.{◌≡◌, ℕ, ◌+◌, ◌<◌, Bool, false, ◌==◌, List, [], ◌∷◌, ◌++◌, length, take, slice_get, Result, Ok, Err, refl, arith, length-append}
use Rattle.std.specs.List.{prefix_len}
use Rattle.std.specs.Option.{option_map_or}
use Rattle.std.proofs.lemmas.Bool.Decides.{nat_tests}
use Rattle.std.proofs.lemmas.List.{take-append-le}
use Rattle.std.proofs.lemmas.List.Sums.{prefix_len-le-length}
use Rattle.cm_lists.proofs.Bools.{by_test}
use Rattle.cm_lists.proofs.Elements.{slice_get-append_left}
use Rattle.cm_lists.proofs.Prefixes.{prefix_len_beyond, prefix_len_inside}
use Rattle.std.proofs.lemmas.Bool.{cond_both}
use Rattle.cm_text.specs.Bytes.{is_word}
use Rattle.cm_tables.specs.declared.entry.Entry.{Entry}
use Rattle.cm_fields.specs.declared.code.Code.{Code}
use Rattle.cm_fields.specs.declared.code.Code.TheVariants.{NeedColon, NotSwitch}
use Rattle.cm_fields.specs.declared.trial.Try.{Try}
use Rattle.cm_fields.specs.declared.trial.Try.TheVariants.{Accept, Refuse}
use Rattle.cm_fields.specs.declared.value.Value.{Value}
use Rattle.cm_fields.specs.Local.{Holds, IsLocal, IsSeen}
use Rattle.cm_fields.proofs.Trials.{LooksBeyond, Reaches, ReachesIfAccept, holds_beyond, holds_both, holds_same, is_local, reaches_accepted}
use Rattle.cm_blocks.specs.Keyword.{after_slash, entry_position, has_colon, named_switch, switch}

-- what the byte after a run of this size says with it
abbrev switch_said : List Entry → List ℕ → ℕ → ℕ → Try
switch_said table rest size at =
    named_switch table at size (option_map_or (λ byte. byte == 58) (slice_get rest size) false)
    (entry_position table (take size rest))

switch_inside : (table : List Entry) (front more : List ℕ) (at : ℕ) → prefix_len is_word front < length front
    → after_slash table (front ++ more) at ≡ switch_said table front (prefix_len is_word front) at
switch_inside table front more at ends =
    let whole = prefix_len_inside is_word front more ends in
    let other : (prefix_len is_word front == length (front ++ more)) ≡ false = grind (arith, nat_tests, length-append front more) in
    let same = take-append-le (prefix_len is_word front) front more (omega arith) in
    let byte = slice_get-append_left front more (prefix_len is_word front) ends in
    rw (whole, other, same, byte)

-- each answer to a name of this size looks at one byte more, and so does what holds of all such answers
named_holds : (P : Try → Type 0) (table : List Entry) (at size : ℕ) (colon : Bool) (found : Result ℕ Code)
    → ((value : Value) → P (Accept value (size + 2) (at + (size + 2)))) → ((value : Value) → P (Accept value (size + 2) (at + (size + 1))))
    → ((code : Code) → P (Refuse code (size + 2))) → P (named_switch table at size colon found)
named_holds P table at size colon (Err code) with_colon plain refused = refused code
named_holds P table at size colon (Ok position) with_colon plain refused =
    cond_both (has_colon table position) _ _ P (λ _. cond_both colon _ _ P (λ _. with_colon _) (λ _. refused NeedColon)) (λ _. plain _)

switch_beyond : (most : ℕ) (table : List Entry) (rest : List ℕ) (at : ℕ) → most < prefix_len is_word rest + 2
    → LooksBeyond most (after_slash table rest at)
switch_beyond most table rest at beyond =
    cond_both (prefix_len is_word rest == length rest) _ _ (LooksBeyond most) (λ _. tt) (λ _. named_holds (LooksBeyond most) table at (prefix_len is_word rest) _ _ (λ _. beyond) (λ _. beyond) (λ _. beyond))

slash_decided : (table : List Entry) (front more other : List ℕ) (at : ℕ)
    → Holds (1 + length front) (after_slash table (front ++ more) at) (after_slash table (front ++ other) at)
slash_decided table front more other at =
    let size = prefix_len is_word front in
    by_test _ (size == length front)
    (λ ends. holds_beyond _ _ _ (switch_beyond (1 + length front) table (front ++ more) at
    (let beyond = prefix_len_beyond is_word front more (grind (arith, nat_tests)) in omega arith)))
    (λ ends.
    let inside : size < length front = (let most = prefix_len-le-length is_word front in grind (arith, nat_tests)) in
    let first = switch_inside table front more at inside in
    let second = switch_inside table front other at inside in
    holds_same _ _ _ (cc))

switch_decided : (table : List Entry) (front more other : List ℕ) (at : ℕ)
    → Holds (length front) (switch table (front ++ more) at) (switch table (front ++ other) at)
switch_decided table [] [] other at = tt
switch_decided table [] (byte ∷ more) other at =
    holds_beyond _ _ _ (cond_both (byte == 47) _ _ (LooksBeyond 0) (λ _. switch_beyond 0 table more at (omega arith)) (λ _. omega arith))
switch_decided table (byte ∷ front) more other at =
    let size : 1 + length front ≡ length (byte ∷ front) = omega arith in
    let decided = slash_decided table front more other at in
    holds_both (length (byte ∷ front)) (byte == 47) _ (Refuse NotSwitch 1) _ (Refuse NotSwitch 1)
    (rw (← size) decided) (λ seen. refl)

slash_seen : (table : List Entry) (rest : List ℕ) (at : ℕ) → IsSeen (1 + length rest) (after_slash table rest at)
slash_seen table rest at =
    let size = prefix_len is_word rest in
    let most = prefix_len-le-length is_word rest in
    cond_both (size == length rest) _ _ (IsSeen (1 + length rest)) (λ _. tt) (λ ends.
    let before : size < length rest = grind (arith, nat_tests) in
    named_holds (IsSeen (1 + length rest)) table at size _ _ (λ _. omega arith) (λ _. omega arith) (λ _. omega arith))

switch_seen : (table : List Entry) (rest : List ℕ) (at : ℕ) → IsSeen (length rest) (switch table rest at)
switch_seen table [] at = tt
switch_seen table (byte ∷ rest) at =
    let size : 1 + length rest ≡ length (byte ∷ rest) = omega arith in
    let within = slash_seen table rest at in
    cond_both (byte == 47) _ _ (IsSeen (length (byte ∷ rest))) (λ _. rw (← size) within) (λ _. omega arith)

pub switch_is_local : (table : List Entry) → IsLocal (switch table)
switch_is_local table = is_local (switch table) (switch_decided table) (switch_seen table)

slash_reaches : (table : List Entry) (rest : List ℕ) (at : ℕ) → ReachesIfAccept at (1 + length rest) (after_slash table rest at)
slash_reaches table rest at =
    let size = prefix_len is_word rest in
    let most = prefix_len-le-length is_word rest in
    cond_both (size == length rest) _ _ (ReachesIfAccept at (1 + length rest)) (λ _. tt) (λ ends.
    let before : size < length rest = grind (arith, nat_tests) in
    named_holds (ReachesIfAccept at (1 + length rest)) table at size _ _
    (λ _. record { some = omega arith; begins = omega arith; seen = omega arith; within = omega arith })
    (λ _. record { some = omega arith; begins = omega arith; seen = omega arith; within = omega arith })
    (λ _. tt))

switch_reaches_if : (table : List Entry) (rest : List ℕ) (at : ℕ) → ReachesIfAccept at (length rest) (switch table rest at)
switch_reaches_if table [] at = tt
switch_reaches_if table (byte ∷ rest) at =
    let size : 1 + length rest ≡ length (byte ∷ rest) = omega arith in
    let reached = slash_reaches table rest at in
    cond_both (byte == 47) _ _ (ReachesIfAccept at (length (byte ∷ rest))) (λ _. rw (← size) reached) (λ _. tt)

-- an accepted switch ends in the text, and the byte after its name was looked at
pub switch_reaches : (table : List Entry) (rest : List ℕ) (at : ℕ) (value : Value) (looked end : ℕ)
    → switch table rest at ≡ Accept value looked end → Reaches at (length rest) looked end
switch_reaches table rest at value looked end is =
    reaches_accepted at (length rest) (switch table rest at) value looked end (switch_reaches_if table rest at) is
