-- Each position that the look-up gives is one of the table.
use Rattle.std.proofs.Common.{◌≡◌, ℕ, ◌+◌, ◌<◌, ◌≤◌, Bool, true, false, cond, ltb, List, [], ◌∷◌, length, Option, Some, None, slice_get, arith, refl, subst, sym}
use Rattle.std.specs.List.{enumerate_from, filter}
use Rattle.std.proofs.lemmas.Option.{slice_get_within}
use Rattle.cm_tables.specs.Look.{IsWithin, abbreviated, by_equal, equal_entries, exact, look, candidates}
use Rattle.cm_tables.specs.Order.{helps_fault, is_target, first_fault, table_fault, target_fault, targets_fault, texts_fault}
use Rattle.cm_tables.specs.declared.entry.Entry.{Entry}
use Rattle.cm_tables.specs.declared.entry.Flag.{Flag}
use Rattle.cm_tables.specs.declared.entry.Flag.TheVariants.{Plain, Invisible, NoRecognise, Short}
use Rattle.cm_tables.specs.declared.fault.TheConstants.{ENTRY_LIMIT}
use Rattle.cm_tables.specs.declared.table.Look.{Look}
use Rattle.cm_tables.specs.declared.table.TableFault.{TableFault}
use Rattle.cm_tables.specs.declared.table.TableFault.TheVariants.{TooMany, BadTarget}

-- what an entry stands for is below a number
abbrev StandsWithin : Flag → ℕ → Type 0
StandsWithin Plain count = Unit {0}
StandsWithin Invisible count = Unit {0}
StandsWithin NoRecognise count = Unit {0}
StandsWithin (Short target) count = target < count

-- so it is of each of these entries
abbrev AllStandWithin : List Entry → ℕ → Type 0
AllStandWithin [] count = Unit {0}
AllStandWithin (entry ∷ more) count = StandsWithin entry.flag count × AllStandWithin more count

-- and so is the position of each
abbrev ArePlacesWithin : List (ℕ × Entry) → ℕ → Type 0
ArePlacesWithin [] count = Unit {0}
ArePlacesWithin (e ∷ more) count = (e.0 < count) × (StandsWithin e.1.flag count × ArePlacesWithin more count)

-- only an entry of the list is a target
target-lt : (table : List Entry) (text : List ℕ) (target : ℕ) → is_target text (slice_get table target) ≡ true → target < length table
target-lt table text target e = grind (arith, slice_get_within)

-- an entry whose target has no fault stands for one of the list
stands-within : (table : List Entry) (position : ℕ) (text : List ℕ) (flag : Flag)
    → target_fault table position text flag ≡ None → StandsWithin flag (length table)
stands-within table position text Plain e = tt
stands-within table position text Invisible e = tt
stands-within table position text NoRecognise e = tt
stands-within table position text (Short target) e = by (is_target text (slice_get table target)) (target-lt table text target) e
  where
    by : (b : Bool) → (b ≡ true → target < length table)
        → cond b None (Some (BadTarget position)) ≡ None → target < length table
    by true h e = h refl
    by false h e = cc

-- two faults are none only where both are
pub both-none : (first later : Option TableFault) → first_fault first later ≡ None → (first ≡ None) × (later ≡ None)
both-none None later e = (refl, e)
both-none (Some fault) later e = cc

-- where no target has a fault, each entry stands for one of the list
all-stand-within : (table : List Entry) (position : ℕ) (entries : List Entry)
    → targets_fault table position entries ≡ None → AllStandWithin entries (length table)
all-stand-within table position [] e = tt
all-stand-within table position (entry ∷ more) e =
    let both = both-none (target_fault table position entry.text entry.flag) (targets_fault table (position + 1) more) e in
    (stands-within table position entry.text entry.flag both.0, all-stand-within table (position + 1) more both.1)

-- a filter of the entries with their positions keeps this
places-within : (p : ℕ × Entry → Bool) (k : ℕ) (entries : List Entry) (count : ℕ)
    → k + length entries ≤ count → AllStandWithin entries count → ArePlacesWithin (filter p (enumerate_from k entries)) count
places-within p k [] count fits all = tt
places-within p k (entry ∷ more) count fits all =
    by (p (k, entry)) (places-within p (k + 1) more count (omega arith) all.1)
  where
    rest : List (ℕ × Entry)
    rest = filter p (enumerate_from (k + 1) more)

    by : (b : Bool) → ArePlacesWithin rest count → ArePlacesWithin (cond b ((k, entry) ∷ rest) rest) count
    by true h = (omega arith, (all.0, h))
    by false h = h

exact-within : (position : ℕ) (flag : Flag) (count : ℕ) → position < count → StandsWithin flag count → IsWithin (exact position flag) count
exact-within position Plain count p s = p
exact-within position Invisible count p s = p
exact-within position NoRecognise count p s = tt
exact-within position (Short target) count p s = s

abbreviated-within : (places : List (ℕ × Entry)) (count : ℕ) → ArePlacesWithin places count → IsWithin (abbreviated places) count
abbreviated-within [] count all = tt
abbreviated-within (e ∷ []) count all = all.0
abbreviated-within (e ∷ f ∷ more) count all = tt

by_equal-within : (equals abbreviations : List (ℕ × Entry)) (count : ℕ)
    → ArePlacesWithin equals count → ArePlacesWithin abbreviations count → IsWithin (by_equal equals abbreviations) count
by_equal-within [] abbreviations count all others = abbreviated-within abbreviations count others
by_equal-within (e ∷ more) abbreviations count all others = exact-within e.0 e.1.flag count all.0 all.1.0

-- a list with no fault has none at its texts, and none after them
pub no-faults : (table : List Entry) → table_fault table ≡ None
    → (texts_fault 0 None table ≡ None) × (first_fault (targets_fault table 0 table) (helps_fault 0 table) ≡ None)
unfolding table_fault
no-faults table e = by (ltb ENTRY_LIMIT (length table)) e
  where
    after : Option TableFault
    after = first_fault (targets_fault table 0 table) (helps_fault 0 table)

    by : (b : Bool) → cond b (Some TooMany) (first_fault (texts_fault 0 None table) after) ≡ None
        → (texts_fault 0 None table ≡ None) × (after ≡ None)
    by true e = cc
    by false e = both-none (texts_fault 0 None table) after e

pub no-targets_fault : (table : List Entry) → table_fault table ≡ None → targets_fault table 0 table ≡ None
no-targets_fault table e = (both-none (targets_fault table 0 table) (helps_fault 0 table) (no-faults table e).1).0

-- in a table, the look-up gives a position of the table
pub look-within : (table : List Entry) (atom : List ℕ) → table_fault table ≡ None → IsWithin (look table atom) (length table)
unfolding look
look-within table atom e =
    let all = all-stand-within table 0 table (no-targets_fault table e) in
    by_equal-within (equal_entries table atom) (candidates table atom) (length table)
    (places-within _ 0 table (length table) (omega arith) all) (places-within _ 0 table (length table) (omega arith) all)

-- and so does an answer that is what it gives
pub answer_within : (table : List Entry) (atom : List ℕ) (answer : Look) → answer ≡ look table atom
    → table_fault table ≡ None → IsWithin answer (length table)
answer_within table atom answer is none = subst (λ (it : Look). IsWithin it (length table)) (sym is) (look-within table atom none)
