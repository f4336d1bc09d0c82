-- The walk of a table that finds how the entries go on alike.
use Rattle.std.proofs.Common.{◌≡◌, ℕ, ◌≤◌, true, List, length, drop, map, Option, Some, None}
use Rattle.std.specs.List.{fold, reduce}
use Rattle.cm_text.specs.BeginLaws.{begins-le}
use Rattle.cm_text.specs.Case.{begins_with}
use Rattle.cm_tables.specs.Common.{shared_letters}
use Rattle.cm_tables.specs.declared.entry.Entry.{Entry}
use Rattle.cm_tables.specs.Search.{candidates_from}

-- what is after the atom in each entry from a position on that it may abbreviate
abbrev pub rests_from : ℕ → List Entry → List ℕ → List (List ℕ)
rests_from position table atom = map (λ (e : ℕ × Entry). drop (length atom) e.1.text) (candidates_from position table atom)

-- what a walk gives that has found what all so far share, and comes to these
abbrev pub sharing : Option (List ℕ) → List (List ℕ) → Option (List ℕ)
sharing None texts = reduce shared_letters texts
sharing (Some text) texts = Some (fold shared_letters text texts)

-- an atom is no longer than what begins with it
pub atom_fits : (text atom : List ℕ) → begins_with text atom ≡ true → length atom ≤ length text
atom_fits = begins-le
