-- How all the entries go on alike that an atom may abbreviate (COMND's recognition).
use Rattle.std.specs.Prelude.{ℕ, List, [], length, take, drop, map, nat_eq, unwrap_or}
use Rattle.std.specs.Io.{StartsWith}
use Rattle.std.specs.List.{AllByRecursion, common_prefix_len, reduce}
use Rattle.cm_text.specs.BeginLaws.{lower}
use Rattle.cm_tables.specs.Look.{candidates}
use Rattle.cm_tables.specs.declared.entry.Entry.{Entry}

-- the longest text that both begin with, byte for byte
abbrev pub shared : List ℕ → List ℕ → List ℕ
shared text other = take (common_prefix_len nat_eq text other) text

-- the same with no regard to the case of letters, as the first text has it
abbrev pub shared_letters : List ℕ → List ℕ → List ℕ
shared_letters text other = take (common_prefix_len nat_eq (lower text) (lower other)) text

-- what is after the atom in each entry that it may abbreviate
abbrev pub rests : List Entry → List ℕ → List (List ℕ)
rests table atom = map (λ (e : ℕ × Entry). drop (length atom) e.1.text) (candidates table atom)

-- the longest text that all of them begin with, as the first has it; it is empty where there is no such entry
unfoldable pub common : List Entry → List ℕ → List ℕ
common table atom = unwrap_or (reduce shared_letters (rests table atom)) []

-- each of the texts begins with this one, byte for byte
abbrev pub AllBeginWith : List (List ℕ) → List ℕ → Type 0
AllBeginWith texts front = AllByRecursion (λ text. StartsWith text front) texts
