-- What an atom may stand for in a table of which some entries may not come any more.
use Rattle.std.specs.Prelude.{ℕ, Bool, List, [], ◌∷◌, length, drop, map, filter, Option, Some, None, unwrap_or}
use Rattle.std.specs.List.{list_any, reduce}
use Rattle.cm_tables.specs.declared.entry.Entry.{Entry}
use Rattle.cm_tables.specs.declared.entry.Flag.{Flag}
use Rattle.cm_tables.specs.declared.entry.Flag.TheVariants.{Plain, Invisible, NoRecognise, Short}
use Rattle.cm_tables.specs.declared.table.Look.{Look}
use Rattle.cm_tables.specs.Common.{shared_letters}
use Rattle.cm_tables.specs.Look.{by_equal, candidates, equal_entries, exact}
use Rattle.cm_blocks.specs.declared.node.Block.{Block}
use Rattle.cm_blocks.specs.FieldView.{FieldView}
use Rattle.cm_blocks.specs.Grammar.{Graph}
use Rattle.cm_blocks.specs.Once.{may_come}

-- the position that an entry gives: a Short entry gives that of the one that it stands for
abbrev pub stands_for : ℕ → Flag → ℕ
stands_for position Plain = position
stands_for position Invisible = position
stands_for position NoRecognise = position
stands_for position (Short target) = target

-- [once] an entry with its position may still come behind these fields
abbrev pub remains : Graph → List FieldView → Block → ℕ × Entry → Bool
remains graph fields block e = may_come graph fields block (stands_for e.0 e.1.flag)

-- what the first of these entries gives for its own text
abbrev pub first_exact : List (ℕ × Entry) → Option Look
first_exact [] = None
first_exact (e ∷ more) = Some (exact e.0 e.1.flag)

-- the look-up among the entries that remain
abbrev pub look_among : (ℕ × Entry → Bool) → List Entry → List ℕ → Look
look_among left table atom = by_equal (filter left (equal_entries table atom)) (filter left (candidates table atom))

-- the text of one of them is the atom
abbrev pub has_text_among : (ℕ × Entry → Bool) → List Entry → List ℕ → Bool
has_text_among left table atom = list_any left (equal_entries table atom)

-- what is after the atom in each of them that it may abbreviate
abbrev pub rests_among : (ℕ × Entry → Bool) → List Entry → List ℕ → List (List ℕ)
rests_among left table atom =
    map (λ (e : ℕ × Entry). drop (length atom) e.1.text) (filter left (candidates table atom))

-- the longest text that all of these begin with, as the first has it
abbrev pub common_among : (ℕ × Entry → Bool) → List Entry → List ℕ → List ℕ
common_among left table atom = unwrap_or (reduce shared_letters (rests_among left table atom)) []
