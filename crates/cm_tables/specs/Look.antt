-- The look-up of an atom in a keyword table (TBLUK), as filters of the whole table.
use Rattle.std.specs.Prelude.{ℕ, ◌<◌, Bool, true, false, ◌&&◌, List, [], ◌∷◌, filter, Option, Some, None}
use Rattle.std.specs.List.{enumerate_from, list_any}
use Rattle.cm_text.specs.Case.{equals, begins_with}
use Rattle.cm_tables.specs.declared.entry.Entry.{Entry}
use Rattle.cm_tables.specs.declared.entry.Flag.{Flag}
use Rattle.cm_tables.specs.declared.entry.Flag.TheVariants.{Plain, Invisible, NoRecognise, Short}
use Rattle.cm_tables.specs.declared.table.Look.{Look}
use Rattle.cm_tables.specs.declared.table.Look.TheVariants as looks

-- an abbreviation may stand for such an entry
abbrev pub is_recognised : Flag → Bool
is_recognised Plain = true
is_recognised Invisible = true
is_recognised NoRecognise = false
is_recognised (Short target) = false

-- the entries whose text is the atom, each with its position
abbrev pub equal_entries : List Entry → List ℕ → List (ℕ × Entry)
equal_entries table atom = filter (λ (e : ℕ × Entry). equals e.1.text atom) (enumerate_from 0 table)

-- the entries that the atom may abbreviate, each with its position
abbrev pub candidates : List Entry → List ℕ → List (ℕ × Entry)
candidates table atom =
    filter (λ (e : ℕ × Entry). is_recognised e.1.flag && begins_with e.1.text atom)
    (enumerate_from 0 table)

-- what an entry gives whose text is the atom: a Short entry gives the one that it stands for
abbrev pub exact : ℕ → Flag → Look
exact position Plain = looks.Exact position
exact position Invisible = looks.Exact position
exact position NoRecognise = looks.Ambiguous
exact position (Short target) = looks.Exact target

-- what the entries give that the atom may abbreviate
abbrev pub abbreviated : List (ℕ × Entry) → Look
abbreviated [] = looks.None
abbreviated (e ∷ []) = looks.Abbrev e.0
abbreviated (e ∷ f ∷ more) = looks.Ambiguous

-- an entry that is the atom goes before all that it may abbreviate
abbrev pub by_equal : List (ℕ × Entry) → List (ℕ × Entry) → Look
by_equal [] abbreviations = abbreviated abbreviations
by_equal (e ∷ more) abbreviations = exact e.0 e.1.flag

-- [abbreviation]
unfoldable pub look : List Entry → List ℕ → Look
look table atom = by_equal (equal_entries table atom) (candidates table atom)

-- a position that the look-up gives is below the number of entries
abbrev pub IsWithin : Look → ℕ → Type 0
IsWithin looks.None count = Unit {0}
IsWithin looks.Ambiguous count = Unit {0}
IsWithin (looks.Abbrev position) count = position < count
IsWithin (looks.Exact position) count = position < count

-- the position that the look-up gives, where it gives one
abbrev pub found_at : Look → Option ℕ
found_at looks.None = None
found_at looks.Ambiguous = None
found_at (looks.Abbrev position) = Some position
found_at (looks.Exact position) = Some position

-- the text of some entry is the atom
abbrev pub has_text : List Entry → List ℕ → Bool
has_text table atom = list_any (λ (entry : Entry). equals entry.text atom) table
