-- Patterns of names: `*` stands for any run of bytes, `%` for one byte (GTJFN). Letters have no case.
use Rattle.std.specs.Prelude.{ℕ, Bool, true, false, not, ◌==◌, ◌||◌, ◌&&◌, if◌then◌else◌, List, [], ◌∷◌}
use Rattle.cm_fields.specs.Phrase.{same_letter}

-- nothing is left of a text
abbrev pub is_nothing : List ℕ → Bool
is_nothing [] = true
is_nothing (byte ∷ more) = false

-- the text itself or some end of it passes
abbrev pub some_end : (List ℕ → Bool) → List ℕ → Bool
some_end test [] = test []
some_end test (byte ∷ more) = test (byte ∷ more) || some_end test more

-- a byte of a pattern other than `*` stands for this byte of a name
abbrev pub stands_for : ℕ → ℕ → Bool
stands_for mark byte = mark == 37 || same_letter mark byte

-- the mark stands for the first byte, and the rest passes
abbrev pub one_and : (List ℕ → Bool) → ℕ → List ℕ → Bool
one_and test mark [] = false
one_and test mark (byte ∷ more) = stands_for mark byte && test more

-- [wildcard] the pattern means the whole name
abbrev pub matches : List ℕ → List ℕ → Bool
matches [] name = is_nothing name
matches (mark ∷ more) name = if mark == 42 then some_end (matches more) name else one_and (matches more) mark name

-- a byte of a pattern other than `*`
abbrev pub is_plain : ℕ → Bool
is_plain mark = not (mark == 42)

-- a wildcard
abbrev pub is_wild : ℕ → Bool
is_wild byte = byte == 42 || byte == 37
