-- The entries of a keyword table that a list shows, as `?` wants it (TBLUK).
use Rattle.std.specs.Prelude.{ℕ, Bool, true, false, ◌&&◌, List, [], ◌∷◌, drop, filter, Option, Some, None}
use Rattle.std.specs.List.{enumerate_from}
use Rattle.cm_text.specs.Case.{begins_with}
use Rattle.cm_tables.specs.declared.entry.Entry.{Entry}
use Rattle.cm_tables.specs.declared.entry.Flag.{Flag}
use Rattle.cm_tables.specs.declared.entry.Flag.TheVariants.{Plain, Invisible, NoRecognise, Short}

-- neither hidden nor refused nor a short form
abbrev pub is_plain : Flag → Bool
is_plain Plain = true
is_plain Invisible = false
is_plain NoRecognise = false
is_plain (Short target) = false

-- an entry that a list shows: a plain one that begins with what was typed
abbrev pub is_listed : List ℕ → Entry → Bool
is_listed atom entry = is_plain entry.flag && begins_with entry.text atom

-- the listed entries from a position on, each with its position
abbrev pub listed_from : ℕ → List Entry → List ℕ → List (ℕ × Entry)
listed_from from table atom = filter (λ (e : ℕ × Entry). is_listed atom e.1) (enumerate_from from (drop from table))

-- the position of the first of them, where there is one
abbrev pub first_place : List (ℕ × Entry) → Option ℕ
first_place [] = None
first_place (e ∷ more) = Some e.0

-- the position of the first listed entry from a position on
abbrev pub next_listed : List Entry → ℕ → List ℕ → Option ℕ
next_listed table from atom = first_place (listed_from from table atom)
