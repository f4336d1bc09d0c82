-- The names that `?` lists after the phrase of a hook's field: those that begin with what is typed, in columns.
use Rattle.std.specs.Prelude.{ℕ, ◌+◌, ◌-◌, ◌==◌, nat_le, max, Bool, true, false, if◌then◌else◌, List, [], ◌∷◌, ◌++◌, length, take, filter, codes}
use Rattle.std.specs.Fmt.{decimal}
use Rattle.std.specs.List.{fold}
use Rattle.cm_text.specs.Case.{begins_with}
use Rattle.cm_text.specs.ScreenBytes.{end_of_line}
use Rattle.cm_io.specs.Pieces.{times}
use Rattle.cm_help.specs.declared.names.TheConstants.{NAMES_LIMIT, ROW_SIZE}

unfoldable pub gap : List ℕ
gap = codes "  "

-- the names that begin with an atom, with no regard to the case of letters
abbrev pub matching : List ℕ → List (List ℕ) → List (List ℕ)
matching atom names = filter (λ (name : List ℕ). begins_with name atom) names

-- the first of them are listed
abbrev pub listed : List ℕ → List (List ℕ) → List (List ℕ)
listed atom names = take NAMES_LIMIT (matching atom names)

-- how many are not
abbrev pub others : List ℕ → List (List ℕ) → ℕ
others atom names = length (matching atom names) - NAMES_LIMIT

-- the size of the longest, or this one
abbrev pub longest : ℕ → List (List ℕ) → ℕ
longest size names = fold (λ (size : ℕ) (name : List ℕ). max size (length name)) size names

-- one more column, of this size and two blanks, is in the row where this much of it is taken
abbrev pub fits : ℕ → ℕ → Bool
fits width taken = nat_le (taken + (width + 2)) ROW_SIZE

-- in the row, after the blanks that fill the column of the name before, which has this size; or on a line of its own
unfoldable pub lead : Bool → ℕ → ℕ → List ℕ
lead true width size = times (width - size) (codes " ")
lead false width size = end_of_line

-- what is taken of the row then
unfoldable pub taken_with : Bool → ℕ → ℕ → ℕ
taken_with true width taken = taken + (width + 2)
taken_with false width taken = width + 2

-- names in columns of this width, along the rows, where this much of a row is taken, and the name before has this size
abbrev pub columns : ℕ → ℕ → ℕ → List (List ℕ) → List ℕ
columns width taken size [] = []
columns width taken size (name ∷ more) =
    (lead (fits width taken) width size ++ gap ++ name)
    ++ columns width (taken_with (fits width taken) width taken) (length name) more

-- that there are more
unfoldable pub and_more : ℕ → List ℕ
and_more count = if count == 0 then [] else end_of_line ++ codes "  and " ++ decimal count ++ codes " more"

-- no row is begun yet
unfoldable pub name_rows : List ℕ → List (List ℕ) → List ℕ
name_rows atom names =
    columns (longest 0 (listed atom names)) ROW_SIZE 0 (listed atom names) ++ and_more (others atom names)
