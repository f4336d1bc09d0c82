-- The lines of those files that are of some days.
use Rattle.std.proofs.Common.{◌≡◌, ℕ, ◌+◌, Bool, true, false, List, [], ◌∷◌, ◌++◌, length, filter, if◌then◌else◌, refl, ap, arith}
use Rattle.std.specs.List.{flat_map}
use Rattle.cm_lists.proofs.Filters.{length-filter_cons}
use Rattle.ex_store.specs.declared.row.Row.{Row}
use Rattle.ex_commands.specs.declared.lines.Days.{Days}
use Rattle.ex_commands.specs.declared.lines.Lines.TheVariants.{Listed}
use Rattle.ex_commands.specs.Replies.{is_within, line_of, listed_line}

-- the files of other days have no line
pub lines_within : (days : Days) (read : Bool) (rows : List Row)
    → flat_map (line_of (Listed days read)) rows ≡ flat_map (listed_line read) (filter (is_within days) rows)
lines_within days read [] = refl
lines_within days read (row ∷ rows) = by (is_within days row) (lines_within days read rows)
  where
    by : (test : Bool)
        → flat_map (line_of (Listed days read)) rows ≡ flat_map (listed_line read) (filter (is_within days) rows)
        → (if test then listed_line read row else []) ++ flat_map (line_of (Listed days read)) rows
        ≡ flat_map (listed_line read) (if test then row ∷ filter (is_within days) rows else filter (is_within days) rows)
    by true rest = ap (λ more. listed_line read row ++ more) rest
    by false rest = rest

-- so the files from the next on are counted
pub counted_next : (days : Days) (rows rest : List Row) (row : Row) (count more whole : ℕ) → rows ≡ row ∷ rest
    → more ≡ length (filter (is_within days) (row ∷ [])) → count + length (filter (is_within days) rows) ≡ whole
    → count + more + length (filter (is_within days) rest) ≡ whole
counted_next days rows rest row count more whole is one all =
    let split = length-filter_cons (is_within days) row rest in
    let same = ap (λ (rows : List Row). length (filter (is_within days) rows)) is in
    omega arith
