-- Rows of a directory, tried one after the other.
use Rattle.std.specs.Prelude.{ℕ, ◌==◌, ◌&&◌, Bool, true, false, List, slice_get}
use Rattle.std.specs.Option.{option_map_or}
use Rattle.cm_fields.specs.declared.value.Gen.{Gen}
use Rattle.cm_fields.specs.declared.value.Gen.TheVariants.{Missing, Highest, Next, Lowest, All, Number}
use Rattle.cm_files.specs.declared.row.FileRow.{FileRow}
use Rattle.cm_files.specs.Selection.{Wanted, is_seen}

-- there is an element with this number, and it passes
abbrev pub passes_at : {X : Type 0} → (X → Bool) → List X → ℕ → Bool
passes_at test xs i = option_map_or test (slice_get xs i) false

-- some file of this generation may be meant, whichever others there are
abbrev pub may_take : Gen → ℕ → Bool
may_take Missing generation = true
may_take Highest generation = true
may_take Next generation = false
may_take Lowest generation = true
may_take All generation = true
may_take (Number number) generation = generation == number

-- a row is seen, and its generation may be meant
unfoldable pub may_pass : Wanted → FileRow → Bool
may_pass w row = is_seen w row && may_take w.generation row.generation
