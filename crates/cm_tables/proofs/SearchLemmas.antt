-- The walk over the entries that begin with an atom.
use Rattle.std.proofs.Common.{ℕ, List, [], ◌∷◌, Option, Some, None}
use Rattle.cm_tables.specs.Look.{abbreviated}
use Rattle.cm_tables.specs.declared.entry.Entry.{Entry}
use Rattle.cm_tables.specs.declared.table.Look.{Look}
use Rattle.cm_tables.specs.declared.table.Look.TheVariants as looks

-- what a walk gives that has found the one so far, and comes to these
abbrev pub joined : Option ℕ → List (ℕ × Entry) → Look
joined None rest = abbreviated rest
joined (Some position) [] = looks.Abbrev position
joined (Some position) (e ∷ more) = looks.Ambiguous
