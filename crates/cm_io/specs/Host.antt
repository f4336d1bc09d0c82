-- The files of a host: what each name has, if anything.
use Rattle.std.specs.Prelude.{◌≡◌, ◌≢◌, ◌⊎◌, ℕ, List, [], ◌++◌, Option, Some, None}
use Rattle.std.specs.Option.{option_map}
use Rattle.cm_io.specs.Contents.{IsPart}
use Rattle.cm_io.specs.declared.sink.Put.{Put}
use Rattle.cm_io.specs.declared.sink.Put.TheVariants.{Done, Failed}

-- what each name has
abbrev pub Files : Type 0
Files = List ℕ → Option (List ℕ)

-- every file but this one is as before
abbrev pub KeepsOthers : List ℕ → Files → Files → Type 0
KeepsOthers name before now = (other : List ℕ) → other ≢ name → now other ≡ before other

-- creating leaves the file empty; where it fails, the file is absent, as before, or empty
abbrev pub Creates : Option (List ℕ) → Option (List ℕ) → Put → Type 0
Creates before now Done = now ≡ Some []
Creates before now Failed = (now ≡ None) ⊎ (now ≡ before) ⊎ (now ≡ Some [])

-- a prefix of the bytes was appended
pub record AppendsPart (before now : Option (List ℕ)) (bytes : List ℕ) : Type 0 where
  pub part : List ℕ
  pub is_part : IsPart part bytes
  pub appended : now ≡ option_map (λ content. content ++ part) before

-- writing appends all of the bytes; where it fails, a prefix of them
abbrev pub Writes : Option (List ℕ) → Option (List ℕ) → List ℕ → Put → Type 0
Writes before now bytes Done = now ≡ option_map (λ content. content ++ bytes) before
Writes before now bytes Failed = AppendsPart before now bytes
