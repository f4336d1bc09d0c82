-- What a sink tells of the bytes that it was given, and what a put adds to it.
use Rattle.std.specs.Prelude.{◌≡◌, ℕ, ◌+◌, min, max, List, ◌++◌, length}
use Rattle.cm_io.specs.Fault.{last_count}
use Rattle.cm_io.specs.declared.sink.Put.{Put}
use Rattle.cm_io.specs.declared.sink.Put.TheVariants.{Done, Failed}

-- a sink tells its bytes, or their number alone, or nothing
pub data Contents : Type 0 where
  Nothing : Contents
  Number : ℕ → Contents
  Bytes : List ℕ → Contents

-- what is told after more bytes; a number stays at its last value
unfoldable pub add : Contents → List ℕ → Contents
add Nothing bytes = Nothing
add (Number n) bytes = Number (max n (min (n + length bytes) last_count))
add (Bytes given) bytes = Bytes (given ++ bytes)

-- the part is a prefix of the whole
pub record IsPart (part whole : List ℕ) : Type 0 where
  pub rest : List ℕ
  pub joined : part ++ rest ≡ whole

-- a prefix of the bytes was added
pub record AddsPart (before now : Contents) (bytes : List ℕ) : Type 0 where
  pub part : List ℕ
  pub is_part : IsPart part bytes
  pub added : now ≡ add before part

-- Done adds all of the bytes, Failed a prefix of them
abbrev pub Adds : Contents → Contents → List ℕ → Put → Type 0
Adds before now bytes Done = now ≡ add before bytes
Adds before now bytes Failed = AddsPart before now bytes
