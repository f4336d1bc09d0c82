-- The bytes that a text of a test stands for.
use Rattle.std.specs.Prelude.{ℕ, ◌==◌, if◌then◌else◌, List, [], ◌∷◌}
use Rattle.std.specs.List.{flat_map}

-- `~` stands for the end of a line, `|` for a line feed, `_` for a space, each other byte for itself
unfoldable pub byte_meaning : ℕ → List ℕ
byte_meaning byte =
    if byte == 126 then 13 ∷ 10 ∷ []
    else (if byte == 124 then 10 ∷ [] else (if byte == 95 then 32 ∷ [] else byte ∷ []))

-- byte for byte
unfoldable pub meaning : List ℕ → List ℕ
meaning text = flat_map byte_meaning text
