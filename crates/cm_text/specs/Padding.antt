-- Short texts in the room for the longest name.
use Rattle.std.specs.Prelude.{ℕ, ◌-◌, List, ◌++◌, length, replicate}
use Rattle.cm_text.specs.declared.name.TheConstants.{NAME_LIMIT}

-- the bytes of a text, and zeros after them
abbrev pub padded : List ℕ → List ℕ
padded text = text ++ replicate (NAME_LIMIT - length text) 0
