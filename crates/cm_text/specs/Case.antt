-- Texts compared with no regard to the case of letters.
use Rattle.std.specs.Prelude.{ℕ, Bool, List, length, take, map}
use Rattle.std.specs.Char.{to_ascii_lowercase}
use Rattle.std.specs.Str.{bytes_eq}

-- the two are one text
unfoldable pub equals : List ℕ → List ℕ → Bool
equals text other = bytes_eq (map to_ascii_lowercase text) (map to_ascii_lowercase other)

-- the text begins with the other
unfoldable pub begins_with : List ℕ → List ℕ → Bool
begins_with text other = equals (take (length other) text) other
