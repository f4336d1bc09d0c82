-- What the words of a program ask for.
use Rattle.std.specs.Prelude.{ℕ, Bool, false, not, ◌&&◌, ◌==◌, List, [], ◌∷◌, Option, Some, None, if◌then◌else◌}
use Rattle.std.specs.Str.{bytes_eq}
use Rattle.cm_io.specs.Words.{Given}

-- two words, and three
pub record Two : Type 0 where
  pub first : List ℕ
  pub second : List ℕ

pub record Three : Type 0 where
  pub first : List ℕ
  pub second : List ℕ
  pub third : List ℕ

unfoldable pub pair_of : Given → Option Two
pair_of (Some (first ∷ second ∷ [])) = Some (record { first = first; second = second })
pair_of words = None

unfoldable pub triple_of : Given → Option Three
triple_of (Some (first ∷ second ∷ third ∷ [])) = Some (record { first = first; second = second; third = third })
triple_of words = None

-- whether there is a log; the file whose image the run begins from, or none where it begins anew; and the file that
-- the image is written to
pub record Form : Type 0 where
  pub logs : Bool
  pub input : Option (List ℕ)
  pub out : List ℕ

-- a file's name is not empty, and begins with no hyphen
abbrev pub is_name : List ℕ → Bool
is_name [] = false
is_name (byte ∷ bytes) = not (byte == 45)

-- `IN OUT`, which are two files
abbrev pub in_out : Bool → List ℕ → List ℕ → Option Form
in_out logs input out =
    if is_name input && is_name out && not (bytes_eq input out)
    then Some (record { logs = logs; input = Some input; out = out }) else None
