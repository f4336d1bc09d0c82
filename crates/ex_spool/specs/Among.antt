-- An element that is in a list, and a text that was shown whole.
use Rattle.std.specs.Prelude.{◌≡◌, ℕ, List, ◌∷◌, ◌++◌}
use Rattle.cm_io.specs.Contents.{Contents, add}

pub record StandsIn {X : Type 0} (xs : List X) (x : X) : Type 0 where
  pub front : List X
  pub back : List X
  pub is : xs ≡ front ++ x ∷ back

-- of what was given between two moments the text is a part
pub record WasShown (before now : Contents) (text : List ℕ) : Type 0 where
  pub front : List ℕ
  pub back : List ℕ
  pub is : now ≡ add before ((front ++ text) ++ back)
