-- The help of keywords.
use Rattle.std.specs.Prelude.{ℕ, List}

-- what is said of the last of some keywords, to which the others lead
pub record KeywordHelp : Type 0 where
  pub path : List (List ℕ)
  pub text : List ℕ
