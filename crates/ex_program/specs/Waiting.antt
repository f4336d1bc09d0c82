-- What a generator has left, and how often it was asked.
use Rattle.std.specs.Prelude.{ℕ, List}

pub record Waiting : Type 0 where
  pub left : List ℕ
  pub gets : ℕ
