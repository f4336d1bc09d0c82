-- What a command is: its parts, and its help.
use Rattle.std.specs.Prelude.{ℕ, List}
use Rattle.cm_synopsis.specs.declared.part.Part.{Part}

pub record CommandView : Type 0 where
  pub parts : List Part
  pub help : List ℕ
