-- How much of a line a key leaves as it was.
use Rattle.std.specs.Prelude.{ℕ, ◌-◌, List, length, Option, Some}
use Rattle.cm_line.specs.declared.key.KeyClass.{KeyClass}
use Rattle.cm_line.specs.declared.key.KeyClass.TheVariants.{Back, Join}
use Rattle.cm_blocks.specs.KeptParse.{common}

-- the most bytes at the front of a line that a key of this class leaves: those that the bytes brought back begin
-- with too, those before the hyphen of a line that is continued, or else all
abbrev pub front : KeyClass → List ℕ → Option (List ℕ) → ℕ
front Back line (Some recall) = common line recall
front Join line recall = length line - 1
front class line recall = length line
