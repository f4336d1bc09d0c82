-- How many generations of a file a directory keeps.
use Rattle.std.specs.Prelude.{ℕ, ◌&&◌, nat_lt, nat_le, if◌then◌else◌, List, length}
use Rattle.std.specs.Str.{all_ascii_digits}
use Rattle.std.specs.Str.Parse.{digits_value}
use Rattle.cm_hooks.specs.declared.answer.Answer.{Answer}
use Rattle.cm_hooks.specs.declared.answer.Answer.TheVariants.{Yes, No}

-- digits alone, at least one, of a value from 0 to 63
unfoldable pub retention_verdict : List ℕ → Answer
retention_verdict atom =
    if nat_lt 0 (length atom) && all_ascii_digits atom && nat_le (digits_value 10 atom) 63
    then Yes (digits_value 10 atom) else No
