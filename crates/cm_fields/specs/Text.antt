-- The rest of the line (.CMTXT).
use Rattle.std.specs.Prelude.{ℕ, ◌==◌, not, Bool, List, length, Result, Ok}
use Rattle.cm_fields.specs.declared.code.Code.{Code}
use Rattle.cm_fields.specs.declared.value.Value.{Value}
use Rattle.cm_fields.specs.declared.value.Value.TheVariants.{Text}
use Rattle.cm_fields.specs.declared.trial.Try.{Try}
use Rattle.cm_fields.specs.Try.{by_run, span}

-- any byte but a carriage return
abbrev pub is_inside : ℕ → Bool
is_inside byte = not (byte == 13)

-- whatever is there, from this place on
abbrev pub text_of : ℕ → List ℕ → Result Value Code
text_of at run = Ok (Text (span at (length run)))

abbrev pub text_field : List ℕ → ℕ → Try
text_field rest at = by_run is_inside (text_of at) rest at
