-- A field that a hook judges.
use Rattle.std.specs.Prelude.{ℕ, ◌==◌, if◌then◌else◌, List, length, Result, Ok, Err}
use Rattle.cm_fields.specs.declared.code.Code.{Code}
use Rattle.cm_fields.specs.declared.code.Code.TheVariants.{NoField, Rejected, Own}
use Rattle.cm_fields.specs.declared.trial.Try.{Try}
use Rattle.cm_fields.specs.declared.value.Value.{Value}
use Rattle.cm_fields.specs.declared.value.Value.TheVariants as values
use Rattle.cm_fields.specs.Try.{by_run}
use Rattle.cm_hooks.specs.declared.answer.Answer.{Answer}
use Rattle.cm_hooks.specs.declared.answer.Answer.TheVariants.{Yes, No, NoBecause}
use Rattle.cm_hooks.specs.Meanings.{Meanings}

-- what the answer of the hook with this id makes of the field
abbrev pub judged : ℕ → Answer → Result Value Code
judged id (Yes value) = Ok (values.Hook id value)
judged id No = Err Rejected
judged id (NoBecause reason) = Err (Own reason)

-- an empty run is no field; of any other the verdict is asked
unfoldable pub hook_of : (ℕ → List ℕ → Answer) → ℕ → List ℕ → Result Value Code
hook_of verdict id run = if length run == 0 then Err NoField else judged id (verdict id run)

-- [own-field] a run of the bytes of its fields
abbrev pub hook : Meanings → ℕ → List ℕ → ℕ → Try
hook meanings id rest at = by_run (meanings.bytes id).test (hook_of meanings.verdict id) rest at
