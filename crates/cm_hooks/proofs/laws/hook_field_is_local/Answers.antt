use Rattle.cm_fields.proofs.Runs.{run_is_local}
use Rattle.cm_hooks.specs.Field.{hook_of}
use Rattle.cm_hooks.proofs.laws.hook_field_is_local.Goals as goal

pub returns : goal.returns
returns c = λ meanings id. run_is_local (meanings.bytes id).test (λ at. hook_of meanings.verdict id)
