-- What the EXEC's hooks mean: 0 a logical name, 1 the name of a form, 2 a retention count.
use Rattle.std.specs.Prelude.{ℕ, ◌==◌, if◌then◌else◌, List, [], ◌∷◌, length, codes}
use Rattle.cm_files.specs.LogicalName.{is_logical_name}
use Rattle.cm_hooks.specs.Among.{completion_among, verdict_among}
use Rattle.cm_hooks.specs.declared.answer.Answer.{Answer}
use Rattle.cm_hooks.specs.declared.answer.Answer.TheVariants.{Yes, No}
use Rattle.cm_hooks.specs.declared.answer.Tail.{Tail}
use Rattle.cm_hooks.specs.declared.answer.Tail.TheVariants as tails
use Rattle.cm_hooks.specs.FieldBytes.{name_bytes}
use Rattle.cm_hooks.specs.Meanings.{Meanings}
use Rattle.ex_grammar.specs.RetentionCount.{retention_verdict}

-- a logical name is taken with the number of its bytes
abbrev pub logical_verdict : List ℕ → Answer
logical_verdict atom = if is_logical_name atom then Yes (length atom) else No

-- the names of forms, in the order of their numbers
abbrev pub forms : List (List ℕ)
forms = codes "NARROW" ∷ codes "NORMAL" ∷ codes "WIDE" ∷ []

abbrev pub rule_verdict : ℕ → List ℕ → Answer
rule_verdict id atom =
    if id == 0 then logical_verdict atom else (if id == 1 then verdict_among forms atom else retention_verdict atom)

-- only the name of a form is completed
abbrev pub rule_completion : ℕ → List ℕ → Tail
rule_completion id atom = if id == 1 then completion_among forms atom else tails.None

unfoldable pub rule_help : ℕ → List ℕ
rule_help id =
    if id == 0 then codes "logical name"
    else (if id == 1 then codes "form name" else codes "number from 0 to 63")

abbrev pub exec_meanings : Meanings
exec_meanings = record {
  bytes = λ id. name_bytes;
  names = λ id. [];
  verdict = rule_verdict;
  completion = rule_completion;
  help = rule_help;
}
