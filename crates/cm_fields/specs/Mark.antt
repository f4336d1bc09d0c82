-- Single bytes: a comma, and the end of the line (.CMCMA, .CMCFM).
use Rattle.std.specs.Prelude.{ℕ, ◌+◌, ◌==◌, if◌then◌else◌, List, [], ◌∷◌}
use Rattle.cm_fields.specs.declared.code.Code.TheVariants.{NotComma, NotConfirmed}
use Rattle.cm_fields.specs.declared.trial.Try.{Try}
use Rattle.cm_fields.specs.declared.trial.Try.TheVariants.{Accept, Refuse, More}
use Rattle.cm_fields.specs.declared.value.Value.TheVariants.{Comma, Confirm}

abbrev pub comma : List ℕ → ℕ → Try
comma [] at = More
comma (byte ∷ rest) at = if byte == 44 then Accept Comma 1 (at + 1) else Refuse NotComma 1

-- the carriage return itself is left
abbrev pub confirm : List ℕ → ℕ → Try
confirm [] at = More
confirm (byte ∷ rest) at = if byte == 13 then Accept Confirm 1 at else Refuse NotConfirmed 1
