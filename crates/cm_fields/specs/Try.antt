-- What a field function makes of the rest of a text: it accepts, it refuses, or it wants more.
use Rattle.std.specs.Prelude.{ℕ, ◌+◌, ◌==◌, if◌then◌else◌, Bool, List, length, take, Result, Ok, Err}
use Rattle.std.specs.List.{prefix_len}
use Rattle.cm_fields.specs.declared.code.Code.{Code}
use Rattle.cm_fields.specs.declared.value.Span.{Span}
use Rattle.cm_fields.specs.declared.value.Value.{Value}
use Rattle.cm_fields.specs.declared.trial.Try.{Try}
use Rattle.cm_fields.specs.declared.trial.Try.TheVariants.{Accept, Refuse, More}

-- the part of a text that begins at this place, of this size
abbrev pub span : ℕ → ℕ → Span
span at size = record { start = at; end = at + size }

-- a value, of a field of this size, or a refusal; so many bytes decide
abbrev pub said : ℕ → ℕ → ℕ → Result Value Code → Try
said at size looked (Ok value) = Accept value looked (at + size)
said at size looked (Err code) = Refuse code looked

-- a run of such bytes, which the byte after it ends; where the text ends with the run, more is wanted
abbrev pub by_run : (ℕ → Bool) → (List ℕ → Result Value Code) → List ℕ → ℕ → Try
by_run is_part decide rest at =
    let size = prefix_len is_part rest in
    if size == length rest then More else said at size (size + 1) (decide (take size rest))
