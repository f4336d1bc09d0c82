-- Why an application refuses: a number for the log and a text for the screen.
use Rattle.std.specs.Prelude.{ℕ, ◌&&◌, nat_le, nat_lt, if◌then◌else◌, Bool, List, length, Option, None, Some}
use Rattle.std.specs.List.{list_all}
use Rattle.cm_text.specs.declared.name.TheConstants.{NAME_LIMIT}
use Rattle.cm_fields.specs.declared.reason.TheConstants.{OWN_NUMBER}

pub record ReasonView : Type 0 where
  pub number : ℕ
  pub text : List ℕ

-- from space to tilde
abbrev pub is_printing : ℕ → Bool
is_printing byte = nat_le 32 byte && nat_le byte 126

-- a text that a screen may show: some bytes, at most 39, each of which prints
unfoldable pub is_reason_text : List ℕ → Bool
is_reason_text text = nat_lt 0 (length text) && nat_le (length text) NAME_LIMIT && list_all is_printing text

-- such a text, and a number that is none of the library's
unfoldable pub is_reason : ℕ → List ℕ → Bool
is_reason number text = nat_le OWN_NUMBER number && is_reason_text text

-- the reason with this number and text, where they may be its
abbrev pub reason_of : ℕ → List ℕ → Option ReasonView
reason_of number text = if is_reason number text then Some (record { number = number; text = text }) else None
