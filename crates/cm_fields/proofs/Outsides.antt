-- The text of a range, as a refusal keeps it.
use Rattle.std.proofs.Common.{◌≡◌, ℕ, ◌≤◌, List, length, take, arith, length-append}
use Rattle.std.specs.Str.{IsAscii}
use Rattle.std.proofs.Math.Seq.{take-append_seam}
use Rattle.cm_text.specs.Padding.{padded}
use Rattle.cm_fields.specs.Numbers.{range_reason}
use Rattle.cm_fields.specs.declared.numbers.Numbers.{Numbers}
use Rattle.cm_fields.proofs.Numerals.{range_reason_shown}
use Rattle.cm_fields.proofs.Reasons.{text_ascii}

pub range_reason_whole : (numbers : Numbers) (size : ℕ) (bytes : List ℕ) → size ≡ length (range_reason numbers)
    → bytes ≡ padded (range_reason numbers) → take size bytes ≡ range_reason numbers
range_reason_whole numbers size bytes is_size is_padded = rw (is_size, is_padded) (take-append_seam (range_reason numbers) _)

pub range_reason_fits : (numbers : Numbers) (size : ℕ) (bytes : List ℕ) → size ≡ length (range_reason numbers)
    → bytes ≡ padded (range_reason numbers) → size ≤ length bytes
range_reason_fits numbers size bytes is_size is_padded = rw (is_size, is_padded) (simp length-append (omega arith))

pub range_reason_ascii : (numbers : Numbers) (size : ℕ) (bytes : List ℕ) → size ≡ length (range_reason numbers)
    → bytes ≡ padded (range_reason numbers) → IsAscii (take size bytes)
range_reason_ascii numbers size bytes is_size is_padded =
    rw (range_reason_whole numbers size bytes is_size is_padded) (text_ascii (range_reason numbers) (range_reason_shown numbers))
