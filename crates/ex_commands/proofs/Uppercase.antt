-- Parts of a text in upper case.
use Rattle.std.proofs.Common.{ℕ, ◌-◌, ◌≤◌, List, length, drop, arith}
use Rattle.std.proofs.lemmas.List.{length-take}
use Rattle.cm_fields.specs.declared.value.Span.{Span}
use Rattle.cm_files.specs.Spec.{part}

-- a part has no more bytes than there are between its places
pub part_within : (text : List ℕ) (place : Span) → length (part text place) ≤ place.end - place.start
part_within text place = let size = length-take (place.end - place.start) (drop place.start text) in omega arith
