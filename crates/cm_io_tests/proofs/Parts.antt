-- Parts of bytes, as sinks take them.
use Rattle.std.proofs.Common.{ℕ, ◌≡◌, ◌-◌, ap, refl, arith, true, false, List, [], ◌∷◌, ◌++◌, length, take, drop, subst}
use Rattle.std.proofs.Math.Seq.{take-nil}
use Rattle.std.proofs.lemmas.List.{take-append-drop, take_all}
use Rattle.cm_io.specs.Contents.{Bytes, AddsPart}
use Rattle.cm_io.proofs.Additions.{adds_early, adds_prefix}
use Rattle.cm_io_tests.specs.Parts.{PartState, is_fault, part_of, size_of}

-- a beginning of a beginning of the bytes is a part of them
pub adds_part_of_part : (given bytes : List ℕ) (n m : ℕ)
    → AddsPart (Bytes given) (Bytes (given ++ take m (take n bytes))) bytes
adds_part_of_part given bytes n m =
    subst (λ whole. AddsPart (Bytes given) (Bytes (given ++ take m (take n bytes))) whole) (take-append-drop n bytes)
    (adds_early (Bytes given) (Bytes (given ++ take m (take n bytes))) (take n bytes) (drop n bytes)
    (adds_prefix given (take n bytes) m))

-- what the put that fails takes
pub part_is_some : (sink : PartState) (bytes : List ℕ) → is_fault sink.failing (length sink.starts) ≡ true
    → part_of sink bytes ≡ take (sink.room - length sink.bytes) (take (size_of sink.part (length bytes)) bytes)
unfolding part_of
part_is_some sink bytes is = rw is refl

-- what another takes
pub part_is_all : (sink : PartState) (bytes : List ℕ) → is_fault sink.failing (length sink.starts) ≡ false
    → part_of sink bytes ≡ take (sink.room - length sink.bytes) bytes
unfolding part_of
part_is_all sink bytes is = rw (is, take_all (length bytes) bytes (omega arith)) refl

-- and one of no bytes
pub part_is_none : (sink : PartState) (bytes : List ℕ) → length bytes ≡ 0
    → part_of sink bytes ≡ take (sink.room - length sink.bytes) bytes
unfolding part_of
part_is_none sink [] none = ap (take (sink.room - length sink.bytes)) (take-nil _)
part_is_none sink (byte ∷ bytes) none = absurd (omega (arith, none))
