-- What a get takes from the bytes that are left.
use Rattle.std.specs.Prelude.{◌≡◌, ℕ, List, [], ◌∷◌}
use Rattle.cm_io.specs.Fault.{Rose, next_count}
use Rattle.cm_io.specs.declared.source.Got.{Got}
use Rattle.cm_io.specs.declared.source.Got.TheVariants.{Byte, End, Failed}

-- Byte takes the first that is left, End comes where none is left, Failed takes none
abbrev pub Takes : List ℕ → List ℕ → Got → Type 0
Takes before now (Byte byte) = before ≡ byte ∷ now
Takes before now End = (before ≡ []) × (now ≡ [])
Takes before now Failed = now ≡ before

-- the faults after a get, of a source that counts each of them once
abbrev pub get_faults : ℕ → Got → ℕ
get_faults before (Byte byte) = before
get_faults before End = before
get_faults before Failed = next_count before

-- Failed comes only where the count rose, and the other answers only where it stayed
abbrev pub GotCause : ℕ → ℕ → Got → Type 0
GotCause before now (Byte byte) = now ≡ before
GotCause before now End = now ≡ before
GotCause before now Failed = Rose before now
