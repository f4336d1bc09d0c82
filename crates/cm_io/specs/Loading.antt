-- What loading a file gives.
use Rattle.std.specs.Prelude.{◌≡◌, ℕ, ◌≤◌, ◌<◌, List, length, Option, Some, None}
use Rattle.cm_io.specs.Fault.{Rose}
use Rattle.cm_io.specs.declared.host.Loaded.{Loaded}
use Rattle.cm_io.specs.declared.host.Loaded.TheVariants.{Bytes, Absent, TooLarge, Failed, NoMemory}

-- there is a file of more bytes
abbrev pub IsLonger : ℕ → Option (List ℕ) → Type 0
IsLonger limit None = ⊥
IsLonger limit (Some content) = limit < length content

-- Bytes are all of the file, Absent comes where there is none, TooLarge where it has more bytes than the limit
abbrev pub Loads : Option (List ℕ) → ℕ → Loaded → Type 0
Loads file limit (Bytes bytes) = file ≡ Some bytes.items
Loads file limit Absent = file ≡ None
Loads file limit TooLarge = IsLonger limit file
Loads file limit Failed = Unit
Loads file limit NoMemory = Unit

-- the bytes are no more than the limit
abbrev pub IsWithin : ℕ → Loaded → Type 0
IsWithin limit (Bytes bytes) = length bytes.items ≤ limit
IsWithin limit Absent = Unit
IsWithin limit TooLarge = Unit
IsWithin limit Failed = Unit
IsWithin limit NoMemory = Unit

-- Failed comes only where the count rose, and the other answers only where it stayed
abbrev pub LoadCause : ℕ → ℕ → Loaded → Type 0
LoadCause before now (Bytes bytes) = now ≡ before
LoadCause before now Absent = now ≡ before
LoadCause before now TooLarge = now ≡ before
LoadCause before now Failed = Rose before now
LoadCause before now NoMemory = now ≡ before
