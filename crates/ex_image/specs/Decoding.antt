-- What decoding answers.
use Rattle.std.specs.Prelude.{◌≡◌, ℕ, List, Result, Ok, Err}
use Rattle.ex_image.specs.declared.fault.ImageFault.{ImageFault}
use Rattle.ex_image.specs.declared.fault.ImageFault.TheVariants.{Bad, NoMemory}
use Rattle.cm_io.specs.declared.status.Kind.{Kind}
use Rattle.ex_image.specs.Grammar.{FirstBad}
use Rattle.ex_store.specs.State.{StoreWithRoom, State}

-- the first wrong record is told
abbrev pub Tells : List ℕ → ImageFault → Type 0
Tells bytes (Bad at kind) = FirstBad bytes at kind
Tells bytes NoMemory = Unit {0}

-- [image-read] a store of this state, unless memory runs out
abbrev pub IsStore : Result StoreWithRoom ImageFault → State → Type 0
IsStore (Ok store) wanted = store.state ≡ wanted
IsStore (Err (Bad at kind)) wanted = ⊥
IsStore (Err NoMemory) wanted = Unit {0}

-- [image-fault] this fault, unless memory runs out
abbrev pub IsBadAt : Result StoreWithRoom ImageFault → ℕ → Kind → Type 0
IsBadAt (Ok store) place fault = ⊥
IsBadAt (Err (Bad at kind)) place fault = (at ≡ place) × (kind ≡ fault)
IsBadAt (Err NoMemory) place fault = Unit {0}
