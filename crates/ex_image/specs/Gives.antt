-- What reading gives, in the code and by a definition.
use Rattle.std.specs.Prelude.{◌≡◌, Result, Ok, Err}
use Rattle.cm_io.specs.declared.status.Kind.{Kind}

-- the same value, as it is seen, or the same fault
abbrev pub Gives : {A B : Type 0} → (A → B) → Result A Kind → Result B Kind → Type 0
Gives view (Ok value) read = read ≡ Ok (view value)
Gives view (Err kind) read = read ≡ Err kind
