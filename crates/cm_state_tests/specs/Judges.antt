-- The rules of the tests, by the ids of the hooks: 0 takes a logical name, with its number of bytes, and refuses three
-- bytes that are none with a reason; 1 and 2 take an atom that has not three bytes, with their number, and 1 says that
-- it goes on with a Z; 3 takes all, and asks for a lamp. Fields of 4 have
-- points and slashes too; it says that they go on with .100. From 4 on names are listed: ports, lamps, and long names.
use Rattle.std.proofs.Common.{◌≡◌, arith}
use Rattle.std.specs.Prelude.{ℕ, ◌==◌, ◌||◌, ◌-◌, ◌^◌, Bool, true, List, [], ◌∷◌, codes, length, replicate, if◌then◌else◌}
use Rattle.std.proofs.lemmas.Bool.Decides.{nat_tests}
use Rattle.cm_text.specs.Bytes.{is_name, is_word}
use Rattle.cm_fields.specs.Reason.{ReasonView}
use Rattle.cm_files.specs.LogicalName.{is_logical_name}
use Rattle.cm_hooks.specs.declared.answer.Answer.{Answer}
use Rattle.cm_hooks.specs.declared.answer.Answer.TheVariants.{Yes, No, NoBecause}
use Rattle.cm_hooks.specs.declared.answer.Tail.{Tail}
use Rattle.cm_hooks.specs.declared.answer.Tail.TheVariants as tails
use Rattle.cm_hooks.specs.FieldBytes.{FieldBytes, is_graphic, name_bytes}

-- what it refuses them with
abbrev pub name_taken : ReasonView
name_taken = record { number = 150; text = codes "Name is taken" }

abbrev pub verdict : ℕ → List ℕ → Answer
verdict id atom =
    if id == 0
    then (if is_logical_name atom then Yes (length atom) else if length atom == 3 then NoBecause name_taken else No)
    else if id == 3 then Yes (2 ^ 64 - 1)
    else if length atom == 3 then No else Yes (length atom)

abbrev pub completion : ℕ → Tail
completion id =
    if id == 1 then tails.Part (90 ∷ []) else if id == 4 then tails.Part (codes ".100") else tails.None

abbrev pub help : ℕ → List ℕ
help id = if id == 3 then codes "lamp" else if id == 4 then codes "port" else []

-- bytes of the name of a port
abbrev pub is_port : ℕ → Bool
is_port byte = is_name byte || byte == 46 || byte == 47

pub port_graphic : (byte : ℕ) → is_port byte ≡ true → is_graphic byte ≡ true
unfolding is_name is_word
port_graphic byte is = grind (arith, nat_tests)

abbrev pub bytes : ℕ → FieldBytes
bytes id = if id == 4 then record { test = is_port; graphic = port_graphic } else name_bytes

-- the names that are listed
abbrev pub ports : List (List ℕ)
ports = codes "eth0" ∷ codes "eth0.100" ∷ codes "1/2" ∷ []

abbrev pub long_names : List (List ℕ)
long_names =
    codes "a234567890123456789012345678901234567" ∷ codes "a234567890123456789012345678901234568"
    ∷ codes "b2345678901234567890123456789012345678" ∷ codes "b2345678901234567890123456789012345679" ∷ []

abbrev pub names : ℕ → List (List ℕ)
names id =
    if id == 4 then ports else if id == 5 then replicate 61 (codes "lamp")
    else if id == 6 then long_names else []

-- each by its number
abbrev pub port : ℕ → List ℕ
port number = if number == 0 then codes "eth0" else if number == 1 then codes "eth0.100" else codes "1/2"

abbrev pub long_name : ℕ → List ℕ
long_name number =
    if number == 0 then codes "a234567890123456789012345678901234567"
    else if number == 1 then codes "a234567890123456789012345678901234568"
    else if number == 2 then codes "b2345678901234567890123456789012345678"
    else codes "b2345678901234567890123456789012345679"

abbrev pub name_of : ℕ → ℕ → List ℕ
name_of id number = if id == 4 then port number else if id == 5 then codes "lamp" else long_name number
