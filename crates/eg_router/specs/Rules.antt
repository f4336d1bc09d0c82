-- What the router says of its own kinds of field, by its interfaces as they stand.
use Rattle.std.proofs.Common.{◌≡◌, ℕ, ◌==◌, ◌||◌, Bool, true, false, not, nat_le, if◌then◌else◌, List, [], codes, length, map, arith}
use Rattle.std.specs.Prelude.{is_some}
use Rattle.std.specs.Char.{is_ascii_digit}
use Rattle.std.specs.List.{list_all, list_any}
use Rattle.std.proofs.lemmas.Bool.Decides.{nat_tests}
use Rattle.cm_net.specs.Values.{ipv4_value}
use Rattle.cm_text.specs.Bytes.{is_name, is_word}
use Rattle.cm_text.specs.Case.{equals}
use Rattle.cm_hooks.specs.Among.{completion_among}
use Rattle.cm_hooks.specs.FieldBytes.{FieldBytes, is_graphic}
use Rattle.cm_hooks.specs.Meanings.{Meanings}
use Rattle.cm_hooks.specs.declared.answer.Answer.{Answer}
use Rattle.cm_hooks.specs.declared.answer.Answer.TheVariants.{NoBecause, Yes}
use Rattle.cm_hooks.specs.declared.answer.Tail.TheVariants as tails
use Rattle.eg_router.specs.Interfaces.{is_typed_name, names_of}
use Rattle.eg_router.specs.declared.interface.Interface.{Interface}
use Rattle.eg_router.specs.declared.interfaces.TheConstants.{INTERFACE_LIMIT}
use Rattle.eg_router.specs.declared.rules.TheConstants.{IPV4, NAME}

-- why a field is refused
unfoldable pub no_such : Answer
no_such = NoBecause (record { number = 128; text = codes "No such interface" })

unfoldable pub no_name : Answer
no_name = NoBecause (record { number = 129; text = codes "Not a name of an interface" })

unfoldable pub no_room : Answer
no_room = NoBecause (record { number = 130; text = codes "Too many interfaces" })

unfoldable pub no_address : Answer
no_address = NoBecause (record { number = 131; text = codes "Not an address" })

-- a text that writes an IPv4 address; it is kept as it is, so that its value is not asked
unfoldable pub address_verdict : List ℕ → Answer
address_verdict atom = if is_some (ipv4_value atom) then Yes 0 else no_address

-- an interface has this name, with no regard to case
abbrev pub stands : List ℕ → List Interface → Bool
stands atom interfaces = list_any (λ (it : Interface). equals it.name atom) interfaces

-- the name of an interface that is there, not abbreviated; its value is not asked
abbrev pub name_verdict : List ℕ → List Interface → Answer
name_verdict atom interfaces = if stands atom interfaces then Yes 0 else no_such

-- such a name, or that of one that may be made
abbrev pub new_name_verdict : List ℕ → List Interface → Answer
new_name_verdict atom interfaces =
    if stands atom interfaces then Yes 0
    else (if not (is_typed_name atom) then no_name
    else (if nat_le INTERFACE_LIMIT (length interfaces) then no_room else Yes 0))

-- a name as ESC completes it: nothing where it has a point, since what completes an atom is name bytes
abbrev pub completed : List ℕ → List ℕ
completed name = if list_all is_word name then name else []

abbrev pub completed_names : List Interface → List (List ℕ)
completed_names interfaces = map (λ (it : Interface). completed it.name) interfaces

-- an address is a run of digits and points, a name one of name bytes and points
abbrev pub is_field_byte : ℕ → ℕ → Bool
is_field_byte id byte = if id == IPV4 then is_ascii_digit byte || byte == 46 else is_name byte || byte == 46

pub field_graphic : (id byte : ℕ) → is_field_byte id byte ≡ true → is_graphic byte ≡ true
unfolding is_name is_word
field_graphic id byte = by (id == IPV4)
  where
    by : (address : Bool) → (if address then is_ascii_digit byte || byte == 46 else is_name byte || byte == 46) ≡ true
        → is_graphic byte ≡ true
    by true is = grind (arith, nat_tests)
    by false is = grind (arith, nat_tests)

abbrev pub field_bytes : ℕ → FieldBytes
field_bytes id = record { test = is_field_byte id; graphic = field_graphic id }

unfoldable pub address_help : List ℕ
address_help = codes "address, as 10.0.0.1"

unfoldable pub name_help : List ℕ
name_help = codes "name of an interface"

unfoldable pub new_name_help : List ℕ
new_name_help = codes "name of an interface, old or new"

-- one hook reads an address, and completes none; the others read names, and list and complete those that stand
abbrev pub router_rules : List Interface → Meanings
router_rules interfaces = record {
  bytes = field_bytes;
  names = λ id. if id == IPV4 then [] else names_of interfaces;
  verdict = λ id atom. if id == IPV4 then address_verdict atom
      else (if id == NAME then name_verdict atom interfaces else new_name_verdict atom interfaces);
  completion = λ id atom. if id == IPV4 then tails.None else completion_among (completed_names interfaces) atom;
  help = λ id. if id == IPV4 then address_help else (if id == NAME then name_help else new_name_help);
}
