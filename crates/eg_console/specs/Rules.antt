-- What the console says of the names of its interfaces and of their addresses.
use Rattle.std.specs.Prelude.{◌≡◌, ℕ, ◌==◌, ◌||◌, Bool, true, nat_lt, if◌then◌else◌, List, [], ◌∷◌, codes, length, drop, is_some}
use Rattle.std.proofs.Common.{arith}
use Rattle.std.proofs.lemmas.Bool.Decides.{nat_tests}
use Rattle.cm_text.specs.Bytes.{is_name, is_word}
use Rattle.cm_hooks.specs.Among.{verdict_among}
use Rattle.cm_hooks.specs.FieldBytes.{FieldBytes, is_graphic}
use Rattle.cm_hooks.specs.Meanings.{Meanings}
use Rattle.cm_hooks.specs.declared.answer.Answer.{Answer}
use Rattle.cm_hooks.specs.declared.answer.Answer.TheVariants.{Yes, NoBecause}
use Rattle.cm_hooks.specs.declared.answer.Tail.{Tail}
use Rattle.cm_hooks.specs.declared.answer.Tail.TheVariants as tails
use Rattle.cm_net.specs.Values.{ipv4_prefix_value}

-- a name byte, a point or a slash
abbrev pub is_console_byte : ℕ → Bool
is_console_byte byte = is_name byte || byte == 46 || byte == 47

pub console_graphic : (byte : ℕ) → is_console_byte byte ≡ true → is_graphic byte ≡ true
unfolding is_name is_word
console_graphic byte is = grind (arith, nat_tests)

abbrev pub console_bytes : FieldBytes
console_bytes = record { test = is_console_byte; graphic = console_graphic }

-- the interfaces, in the order of their numbers
abbrev pub names : List (List ℕ)
names = codes "eth0" ∷ codes "eth0.100" ∷ codes "eth1" ∷ codes "wlan0" ∷ []

abbrev pub name_at : ℕ → List ℕ
name_at number =
    if number == 0 then codes "eth0" else (if number == 1 then codes "eth0.100"
    else (if number == 2 then codes "eth1" else codes "wlan0"))

-- how an atom of this size goes on to the name that it stands for
abbrev pub rest_by : Answer → ℕ → Tail
rest_by (Yes number) size =
    if nat_lt (length (name_at number)) size then tails.None else tails.Whole (drop size (name_at number))
rest_by answer size = tails.None

unfoldable pub no_address : Answer
no_address = NoBecause (record { number = 128; text = codes "Not an address, a slash and a length" })

-- hook 0 reads the name of an interface, which may be abbreviated, is completed and is listed; hook 1 reads an address
abbrev pub console_meanings : Meanings
console_meanings = record {
  bytes = λ id. console_bytes;
  names = λ id. if id == 0 then names else [];
  verdict = λ id atom. if id == 0 then verdict_among names atom
      else (if is_some (ipv4_prefix_value atom) then Yes 0 else no_address);
  completion = λ id atom. if id == 0 then rest_by (verdict_among names atom) (length atom) else tails.None;
  help = λ id. if id == 0 then codes "interface" else codes "address and length, as 10.0.0.1/8";
}
