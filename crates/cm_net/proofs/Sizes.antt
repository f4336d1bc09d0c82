-- How many bytes numbers and segments are written with.
use Rattle.std.proofs.Common.{◌≡◌, ℕ, ◌/◌, ◌%◌, ◌^◌, ◌<◌, ◌≤◌, [], ◌∷◌, ◌++◌, length, length-drop, decimal, refl, arith, inl, inr, le-leb}
use Rattle.std.specs.Char.{digit_char}
use Rattle.std.specs.Net.Text.{hex}
use Rattle.std.proofs.lemmas.Bool.{cases_lt, lt-leb}
use Rattle.std.proofs.lemmas.Fmt.{length-decimal-le}

pub octet_fits : (n : ℕ) → n < 256 → length (decimal n) ≤ 3
octet_fits n few = length-decimal-le 3 n (omega arith) (omega arith) (omega arith)

-- a segment of one digit
pub hex_digit : (n : ℕ) → n < 16 → hex n ≡ digit_char n ∷ []
unfolding hex
hex_digit n few =
    let three = lt-leb 0x1000 n (omega arith) in
    let two = lt-leb 0x100 n (omega arith) in
    let one = lt-leb 0x10 n (omega arith) in
    let last : n % 16 ≡ n = omega arith in
    rw (three, two, one, last) refl

-- one of more digits: the last is after the others
pub hex_step : (n : ℕ) → 16 ≤ n → n < 2 ^ 16 → hex n ≡ hex (n / 16) ++ digit_char (n % 16) ∷ []
unfolding hex
hex_step n many fits =
    let b : n / 16 / 0x100 % 16 ≡ n / 0x1000 = omega arith in
    let c : n / 16 / 0x10 % 16 ≡ n / 0x100 % 16 = omega arith in
    let past = lt-leb 0x1000 (n / 16) (omega arith) in
    elim (cases_lt n 0x1000) [
      | inr four ↦
          let same = le-leb 0x1000 n four in
          let less = le-leb 0x100 (n / 16) (omega arith) in
          rw (same, past, less) (cc (b, c))
      | inl three ↦
          let below = lt-leb 0x1000 n three in
          let under = lt-leb 0x100 (n / 16) (omega arith) in
          elim (cases_lt n 0x100) [
            | inr more ↦
                let same = le-leb 0x100 n more in
                let less = le-leb 0x10 (n / 16) (omega arith) in
                rw (below, same, past, under, less) (cc c)
            | inl two ↦
                let second = lt-leb 0x100 n two in
                let same = le-leb 0x10 n many in
                let less = lt-leb 0x10 (n / 16) (omega arith) in
                rw (below, second, same, past, under, less) (cc)
          ]
    ]

pub hex_fits : (n : ℕ) → length (hex n) ≤ 4
unfolding hex
hex_fits n = omega (arith, length-drop {A = ℕ})
