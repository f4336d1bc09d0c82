-- Which bytes are in a set, by its bits.
use Rattle.std.proofs.Common.{◌≡◌, ◌≢◌, ℕ, zero, suc, ◌+◌, ◌-◌, ◌*◌, ◌/◌, ◌%◌, ◌^◌, ◌<◌, ◌≤◌, Bool, true, false, ◌==◌, ◌&&◌, ◌||◌, nat_le, nat_lt, max, List, [], ◌∷◌, refl, sym, ap, ◌∙◌, arith, if◌then◌else◌}
use Rattle.std.specs.Int.{bit_at}
use Rattle.std.specs.Int.RustNames.{bit_and, bit_or}
use Rattle.std.specs.List.{fold, list_any}
use Rattle.std.proofs.lemmas.Bool.Decides.{nat_tests}
use Rattle.std.proofs.Math.Pow.{pow_mono}
use Rattle.std.proofs.lemmas.Nat.{one_shl, or_lt}
use Rattle.std.proofs.lemmas.Nat.Bits.{bit_at-lt, ones_shr, bit_at-pow_other, bit_at-pow_same, bit_at-zero, bit_at_above, bit_at_mask_above, bit_at_mask_below, bit_at_mask_inside, bit_at_or, same_from_bits, shr_and_one}
use Rattle.cm_lists.proofs.Bools.{by_test, or-false}
use Rattle.cm_text.specs.ByteSets.{has_byte, set_of, with_byte, with_range}

-- the test of a bit
pub byte_is : (set byte : ℕ) → (bit_and (set / 2 ^ byte) 1 == 1) ≡ has_byte set byte
unfolding has_byte
byte_is set byte = rw (shr_and_one set byte) refl

-- no set has a byte of eight bits
pub byte_above : (set byte : ℕ) → set < 2 ^ 128 → (byte < 128 → ⊥) → nat_lt byte 128 ≡ has_byte set byte
unfolding has_byte
byte_above set byte below above =
    let none = bit_at_above set 128 byte below (omega arith) in
    let other : nat_lt byte 128 ≡ false = grind (arith, nat_tests) in
    rw (none, other) refl

-- a bit of two numbers
either_bit : (a b : ℕ) → a < 2 → b < 2 → (max a b == 1) ≡ ((a == 1) || (b == 1))
either_bit zero zero first second = refl
either_bit zero (suc zero) first second = refl
either_bit zero (suc (suc b)) first second = absurd (omega arith)
either_bit (suc zero) zero first second = refl
either_bit (suc zero) (suc zero) first second = refl
either_bit (suc zero) (suc (suc b)) first second = absurd (omega arith)
either_bit (suc (suc a)) b first second = absurd (omega arith)

-- a byte is in both
or_has : (set other byte : ℕ) → has_byte (bit_or set other) byte ≡ (has_byte set byte || has_byte other byte)
unfolding has_byte
or_has set other byte =
    ap (λ bit. bit == 1) (bit_at_or set other byte)
    ∙ either_bit (bit_at set byte) (bit_at other byte) (bit_at-lt set byte) (bit_at-lt other byte)

one_has : (one byte : ℕ) → has_byte (2 ^ one) byte ≡ (byte == one)
unfolding has_byte
one_has one byte =
    by_test _ (byte == one)
    (λ same. let is : byte ≡ one = grind (arith, nat_tests) in
    let bit = bit_at-pow_same one in rw (is, bit) (grind (arith, nat_tests)))
    (λ other. let differs : byte ≢ one = grind (arith, nat_tests) in
    rw (bit_at-pow_other one byte differs, other) refl)

range_has : (first last byte : ℕ) → has_byte (2 ^ (last + 1) - 2 ^ first) byte ≡ (nat_le first byte && nat_le byte last)
unfolding has_byte
range_has first last byte =
    by_test _ (nat_le first byte)
    (λ from. by_test _ (nat_le byte last)
    (λ to. rw (bit_at_mask_inside first (last + 1) byte (grind (arith, nat_tests)) (grind (arith, nat_tests)), from, to) refl)
    (λ to. rw (bit_at_mask_above first (last + 1) byte (grind (arith, nat_tests)), from, to) refl))
    (λ from. rw (bit_at_mask_below first (last + 1) byte (grind (arith, nat_tests)), from) refl)

-- a set with a range more
pub range_in : (set first last : ℕ) → (byte : ℕ)
    → has_byte (with_range set first last) byte ≡ (has_byte set byte || (nat_le first byte && nat_le byte last))
unfolding with_range
range_in set first last byte = by (nat_lt last first) refl
  where
    by : (test : Bool) → nat_lt last first ≡ test
        → has_byte (if test then set else bit_or set (2 ^ (last + 1) - 2 ^ first)) byte
        ≡ (has_byte set byte || (nat_le first byte && nat_le byte last))
    by true is =
        let none : (nat_le first byte && nat_le byte last) ≡ false = grind (arith, nat_tests) in
        rw none (sym (or-false (has_byte set byte)))
    by false is = rw (or_has set (2 ^ (last + 1) - 2 ^ first) byte, range_has first last byte) refl

-- a set of some bytes, after those of another
fold_has : (bytes : List ℕ) (set byte : ℕ)
    → has_byte (fold with_byte set bytes) byte ≡ (has_byte set byte || list_any (λ it. byte == it) bytes)
fold_has [] set byte = sym (or-false (has_byte set byte))
fold_has (one ∷ bytes) set byte =
    fold_has bytes (with_byte set one) byte
    ∙ ap (λ (is : Bool). is || list_any (λ it. byte == it) bytes) (or_has set (2 ^ one) byte)
    ∙ by (has_byte set byte) (has_byte (2 ^ one) byte) (byte == one) (one_has one byte)
  where
    by : (a b c : Bool) → b ≡ c → ((a || b) || list_any (λ it. byte == it) bytes) ≡ (a || (c || list_any (λ it. byte == it) bytes))
    by true b c same = refl
    by false b c same = rw same refl

none_has : (byte : ℕ) → has_byte 0 byte ≡ false
unfolding has_byte
none_has byte = rw (bit_at-zero byte) refl

pub set_has : (bytes : List ℕ) → (byte : ℕ) → has_byte (set_of bytes) byte ≡ list_any (λ it. byte == it) bytes
unfolding set_of
set_has bytes byte = fold_has bytes 0 byte ∙ rw (none_has byte) refl

-- sets that have the same bytes are the same
pub same_bytes : (set other : ℕ) → ((byte : ℕ) → has_byte set byte ≡ has_byte other byte) → set ≡ other
unfolding has_byte
same_bytes set other same = same_from_bits set other (λ byte. by _ _ (bit_at-lt set byte) (bit_at-lt other byte) (same byte))
  where
    by : (a b : ℕ) → a < 2 → b < 2 → (a == 1) ≡ (b == 1) → a ≡ b
    by zero zero first second is = refl
    by zero (suc zero) first second is = cc
    by zero (suc (suc b)) first second is = absurd (omega arith)
    by (suc zero) zero first second is = cc
    by (suc zero) (suc zero) first second is = refl
    by (suc zero) (suc (suc b)) first second is = absurd (omega arith)
    by (suc (suc a)) b first second is = absurd (omega arith)

pub empty_is_none : (set : ℕ) → ((byte : ℕ) → has_byte set byte ≡ false) → set ≡ 0
empty_is_none set none = same_bytes set 0 (λ byte. none byte ∙ sym (none_has byte))

pub none_is_empty : (set : ℕ) → set ≡ 0 → (byte : ℕ) → has_byte set byte ≡ false
none_is_empty set is byte = rw is (none_has byte)

-- one byte, and a range of bytes, as shifts make them
pub byte_below : (set byte : ℕ) → set < 2 ^ 128 → byte < 128 → bit_or set (1 * 2 ^ byte % 2 ^ 128) < 2 ^ 128
byte_below set byte below low =
    let shifted = one_shl byte 128 low in
    let most : 2 ^ byte ≤ 2 ^ 127 = pow_mono {i = byte} {j = 127} (omega arith) in
    or_lt 128 set (1 * 2 ^ byte % 2 ^ 128) below (omega arith)

shifted : (first last : ℕ) → first ≤ last → last < 128
    → ((2 ^ 128 - 1) / 2 ^ (127 - last) - (1 * 2 ^ first % 2 ^ 128 - 1) ≡ 2 ^ (last + 1) - 2 ^ first)
    × (1 * 2 ^ first % 2 ^ 128 - 1 ≤ (2 ^ 128 - 1) / 2 ^ (127 - last))
shifted first last ordered low =
    let ones = ones_shr 128 (127 - last) (omega arith) in
    let place : 128 - (127 - last) ≡ last + 1 = omega arith in
    let most : (2 ^ 128 - 1) / 2 ^ (127 - last) ≡ 2 ^ (last + 1) - 1 = ones ∙ ap (λ n. 2 ^ n - 1) place in
    let least = one_shl first 128 (omega arith) in
    let above : 2 ^ first ≤ 2 ^ (last + 1) = pow_mono {i = first} {j = last + 1} (omega arith) in
    let some : 2 ^ 0 ≤ 2 ^ first = pow_mono {i = 0} {j = first} (omega arith) in
    (omega (arith, most, least, above, some), omega (arith, most, least, above, some))

pub range_within : (first last : ℕ) → first ≤ last → last < 128
    → 1 * 2 ^ first % 2 ^ 128 - 1 ≤ (2 ^ 128 - 1) / 2 ^ (127 - last)
range_within first last ordered low = (shifted first last ordered low).1

pub range_is : (set first last : ℕ) → first ≤ last → last < 128
    → bit_or set ((2 ^ 128 - 1) / 2 ^ (127 - last) - (1 * 2 ^ first % 2 ^ 128 - 1)) ≡ with_range set first last
unfolding with_range
range_is set first last ordered low =
    let other : nat_lt last first ≡ false = grind (arith, nat_tests) in
    rw other (ap (bit_or set) (shifted first last ordered low).0)

pub range_below : (set first last : ℕ) → set < 2 ^ 128 → first ≤ last → last < 128
    → bit_or set ((2 ^ 128 - 1) / 2 ^ (127 - last) - (1 * 2 ^ first % 2 ^ 128 - 1)) < 2 ^ 128
range_below set first last below ordered low =
    let is = (shifted first last ordered low).0 in
    let most : 2 ^ (last + 1) ≤ 2 ^ 128 = pow_mono {i = last + 1} {j = 128} (omega arith) in
    let some : 2 ^ 0 ≤ 2 ^ first = pow_mono {i = 0} {j = first} (omega arith) in
    or_lt 128 set _ below (omega (arith, is, most, some))

pub no_range : (set first last : ℕ) → last < first → set ≡ with_range set first last
unfolding with_range
no_range set first last beyond =
    let test : nat_lt last first ≡ true = grind (arith, nat_tests) in rw test refl
