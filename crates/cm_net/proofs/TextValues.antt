-- What is computed of a text is what it writes.
use Rattle.std.proofs.Common.{◌≡◌, ◌==◌, ◌<◌, ◌&&◌, nat_le, ◌⊎◌, inl, inr, ℕ, Bool, true, false, cond, arith, List, [], ◌∷◌, ◌++◌, length, decimal, Option, Some, None, option_and_then, refl, sym, ap, ◌∙◌, subst, lit≤, lit<, append-nil}
use Rattle.std.proofs.lemmas.Bool.{and_from, and_parts}
use Rattle.std.proofs.lemmas.Bool.Decides.{nat_tests}
use Rattle.std.proofs.lemmas.Fmt.{decimal_is_IsNumeral}
use Rattle.std.proofs.NetLemmas.Ipv4.{read_ipv4_complete, read_ipv4_sound}
use Rattle.std.proofs.NetLemmas.Ipv6.{read_ipv6_complete, read_ipv6_sound}
use Rattle.std.specs.Net.Addr.{ipv4_octets, ipv6_segments}
use Rattle.std.specs.Net.Grammar.{IsColonHex, IsDotted, IsIpv4Text, IsIpv6Text}
use Rattle.std.specs.Net.Reader.{read_ipv4, read_ipv6, whole_value, Read}
use Rattle.std.specs.Str.Parse.{digits_value}
use Rattle.std.specs.declared.net.ipv4_addr.Ipv4Addr.{Ipv4Addr}
use Rattle.std.specs.declared.net.ipv6_addr.Ipv6Addr.{Ipv6Addr}
use Rattle.std.specs.Str.{bytes_eq}
use Rattle.cm_lists.proofs.Texts.{bytes_eq-true, bytes_eq_itself}
use Rattle.cm_net.specs.Parts.{IsLength, IsPrefixText, slash}
use Rattle.cm_net.specs.Values.{ipv4_prefix_value, ipv4_value, ipv6_prefix_value, ipv6_value, is_length, with_length}
use Rattle.cm_net.specs.declared.prefix.TheConstants.{IPV4_LENGTH_LIMIT, IPV6_LENGTH_LIMIT}

-- a text is read to its end, or to the slash of a prefix
abbrev Ends : List ℕ → Type 0
Ends rest = (rest ≡ []) ⊎ ((more : List ℕ) × (rest ≡ slash ∷ more))

-- digits that write a length of a prefix
length_written : (limit n : ℕ) (digits : List ℕ) → limit < 256 → IsLength limit digits n
    → (is_length limit digits ≡ true) × (digits_value 10 digits ≡ n)
length_written limit n digits few is =
    let within = is.within in
    let value : digits_value 10 digits ≡ n = ap (digits_value 10) is.spelled ∙ (decimal_is_IsNumeral n (omega arith)).1 in
    let fits : nat_le (digits_value 10 digits) limit ≡ true = grind (arith, nat_tests) in
    let same : digits ≡ decimal (digits_value 10 digits) = is.spelled ∙ ap decimal (sym value) in
    (and_from _ _ fits (subst (λ (it : List ℕ). bytes_eq digits it ≡ true) same (bytes_eq_itself digits)), value)

-- and digits that are read as one
length_read : (limit : ℕ) (digits : List ℕ) → is_length limit digits ≡ true
    → IsLength limit digits (digits_value 10 digits)
length_read limit digits is =
    let parts = and_parts _ _ is in
    let fits : nat_le (digits_value 10 digits) limit ≡ true = parts.0 in
    record { within = grind (arith, nat_tests); spelled = bytes_eq-true digits _ parts.1 }

-- of each kind of address
module _ {A : Type 0} (Writes : List ℕ → A → Type 0) (view : A → List ℕ) (read : List ℕ → Read (List ℕ))
    (complete : (text rest : List ℕ) (value : A) → Ends rest → Writes text value → read (text ++ rest) ≡ Some (view value, rest))
    (sound : (text parts rest : List ℕ) → read text ≡ Some (parts, rest)
    → (front : List ℕ) × (value : A) × (text ≡ front ++ rest) × (view value ≡ parts) × Writes front value) where
  is_read : (text : List ℕ) (value : A) → Writes text value → Some (view value) ≡ whole_value (read text)
  is_read text value is =
      sym (ap (λ (it : List ℕ). whole_value (read it)) (sym (append-nil text))
      ∙ ap whole_value (complete text [] value (inl refl) is))

  none_read : (text : List ℕ) → ((value : A) → Writes text value → ⊥) → None ≡ whole_value (read text)
  none_read text none = by (read text) refl
    where
      by : (it : Read (List ℕ)) → read text ≡ it → None ≡ whole_value it
      by None is = refl
      by (Some (parts, [])) is =
          let found = sound text parts [] is in
          absurd (none found.1 (subst (λ (it : List ℕ). Writes it found.1) (sym (found.2 ∙ append-nil found.0)) found.4))
      by (Some (parts, byte ∷ rest)) is =
          let some : (length (byte ∷ rest) == 0) ≡ false = grind (arith, nat_tests) in
          ap (λ (empty : Bool). cond empty (Some parts) None) (sym some)

  prefix_is_read : (limit : ℕ) → limit < 256 → (text : List ℕ) (value : A) (n : ℕ) → IsPrefixText Writes limit text value n
      → Some (view value, n) ≡ option_and_then (with_length limit) (read text)
  prefix_is_read limit few text value n is =
      let (valid, number) = length_written limit n is.back few is.after in
      let parted : read text ≡ Some (view value, slash ∷ is.back) =
      ap read is.spelled ∙ complete is.front (slash ∷ is.back) value (inr (is.back, refl)) is.before in
      sym (ap (option_and_then (with_length limit)) parted
      ∙ ap (λ (it : Bool). cond it (Some (view value, digits_value 10 is.back)) None) valid
      ∙ ap (λ (it : ℕ). Some (view value, it)) number)

  none_prefix_read : (limit : ℕ) → (text : List ℕ) → ((value : A) (n : ℕ) → IsPrefixText Writes limit text value n → ⊥)
      → None ≡ option_and_then (with_length limit) (read text)
  none_prefix_read limit text none = by (read text) refl
    where
      by : (it : Read (List ℕ)) → read text ≡ it → None ≡ option_and_then (with_length limit) it
      by None is = refl
      by (Some (parts, [])) is = refl
      by (Some (parts, byte ∷ digits)) is = tested (byte == slash && is_length limit digits) refl
        where
          tested : (valid : Bool) → (byte == slash && is_length limit digits) ≡ valid
              → ◌≡◌ {A = Option (List ℕ × ℕ)} None (cond valid (Some (parts, digits_value 10 digits)) None)
          tested false same = refl
          tested true same =
              let found = sound text parts (byte ∷ digits) is in
              let (divides, valid) = and_parts _ _ same in
              let divider : byte ≡ slash = grind (arith, nat_tests) in
              absurd (none found.1 (digits_value 10 digits) (record {
                front = found.0;
                back = digits;
                spelled = found.2 ∙ ap (λ (it : ℕ). found.0 ++ it ∷ digits) divider;
                before = found.4;
                after = length_read limit digits valid;
              }))

ipv4_complete : (text rest : List ℕ) (address : Ipv4Addr) → Ends rest → IsIpv4Text text address
    → read_ipv4 (text ++ rest) ≡ Some (ipv4_octets address, rest)
ipv4_complete text rest address (inl none) is =
    subst (λ (it : List ℕ). read_ipv4 (text ++ it) ≡ Some (ipv4_octets address, it)) (sym none)
    (read_ipv4_complete text (ipv4_octets address) [] is (lit≤ tt))
ipv4_complete text rest address (inr parted) is =
    subst (λ (it : List ℕ). read_ipv4 (text ++ it) ≡ Some (ipv4_octets address, it)) (sym parted.1)
    (read_ipv4_complete text (ipv4_octets address) (slash ∷ parted.0) is (lit≤ tt))

ipv4_sound : (text parts rest : List ℕ) → read_ipv4 text ≡ Some (parts, rest)
    → (front : List ℕ) × (address : Ipv4Addr) × (text ≡ front ++ rest) × (ipv4_octets address ≡ parts) × IsIpv4Text front address
ipv4_sound text parts rest is =
    let found = read_ipv4_sound text parts rest is in
    (found.0, record { octets = parts }, found.1, refl, found.2)

ipv6_complete : (text rest : List ℕ) (address : Ipv6Addr) → Ends rest → IsIpv6Text text address
    → read_ipv6 (text ++ rest) ≡ Some (ipv6_segments address, rest)
ipv6_complete text rest address (inl none) is =
    subst (λ (it : List ℕ). read_ipv6 (text ++ it) ≡ Some (ipv6_segments address, it)) (sym none)
    (read_ipv6_complete text (ipv6_segments address) [] is ((lit≤ tt, λ same. absurd (omega arith)), λ same. absurd (omega arith)))
ipv6_complete text rest address (inr parted) is =
    subst (λ (it : List ℕ). read_ipv6 (text ++ it) ≡ Some (ipv6_segments address, it)) (sym parted.1)
    (read_ipv6_complete text (ipv6_segments address) (slash ∷ parted.0) is
    ((lit≤ tt, λ same. absurd (omega arith)), λ same. absurd (omega arith)))

ipv6_sound : (text parts rest : List ℕ) → read_ipv6 text ≡ Some (parts, rest)
    → (front : List ℕ) × (address : Ipv6Addr) × (text ≡ front ++ rest) × (ipv6_segments address ≡ parts) × IsIpv6Text front address
ipv6_sound text parts rest is =
    let found = read_ipv6_sound text parts rest is in
    (found.0, record { segments = parts }, found.1, refl, found.2)

-- a text that writes an address is read so, and of one that writes none nothing is read
pub ipv4_is_value : (text : List ℕ) (address : Ipv4Addr) → IsIpv4Text text address → Some (ipv4_octets address) ≡ ipv4_value text
unfolding ipv4_value
ipv4_is_value = is_read IsIpv4Text ipv4_octets read_ipv4 ipv4_complete ipv4_sound

pub ipv4_has_no_value : (text : List ℕ) → ((address : Ipv4Addr) → IsIpv4Text text address → ⊥) → None ≡ ipv4_value text
unfolding ipv4_value
ipv4_has_no_value = none_read IsIpv4Text ipv4_octets read_ipv4 ipv4_complete ipv4_sound

pub ipv6_is_value : (text : List ℕ) (address : Ipv6Addr) → IsIpv6Text text address → Some (ipv6_segments address) ≡ ipv6_value text
unfolding ipv6_value
ipv6_is_value = is_read IsIpv6Text ipv6_segments read_ipv6 ipv6_complete ipv6_sound

pub ipv6_has_no_value : (text : List ℕ) → ((address : Ipv6Addr) → IsIpv6Text text address → ⊥) → None ≡ ipv6_value text
unfolding ipv6_value
ipv6_has_no_value = none_read IsIpv6Text ipv6_segments read_ipv6 ipv6_complete ipv6_sound

-- the same of prefixes
pub ipv4_prefix_is_value : (text : List ℕ) (address : Ipv4Addr) (n : ℕ) → IsPrefixText IsIpv4Text IPV4_LENGTH_LIMIT text address n
    → Some (ipv4_octets address, n) ≡ ipv4_prefix_value text
unfolding ipv4_prefix_value
ipv4_prefix_is_value = prefix_is_read IsIpv4Text ipv4_octets read_ipv4 ipv4_complete ipv4_sound IPV4_LENGTH_LIMIT (lit< tt)

pub ipv4_prefix_has_no_value : (text : List ℕ)
    → ((address : Ipv4Addr) (n : ℕ) → IsPrefixText IsIpv4Text IPV4_LENGTH_LIMIT text address n → ⊥) → None ≡ ipv4_prefix_value text
unfolding ipv4_prefix_value
ipv4_prefix_has_no_value = none_prefix_read IsIpv4Text ipv4_octets read_ipv4 ipv4_complete ipv4_sound IPV4_LENGTH_LIMIT

pub ipv6_prefix_is_value : (text : List ℕ) (address : Ipv6Addr) (n : ℕ) → IsPrefixText IsIpv6Text IPV6_LENGTH_LIMIT text address n
    → Some (ipv6_segments address, n) ≡ ipv6_prefix_value text
unfolding ipv6_prefix_value
ipv6_prefix_is_value = prefix_is_read IsIpv6Text ipv6_segments read_ipv6 ipv6_complete ipv6_sound IPV6_LENGTH_LIMIT (lit< tt)

pub ipv6_prefix_has_no_value : (text : List ℕ)
    → ((address : Ipv6Addr) (n : ℕ) → IsPrefixText IsIpv6Text IPV6_LENGTH_LIMIT text address n → ⊥) → None ≡ ipv6_prefix_value text
unfolding ipv6_prefix_value
ipv6_prefix_has_no_value = none_prefix_read IsIpv6Text ipv6_segments read_ipv6 ipv6_complete ipv6_sound IPV6_LENGTH_LIMIT
