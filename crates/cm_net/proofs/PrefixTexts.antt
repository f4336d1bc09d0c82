-- The parts of the text of a prefix, over the text of any address.
use Rattle.std.proofs.Common.{◌≡◌, ℕ, ◌<◌, ◌≤◌, List, ◌∷◌, ◌++◌, decimal, ap, refl, sym, ◌∙◌, subst, arith}
use Rattle.std.proofs.lemmas.Fmt.{decimal_is_IsNumeral}
use Rattle.std.specs.Str.Parse.{digits_value}
use Rattle.std.specs.List.{list_all}
use Rattle.cm_net.specs.Parts.{is_no_slash, IsLength, HasLastSlash, IsPrefixText, slash}
use Rattle.cm_net.proofs.PartedTexts.{decimal_no_slash, one_parting}

-- a length is known from its digits
same_length : (n m : ℕ) → n < 256 → m < 256 → decimal n ≡ decimal m → n ≡ m
same_length n m few less same =
    sym (decimal_is_IsNumeral n (omega arith)).1 ∙ ap (digits_value 10) same ∙ (decimal_is_IsNumeral m (omega arith)).1

module _ {A : Type 0} (Writes : List ℕ → A → Type 0) (limit : ℕ) (few : limit < 256) (text : List ℕ) where
  parted : (address : A) (length : ℕ) (is : IsPrefixText Writes limit text address length) → HasLastSlash text is.front is.back
  parted address length is =
      let within = is.after.within in
      record {
        spelled = is.spelled;
        last = ap (list_all is_no_slash) is.after.spelled ∙ decimal_no_slash length (omega arith);
      }

  -- the text is parted as one that writes a prefix is
  same_parts : (front back : List ℕ) → HasLastSlash text front back → (address : A) (length : ℕ)
      (is : IsPrefixText Writes limit text address length) → (is.front ≡ front) × (is.back ≡ back)
  same_parts front back at address length is =
      one_parting is.front is.back front back (sym is.spelled ∙ at.spelled) (parted address length is).last at.last

  -- no slash, so no prefix
  pub no_parts : ((front back : List ℕ) → HasLastSlash text front back → ⊥) → (address : A) (length : ℕ)
      → IsPrefixText Writes limit text address length → ⊥
  no_parts none address length is = none is.front is.back (parted address length is)

  -- what is before the slash is no address
  pub no_address : (front back : List ℕ) → HasLastSlash text front back → ((value : A) → Writes front value → ⊥)
      → (address : A) (length : ℕ) → IsPrefixText Writes limit text address length → ⊥
  no_address front back at none address length is =
      none address (subst (λ (it : List ℕ). Writes it address) (same_parts front back at address length is).0 is.before)

  -- what is after it is no length
  pub no_length : (front back : List ℕ) → HasLastSlash text front back → ((n : ℕ) → IsLength limit back n → ⊥)
      → (address : A) (length : ℕ) → IsPrefixText Writes limit text address length → ⊥
  no_length front back at none address length is =
      none length (subst (λ (it : List ℕ). IsLength limit it length) (same_parts front back at address length is).1 is.after)

  -- both are there
  pub prefix_of : (front back : List ℕ) (address : A) (length : ℕ) → HasLastSlash text front back → Writes front address
      → IsLength limit back length → IsPrefixText Writes limit text address length
  prefix_of front back address length at before after =
      record { front = front; back = back; spelled = at.spelled; before = before; after = after }

  -- a text has one address and one length
  pub one_prefix : ((text : List ℕ) (a b : A) → Writes text a → Writes text b → a ≡ b) → (address other : A) (n m : ℕ)
      → IsPrefixText Writes limit text address n → IsPrefixText Writes limit text other m → (address ≡ other) × (n ≡ m)
  one_prefix one address other n m is also =
      let within = is.after.within in
      let least = also.after.within in
      let same = same_parts also.front also.back (parted other m also) address n is in (
        one also.front address other (subst (λ (it : List ℕ). Writes it address) same.0 is.before) also.before,
        same_length n m (omega arith) (omega arith) (sym is.after.spelled ∙ same.1 ∙ also.after.spelled),
      )

-- what is written of an address, a slash and the digits of a length are a prefix
pub prefix_read : {A : Type 0} (Writes : List ℕ → A → Type 0) (limit : ℕ) (front : List ℕ) (address : A) (n : ℕ)
    → Writes front address → n ≤ limit → IsPrefixText Writes limit (front ++ slash ∷ decimal n) address n
prefix_read Writes limit front address n before within =
    record { front = front; back = decimal n; spelled = refl; before = before; after = record { within = within; spelled = refl } }
