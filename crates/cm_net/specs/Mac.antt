-- A MAC address (an EUI-48 of IEEE 802): six pairs of hexadecimal digits, with hyphens or with colons between them.
use Rattle.std.specs.Prelude.{ℕ, ◌≡◌, ◌⊎◌, List, [], ◌∷◌, ◌++◌, length}
use Rattle.std.specs.Str.Parse.{AllDigits, digits_value}
use Rattle.cm_net.specs.declared.mac.Mac.{Mac}

-- one of the bytes that may stand between the pairs
abbrev pub hyphen : ℕ
hyphen = 45

-- the other
abbrev pub colon : ℕ
colon = 58

-- two hexadecimal digits, with letters of either case
pub record IsPair (text : List ℕ) : Type 0 where
  pub two : length text ≡ 2
  pub digits : AllDigits 16 text

-- six pairs with one byte between each two, hyphens all or colons all; the octets are their values
pub record IsPairs (text octets : List ℕ) : Type 0 where
  pub divider : ℕ
  pub a : List ℕ
  pub b : List ℕ
  pub c : List ℕ
  pub d : List ℕ
  pub e : List ℕ
  pub f : List ℕ
  pub divides : (divider ≡ hyphen) ⊎ (divider ≡ colon)
  pub pairs : IsPair a × IsPair b × IsPair c × IsPair d × IsPair e × IsPair f
  pub spelled : text ≡ a ++ divider ∷ b ++ divider ∷ c ++ divider ∷ d ++ divider ∷ e ++ divider ∷ f
  pub value : octets
      ≡ digits_value 16 a ∷ digits_value 16 b ∷ digits_value 16 c ∷ digits_value 16 d
      ∷ digits_value 16 e ∷ digits_value 16 f ∷ []

-- the text writes this MAC address
abbrev pub IsMacText : List ℕ → Mac → Type 0
IsMacText text mac = IsPairs text mac.octets
