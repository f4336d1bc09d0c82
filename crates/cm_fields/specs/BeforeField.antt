-- What is before a field, blanks and whole comments, as a grammar: no walk over the bytes.
use Rattle.std.specs.Prelude.{ℕ, ◌≡◌, ◌≢◌, ◌+◌, Bool, true, false, ◌⊎◌, List, [], ◌∷◌, ◌++◌, length}
use Rattle.std.specs.List.{AllByRecursion}
use Rattle.cm_text.specs.Bytes.{is_blank}

-- nothing that ends a comment begun by `!`
abbrev pub HasNoMark : List ℕ → Type 0
HasNoMark inside = AllByRecursion (λ byte. (byte ≢ 33) × (byte ≢ 13)) inside

-- nothing that ends one begun by `;`
abbrev pub HasNoEnd : List ℕ → Type 0
HasNoEnd inside = AllByRecursion (λ byte. byte ≢ 13) inside

-- the line ends here
abbrev pub EndsLine : List ℕ → Type 0
EndsLine [] = ⊥
EndsLine (byte ∷ rest) = byte ≡ 13

-- blanks and whole comments, with this after them; a raw text has no comments
pub data ArePassed (raw : Bool) (after : List ℕ) : List ℕ → Type 0 where
  nothing : ArePassed raw after []
  blank : (byte : ℕ) (bytes : List ℕ) → is_blank byte ≡ true → ArePassed raw after bytes
      → ArePassed raw after (byte ∷ bytes)
  marked : (inside bytes : List ℕ) → raw ≡ false → HasNoMark inside → ArePassed raw after bytes
      → ArePassed raw after (33 ∷ inside ++ 33 ∷ bytes)
  unclosed : (inside : List ℕ) → raw ≡ false → HasNoMark inside → EndsLine after
      → ArePassed raw after (33 ∷ inside)
  to_end : (inside : List ℕ) → raw ≡ false → HasNoEnd inside → EndsLine after
      → ArePassed raw after (59 ∷ inside)

-- neither a blank nor the begin of a comment is here
abbrev pub BeginsOther : Bool → List ℕ → Type 0
BeginsOther raw [] = Unit {0}
BeginsOther raw (byte ∷ rest) = (is_blank byte ≡ false) × (raw ≡ false → (byte ≢ 33) × (byte ≢ 59))

-- a comment that nothing ends
abbrev pub IsUnended : List ℕ → Type 0
IsUnended [] = ⊥
IsUnended (byte ∷ inside) = ((byte ≡ 33) × HasNoMark inside) ⊎ ((byte ≡ 59) × HasNoEnd inside)

-- of a text from one place on: up to another are blanks and whole comments, and neither is after them
pub record IsPast (raw : Bool) (rest : List ℕ) (at place : ℕ) : Type 0 where
  pub bytes : List ℕ
  pub after : List ℕ
  pub whole : rest ≡ bytes ++ after
  pub ends : place ≡ at + length bytes
  pub passed : ArePassed raw after bytes
  pub other : BeginsOther raw after

-- after blanks and whole comments stands a comment that nothing ends
pub record IsOpen (raw : Bool) (rest : List ℕ) : Type 0 where
  pub bytes : List ℕ
  pub after : List ℕ
  pub whole : rest ≡ bytes ++ after
  pub has_comments : raw ≡ false
  pub passed : ArePassed raw after bytes
  pub unended : IsUnended after
