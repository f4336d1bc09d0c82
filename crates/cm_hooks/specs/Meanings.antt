-- What hooks mean: for each id the bytes of its fields, the names that are listed and a help text, for each id and atom
-- a verdict and a completion.
use Rattle.std.specs.Prelude.{ℕ, Bool, ◌≡◌, ◌≤◌, ◌++◌, nat_lt, if◌then◌else◌, true, List, [], length}
use Rattle.std.specs.List.{list_all}
use Rattle.cm_text.specs.declared.text.TheConstants.{LINE_LIMIT}
use Rattle.cm_hooks.specs.declared.answer.Answer.{Answer}
use Rattle.cm_hooks.specs.declared.answer.Answer.TheVariants.{Yes, No, NoBecause}
use Rattle.cm_hooks.specs.declared.answer.Tail.{Tail}
use Rattle.cm_hooks.specs.declared.answer.Tail.TheVariants as tails
use Rattle.cm_hooks.specs.FieldBytes.{FieldBytes, name_bytes}

-- the meanings, by id and atom; the names are those that a field may be, where they are listed
pub record Meanings : Type 0 where
  pub bytes : ℕ → FieldBytes
  pub names : ℕ → List (List ℕ)
  pub verdict : ℕ → List ℕ → Answer
  pub completion : ℕ → List ℕ → Tail
  pub help : ℕ → List ℕ

-- the answer is a Yes
abbrev pub IsYes : Answer → Type 0
IsYes (Yes value) = Unit {0}
IsYes No = ⊥
IsYes (NoBecause reason) = ⊥

-- an atom with its whole completion has at most 255 bytes, and the verdict takes it
pub record IsTaken (verdict : List ℕ → Answer) (whole : List ℕ) : Type 0 where
  pub short : length whole ≤ LINE_LIMIT
  pub taken : IsYes (verdict whole)

-- what completes an atom is bytes of the field, and where it completes it whole, the verdict takes the two together
abbrev pub Completes : (ℕ → Bool) → (List ℕ → Answer) → List ℕ → Tail → Type 0
Completes test verdict atom tails.None = Unit {0}
Completes test verdict atom (tails.Part text) = list_all test text ≡ true
Completes test verdict atom (tails.Whole text) = (list_all test text ≡ true) × IsTaken verdict (atom ++ text)

-- so it is for each id and each atom of at most 255 bytes
pub record IsLawful (meanings : Meanings) : Type 0 where
  pub completes : (id : ℕ) (atom : List ℕ) → length atom ≤ LINE_LIMIT
      → Completes (meanings.bytes id).test (meanings.verdict id) atom (meanings.completion id atom)

-- no field of one's own is taken, nor completed, no names are listed, and the help is empty
abbrev pub no_meanings : Meanings
no_meanings = record {
  bytes = λ id. name_bytes;
  names = λ id. [];
  verdict = λ id atom. No;
  completion = λ id atom. tails.None;
  help = λ id. [];
}

-- these meanings, each field of which is name bytes
abbrev pub on_names : Meanings → Meanings
on_names meanings = record meanings { bytes = λ id. name_bytes }

-- so it is of hooks that are held, the first so many of those that are meant; their fields are name bytes,
-- of which no names are listed
abbrev pub held_meanings : ℕ → Meanings → Meanings
held_meanings count meant = record {
  bytes = λ id. name_bytes;
  names = λ id. [];
  verdict = λ id atom. if nat_lt id count then meant.verdict id atom else No;
  completion = λ id atom. if nat_lt id count then meant.completion id atom else tails.None;
  help = λ id. if nat_lt id count then meant.help id else [];
}
