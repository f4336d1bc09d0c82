-- The walk of names that an atom may stand for.
use Rattle.std.proofs.Common.{◌≡◌, ℕ, Bool, true, false, ◌&&◌, nat_le, List, [], ◌∷◌, Option, Some, None, refl, length}
use Rattle.std.specs.List.{enumerate_from, filter, fold, list_all}
use Rattle.std.specs.Str.{IsAscii}
use Rattle.cm_text.specs.Bytes.{is_name}
use Rattle.cm_text.specs.declared.name.TheConstants.{NAME_LIMIT}
use Rattle.cm_text.proofs.Ascii.{name_bytes_are_ascii}
use Rattle.cm_hooks.specs.Among.{goes_on, is_name_text, is_under, joined, only, shared}
use Rattle.cm_hooks.specs.declared.answer.Answer.{Answer}
use Rattle.cm_hooks.specs.declared.answer.Answer.TheVariants.{Yes, No}
use Rattle.cm_hooks.specs.declared.answer.Tail.{Tail}
use Rattle.cm_hooks.specs.declared.answer.Tail.TheVariants as tails

-- the names that an atom may stand for, the first of which has this number
abbrev pub under_from : Bool → ℕ → List (List ℕ) → List ℕ → List (ℕ × List ℕ)
under_from whole number names atom =
    filter (λ (name : ℕ × List ℕ). is_under whole atom name.1) (enumerate_from number names)

-- what a walk gives that has found the one so far, and comes to these
abbrev pub only_with : Option ℕ → List (ℕ × List ℕ) → Answer
only_with None rest = only rest
only_with (Some number) [] = Yes number
only_with (Some number) (name ∷ more) = No

-- rests joined one by one
abbrev pub joined_all : Tail → List (List ℕ) → Tail
joined_all tail rests = fold joined tail rests

part_joined : (text : List ℕ) (more : List (List ℕ)) → joined_all (tails.Part text) more ≡ tails.Part (fold shared text more)
part_joined text [] = refl
part_joined text (other ∷ more) = part_joined (shared text other) more

pub all_joined : (rests : List (List ℕ)) → joined_all tails.None rests ≡ goes_on rests
all_joined [] = refl
all_joined (rest ∷ []) = refl
all_joined (rest ∷ other ∷ more) = part_joined (shared rest other) more

pub name_is_ascii : (text : List ℕ) → is_name_text text ≡ true → IsAscii text
name_is_ascii text is = by (list_all is_name text) refl is
  where
    by : (b : Bool) → list_all is_name text ≡ b → (b && nat_le (length text) NAME_LIMIT) ≡ true → IsAscii text
    by true all short = name_bytes_are_ascii text all
    by false all short = cc
