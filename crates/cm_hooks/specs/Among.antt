-- Which of several names an atom stands for, and how it goes on. Letters have no case.
use Rattle.std.specs.Prelude.{ℕ, Bool, ◌==◌, ◌&&◌, nat_le, if◌then◌else◌, List, [], ◌∷◌, length, take, drop, filter, map}
use Rattle.std.specs.List.{common_prefix_len, enumerate_from, fold, list_all, list_any}
use Rattle.cm_text.specs.Bytes.{is_name}
use Rattle.cm_text.specs.Case.{begins_with, equals}
use Rattle.cm_text.specs.declared.name.TheConstants.{NAME_LIMIT}
use Rattle.cm_hooks.specs.declared.answer.Answer.{Answer}
use Rattle.cm_hooks.specs.declared.answer.Answer.TheVariants.{Yes, No}
use Rattle.cm_hooks.specs.declared.answer.Tail.{Tail}
use Rattle.cm_hooks.specs.declared.answer.Tail.TheVariants as tails
use Rattle.cm_hooks.specs.FieldBytes.{name_bytes}
use Rattle.cm_hooks.specs.Meanings.{Meanings}

-- name bytes alone, and at most as many as a name has
abbrev pub is_name_text : List ℕ → Bool
is_name_text text = list_all is_name text && nat_le (length text) NAME_LIMIT

-- each of the texts is so
abbrev pub are_names : List (List ℕ) → Bool
are_names names = list_all is_name_text names

-- one of the names is the atom
abbrev pub has_name : List (List ℕ) → List ℕ → Bool
has_name names atom = list_any (λ (name : List ℕ). equals name atom) names

-- a name is the atom where a whole one is asked for, and begins with it else
abbrev pub is_under : Bool → List ℕ → List ℕ → Bool
is_under whole atom name = if whole then equals name atom else begins_with name atom

-- the names that an atom may stand for, each with its number: one that is the atom goes before all that begin with it
abbrev pub under : List (List ℕ) → List ℕ → List (ℕ × List ℕ)
under names atom =
    filter (λ (name : ℕ × List ℕ). is_under (has_name names atom) atom name.1) (enumerate_from 0 names)

-- the number of the only one
abbrev pub only : List (ℕ × List ℕ) → Answer
only [] = No
only (name ∷ []) = Yes name.0
only (name ∷ other ∷ more) = No

-- an atom that is not empty stands for the only name that it may stand for
unfoldable pub verdict_among : List (List ℕ) → List ℕ → Answer
verdict_among names atom = if length atom == 0 then No else only (under names atom)

-- what a text begins with as one before it does, byte for byte
abbrev pub shared : List ℕ → List ℕ → List ℕ
shared before text = take (common_prefix_len ◌==◌ text before) text

-- what is left of each name after as many bytes
abbrev pub rests : ℕ → List (ℕ × List ℕ) → List (List ℕ)
rests size found = map (λ (name : ℕ × List ℕ). drop size name.1) found

-- how an atom goes on: with the rest of the only name, or with what the rests of several begin with alike
abbrev pub goes_on : List (List ℕ) → Tail
goes_on [] = tails.None
goes_on (rest ∷ []) = tails.Whole rest
goes_on (rest ∷ other ∷ more) = tails.Part (fold shared rest (other ∷ more))

unfoldable pub completion_among : List (List ℕ) → List ℕ → Tail
completion_among names atom =
    if length atom == 0 then tails.None else goes_on (rests (length atom) (under names atom))

-- a completion with the rest of one name more
abbrev pub joined : Tail → List ℕ → Tail
joined tails.None rest = tails.Whole rest
joined (tails.Part text) rest = tails.Part (shared text rest)
joined (tails.Whole text) rest = tails.Part (shared text rest)

-- each hook reads one of the names, and has this help
abbrev pub choice_meanings : List (List ℕ) → List ℕ → Meanings
choice_meanings names help = record {
  bytes = λ id. name_bytes;
  names = λ id. names;
  verdict = λ id atom. verdict_among names atom;
  completion = λ id atom. completion_among names atom;
  help = λ id. help;
}
