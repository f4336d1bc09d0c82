-- The case in which a keyword goes on of which the beginning is typed.
use Rattle.std.specs.Prelude.{ℕ, ◌&&◌, Bool, not, if◌then◌else◌, List, map}
use Rattle.std.specs.Char.{is_ascii_lowercase, is_ascii_uppercase, to_ascii_uppercase}
use Rattle.std.specs.List.{list_any}

-- letters are typed, and all of them are capitals
abbrev pub are_capitals : List ℕ → Bool
are_capitals typed = list_any is_ascii_uppercase typed && not (list_any is_ascii_lowercase typed)

-- the rest of a text, after capitals in capitals, else as it is
abbrev pub in_case : List ℕ → List ℕ → List ℕ
in_case typed rest = if are_capitals typed then map to_ascii_uppercase rest else rest
