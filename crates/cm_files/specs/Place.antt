-- Where a part of a pattern between two `*` is in a name.
use Rattle.std.specs.Prelude.{ℕ, ◌+◌, ◌-◌, ◌==◌, ◌&&◌, nat_le, Bool, if◌then◌else◌, List, [], ◌∷◌, length, drop, Option, Some, None}
use Rattle.std.specs.List.{common_prefix_len}
use Rattle.cm_files.specs.Pattern.{stands_for}

-- the part stands for the first bytes of a name
abbrev pub fits : List ℕ → List ℕ → Bool
fits part name = common_prefix_len stands_for part name == length part

-- the first place where it does, counted from a place on
abbrev pub place_from : List ℕ → ℕ → List ℕ → Option ℕ
place_from part at [] = if fits part [] then Some at else None
place_from part at (byte ∷ more) = if fits part (byte ∷ more) then Some at else place_from part (at + 1) more

-- it stands for the last bytes of a name
abbrev pub ends_like : List ℕ → List ℕ → Bool
ends_like part name = nat_le (length part) (length name) && fits part (drop (length name - length part) name)

-- how many places of a name of this size are tried for a part that is found there
abbrev pub tries : ℕ → Option ℕ → ℕ
tries size None = size + 1
tries size (Some place) = place + 1
