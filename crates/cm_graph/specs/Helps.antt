-- The help of a keyword: that of its command stands at the command's last keyword outside brackets.
use Rattle.std.specs.Prelude.{ℕ, ◌+◌, ◌-◌, ◌==◌, ◌&&◌, ◌||◌, Bool, false, not, nat_lt, if◌then◌else◌, List, [], ◌∷◌, length, Option, None, Some}
use Rattle.std.specs.Option.{option_map_or}
use Rattle.cm_text.specs.Bytes.{is_shown}
use Rattle.cm_text.specs.declared.name.TheConstants.{NAME_LIMIT}
use Rattle.cm_synopsis.specs.CommandView.{CommandView}
use Rattle.cm_synopsis.specs.declared.part.Part.{Part}
use Rattle.cm_synopsis.specs.declared.part.Part.TheVariants.{Close, Keyword, Open}

-- how many brackets are open behind a part
abbrev pub depth_after : ℕ → Part → ℕ
depth_after depth (Open bracket) = depth + 1
depth_after depth (Close bracket) = depth - 1
depth_after depth part = depth

abbrev pub keyword_after : ℕ → ℕ → Option ℕ → Part → Option ℕ
keyword_after place depth found (Keyword name) = if depth == 0 then Some place else found
keyword_after place depth found part = found

-- the place of the last keyword outside brackets, of these parts and those before them
abbrev pub last_keyword : ℕ → ℕ → Option ℕ → List Part → Option ℕ
last_keyword place depth found [] = found
last_keyword place depth found (part ∷ parts) =
    last_keyword (place + 1) (depth_after depth part) (keyword_after place depth found part) parts

-- help that a table does not take: of no byte, too long, or with a byte that is not shown as it is
abbrev pub is_help : List ℕ → Bool
is_help help = nat_lt 0 (length help) && not (nat_lt NAME_LIMIT (length help)) && is_shown help

-- the help of the part at a place of a command
abbrev pub help_at : CommandView → ℕ → Option (List ℕ)
help_at command place =
    if option_map_or (λ it. it == place) (last_keyword 0 0 None command.parts) false && is_help command.help
    then Some command.help else None

-- the number of the first command whose help no table takes, counted from a number on
abbrev pub bad_help : ℕ → List CommandView → Option ℕ
bad_help number [] = None
bad_help number (command ∷ commands) =
    if length command.help == 0 || is_help command.help then bad_help (number + 1) commands else Some number
