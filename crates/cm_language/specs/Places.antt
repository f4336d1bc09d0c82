-- The places of a language: each group of positions that may come behind a place is the positions of a place.
use Rattle.std.specs.Prelude.{ℕ, suc, zero, ◌+◌, not, nat_lt, if◌then◌else◌, List, [], ◌∷◌, length, fold, map, Option, None, Some, slice_get, unwrap_or}
use Rattle.std.specs.List.{prefix_len, range_with_len}
use Rattle.cm_synopsis.specs.CommandView.{CommandView}
use Rattle.cm_synopsis.specs.Ways.{Way}
use Rattle.cm_language.specs.Groups.{firsts, group_of, groups, is_group, reached, with_new}
use Rattle.cm_language.specs.declared.place.Exit.{Exit}
use Rattle.cm_language.specs.declared.place.Place.{Place}
use Rattle.cm_language.specs.declared.place.Position.{Position}
use Rattle.cm_language.specs.declared.place.TheConstants.{PLACE_LIMIT}

-- a place, as lists
pub record Site : Type 0 where
  pub positions : List Position
  pub exits : List Exit

abbrev pub site_of : Place → Site
site_of place = record { positions = place.positions.items; exits = place.exits.items }

-- at first a line is at the start of each command
abbrev pub start_of : ℕ → Position
start_of command = record { command = command; step = 0 }

abbrev pub starts : List CommandView → List Position
starts commands = map start_of (range_with_len 0 (length commands))

-- what is known, and the groups behind some positions, each once
abbrev pub with_groups : List CommandView → List Way → List (List Position) → List Position → List (List Position)
with_groups commands ways known positions =
    fold (with_new is_group) known (groups commands ways (reached ways positions))

-- the positions of a place by its number; none behind the last
abbrev pub positions_at : List (List Position) → ℕ → List Position
positions_at known at = unwrap_or (slice_get known at) []

-- what is known once so many places more, from one on, have added their groups
unfoldable pub known_after : List CommandView → List Way → ℕ → ℕ → List (List Position) → List (List Position)
known_after commands ways zero at known = known
known_after commands ways (suc more) at known =
    known_after commands ways more (at + 1) (with_groups commands ways known (positions_at known at))

-- the number of a group among those known
abbrev pub number_of : List (List Position) → List Position → ℕ
number_of known group = prefix_len (λ (other : List Position). not (is_group group other)) known

-- an exit has the first position of a group, and leads to its place
abbrev pub exit_of : List CommandView → List Way → List (List Position) → List Position → Position → Exit
exit_of commands ways known positions first =
    record { position = first; place = number_of known (group_of commands ways positions first) }

-- the exits of a place from whose positions these are reached
abbrev pub exits_of : List CommandView → List Way → List (List Position) → List Position → List Exit
exits_of commands ways known positions = map (exit_of commands ways known positions) (firsts commands ways positions)

abbrev pub site : List CommandView → List Way → List (List Position) → List Position → Site
site commands ways known positions =
    record { positions = positions; exits = exits_of commands ways known (reached ways positions) }

-- what is known of a language with at most so many places
abbrev pub known_within : ℕ → List CommandView → List Way → List (List Position)
known_within limit commands ways = known_after commands ways limit 0 (starts commands ∷ [])

abbrev pub sites_of : List CommandView → List Way → List (List Position) → Option (List Site)
sites_of commands ways known =
    if nat_lt PLACE_LIMIT (length known) then None else Some (map (site commands ways known) known)

-- the places of a language; none where there are too many
unfoldable pub places : List CommandView → List Way → Option (List Site)
places commands ways = sites_of commands ways (known_within PLACE_LIMIT commands ways)
