-- What may be read behind positions: those that read the same are a group.
use Rattle.std.specs.Prelude.{ℕ, ◌==◌, Bool, ◌&&◌, if◌then◌else◌, List, [], ◌∷◌, ◌++◌, filter, flat_map, fold, map, slice_get}
use Rattle.std.specs.Cmp.Lexicographic.{pointwise}
use Rattle.std.specs.List.{list_any}
use Rattle.std.specs.Option.{option_map_or}
use Rattle.cm_synopsis.specs.CommandView.{CommandView}
use Rattle.cm_synopsis.specs.declared.way.Link.{Link}
use Rattle.cm_synopsis.specs.Ways.{Way}
use Rattle.cm_language.specs.Readings.{is_same_reading}
use Rattle.cm_language.specs.declared.place.Position.{Position}

-- one more at the end of a list, where none of it is the same
abbrev pub with_new : {A : Type 0} → (A → A → Bool) → List A → A → List A
with_new same made one = if list_any (same one) made then made else made ++ one ∷ []

-- each of a list that is the same as none before it
abbrev pub distinct : {A : Type 0} → (A → A → Bool) → List A → List A
distinct same ones = fold (with_new same) [] ones

-- two positions are one
abbrev pub is_position : Position → Position → Bool
is_position one other = one.command == other.command && one.step == other.step

-- two lists have the same positions in the same order
abbrev pub is_group : List Position → List Position → Bool
is_group ones others = pointwise is_position ones others

abbrev pub links_of : List Way → ℕ → List Link
links_of ways command = option_map_or (λ (way : Way). way.links) (slice_get ways command) []

abbrev pub is_behind : Position → Link → Bool
is_behind position link = link.from == position.step

abbrev pub position_of : Position → Link → Position
position_of position link = record { command = position.command; step = link.to }

-- the positions that some links lead to from one
abbrev pub positions_behind : Position → List Link → List Position
positions_behind position links = map (position_of position) (filter (is_behind position) links)

-- the positions that may come directly behind one
abbrev pub next_positions : List Way → Position → List Position
next_positions ways position = positions_behind position (links_of ways position.command)

-- what may come behind some positions, each once
abbrev pub reached : List Way → List Position → List Position
reached ways positions = distinct is_position (flat_map (next_positions ways) positions)

-- those of some positions that read the same as one
abbrev pub group_of : List CommandView → List Way → List Position → Position → List Position
group_of commands ways positions one = filter (is_same_reading commands ways one) positions

-- the first of each group
abbrev pub firsts : List CommandView → List Way → List Position → List Position
firsts commands ways positions = distinct (is_same_reading commands ways) positions

-- the groups of some positions, in the order of their firsts
abbrev pub groups : List CommandView → List Way → List Position → List (List Position)
groups commands ways positions = map (group_of commands ways positions) (firsts commands ways positions)
