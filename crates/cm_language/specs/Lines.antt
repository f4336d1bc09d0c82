-- Where a line is once its words are read, as positions of commands, and as a place. A label is a position at which the
-- word is read: another that reads the same would do as well.
use Rattle.std.specs.Prelude.{ℕ, if◌then◌else◌, List, [], ◌∷◌, filter, Option, None, Some, slice_get}
use Rattle.cm_synopsis.specs.CommandView.{CommandView}
use Rattle.cm_synopsis.specs.Ways.{Way}
use Rattle.cm_language.specs.Groups.{reached}
use Rattle.cm_language.specs.Places.{Site}
use Rattle.cm_language.specs.Readings.{is_same_reading}
use Rattle.cm_language.specs.declared.place.Exit.{Exit}
use Rattle.cm_language.specs.declared.place.Position.{Position}

-- behind some positions come those that links lead to; of these the label tells which read it
abbrev pub positions_after : List CommandView → List Way → List Position → List Position → List Position
positions_after commands ways positions [] = positions
positions_after commands ways positions (label ∷ labels) =
    positions_after commands ways (filter (is_same_reading commands ways label) (reached ways positions)) labels

abbrev pub exits_in : Option Site → List Exit
exits_in None = []
exits_in (Some place) = place.exits

abbrev pub positions_in : Option Site → List Position
positions_in None = []
positions_in (Some place) = place.positions

abbrev pub site_at : List Site → Option ℕ → Option Site
site_at sites None = None
site_at sites (Some at) = slice_get sites at

-- the place of the first exit that reads the label
abbrev pub next_place : List CommandView → List Way → Position → List Exit → Option ℕ
next_place commands ways label [] = None
next_place commands ways label (exit ∷ exits) =
    if is_same_reading commands ways label exit.position then Some exit.place
    else next_place commands ways label exits

-- the place of a line from a place on; none where no exit reads a label
abbrev pub place_after : List CommandView → List Way → List Site → Option ℕ → List Position → Option ℕ
place_after commands ways sites at [] = at
place_after commands ways sites at (label ∷ labels) =
    place_after commands ways sites (next_place commands ways label (exits_in (site_at sites at))) labels
