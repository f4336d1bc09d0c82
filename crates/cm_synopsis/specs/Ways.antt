-- The ways through a command: which of its parts a word of a line may be read as, behind which others.
use Rattle.std.specs.Prelude.{ℕ, ◌+◌, ◌-◌, ◌==◌, ◌&&◌, Bool, true, false, if◌then◌else◌, List, [], ◌∷◌, ◌++◌, length, map, take, Option, None, Some, slice_get}
use Rattle.std.specs.List.{list_any}
use Rattle.std.specs.Option.{option_map_or}
use Rattle.cm_synopsis.specs.Follow.{is_start}
use Rattle.cm_synopsis.specs.declared.part.Bracket.{Bracket}
use Rattle.cm_synopsis.specs.declared.part.Bracket.TheVariants.{AnyOrder, Choice, Optional}
use Rattle.cm_synopsis.specs.declared.part.Part.{Part}
use Rattle.cm_synopsis.specs.declared.part.Part.TheVariants.{Again, Close, Open, Or, Range}
use Rattle.cm_synopsis.specs.declared.way.Link.{Link}
use Rattle.cm_synopsis.specs.declared.way.Step.{Step}

-- the steps of a command, by their numbers from 1; the links between them, where 0 is the start of the line; and the
-- steps behind which the line may end
pub record Way : Type 0 where
  pub steps : List Step
  pub links : List Link
  pub ends : List ℕ

-- a bracket that is open: the steps behind which it stands, those at the ends of its alternatives so far, and the first
-- ones of these
pub record Frame : Type 0 where
  pub bracket : Bracket
  pub before : List ℕ
  pub after : List ℕ
  pub starts : List ℕ

-- the way so far, whose ends are the steps behind which the next part may come; the brackets that are open, the
-- innermost last; and whether an alternative begins
pub record Walk : Type 0 where
  pub way : Way
  pub frames : List Frame
  pub begins : Bool

abbrev pub has : List ℕ → ℕ → Bool
has numbers number = list_any (λ it. it == number) numbers

-- some numbers, and those of others that they have not
abbrev pub joined : List ℕ → List ℕ → List ℕ
joined numbers [] = numbers
joined numbers (other ∷ others) = joined (if has numbers other then numbers else numbers ++ other ∷ []) others

-- some links, and more from each of these steps to each of those
abbrev pub linked : List Link → List ℕ → List ℕ → List Link
linked links [] tos = links
linked links (from ∷ froms) tos = linked (links ++ map (λ to. record { from = from; to = to }) tos) froms tos

-- all but the last
abbrev pub front : {A : Type 0} → List A → List A
front items = take (length items - 1) items

abbrev pub last : {A : Type 0} → List A → Option A
last items = slice_get items (length items - 1)

-- the step that is put behind this way: it is behind each of its ends
abbrev pub with_step : Way → ℕ → Bool → Way
with_step way part option = record {
  steps = way.steps ++ record { part = part; range = None; option = option } ∷ [];
  links = linked way.links way.ends ((length way.steps + 1) ∷ []);
  ends = (length way.steps + 1) ∷ [];
}

-- the frames, of which the innermost has a step more that begins an alternative
abbrev pub with_start : ℕ → Option Frame → List Frame → List Frame
with_start step None frames = frames
with_start step (Some frame) frames = front frames ++ record frame { starts = frame.starts ++ step ∷ [] } ∷ []

-- the range of the last step
abbrev pub with_range : ℕ × ℕ → Option Step → List Step → List Step
with_range range None steps = steps
with_range range (Some step) steps = front steps ++ record step { range = Some range } ∷ []

-- the way behind a bracket that ends
abbrev pub closed_way : Bracket → Frame → Way → Way
closed_way Optional frame way = record way { ends = joined way.ends frame.before }
closed_way Choice frame way = record way { ends = joined frame.after way.ends }
closed_way AnyOrder frame way = record way {
  links = linked way.links (joined frame.after way.ends) frame.starts;
  ends = joined (joined frame.after way.ends) frame.before;
}

-- the way at the next alternative
abbrev pub next_walk : Option Frame → Walk → Walk
next_walk None walk = walk
next_walk (Some frame) walk = record walk {
  way = record walk.way { ends = frame.before };
  frames = front walk.frames ++ record frame { after = joined frame.after walk.way.ends } ∷ [];
}

abbrev pub closed_walk : Option Frame → Walk → Walk
closed_walk None walk = walk
closed_walk (Some frame) walk =
    record walk { way = closed_way frame.bracket frame walk.way; frames = front walk.frames }

-- an alternative in any order begins
abbrev pub is_any_order : Bracket → Bool
is_any_order AnyOrder = true
is_any_order bracket = false

abbrev pub begins_option : Walk → Bool
begins_option walk =
    walk.begins && option_map_or (λ (frame : Frame). is_any_order frame.bracket) (last walk.frames) false

-- a part that reads something is a step
abbrev pub step_walk : ℕ → Walk → Walk
step_walk part walk = record walk {
  way = with_step walk.way part (begins_option walk);
  frames = if walk.begins then with_start (length walk.way.steps + 1) (last walk.frames) walk.frames else walk.frames;
}

abbrev pub opened_walk : Bracket → Walk → Walk
opened_walk bracket walk = record walk {
  frames = walk.frames ++ record { bracket = bracket; before = walk.way.ends; after = []; starts = [] } ∷ [];
}

-- the way with a part more, which is at this place of the command
abbrev pub part_walk : ℕ → Part → Walk → Walk
part_walk place (Range low high) walk =
    record walk { way = record walk.way { steps = with_range (low, high) (last walk.way.steps) walk.way.steps } }
part_walk place Again walk = record walk {
  way = record walk.way { links = linked walk.way.links (length walk.way.steps ∷ []) (length walk.way.steps ∷ []) };
}
part_walk place (Open bracket) walk = opened_walk bracket walk
part_walk place Or walk = next_walk (last walk.frames) walk
part_walk place (Close bracket) walk = closed_walk (last walk.frames) walk
part_walk place part walk = step_walk place walk

abbrev pub walked : ℕ → Part → Walk → Walk
walked place part walk = record (part_walk place part walk) { begins = is_start (Some part) }

-- the way with these parts more, the first of which is at a place
abbrev pub walk_from : ℕ → Walk → List Part → Walk
walk_from place walk [] = walk
walk_from place walk (part ∷ parts) = walk_from (place + 1) (walked place part walk) parts

-- at the start of the line
abbrev pub first_walk : Walk
first_walk = record { way = record { steps = []; links = []; ends = 0 ∷ [] }; frames = []; begins = false }

-- the ways through a command with these parts
unfoldable pub way_of : List Part → Way
way_of parts = (walk_from 0 first_walk parts).way
