-- What is read at an exit, and what sort of exit that makes it.
use Rattle.std.specs.Prelude.{ℕ, Bool, true, false, List, [], Option, Some}
use Rattle.std.specs.Option.{option_map_or}
use Rattle.cm_synopsis.specs.CommandView.{CommandView}
use Rattle.cm_synopsis.specs.Ways.{Way}
use Rattle.cm_synopsis.specs.declared.part.Part.{Part}
use Rattle.cm_synopsis.specs.declared.part.Part.TheVariants.{Field, Guide, Keyword, Lead, Switch}
use Rattle.cm_synopsis.specs.declared.way.Step.{Step}
use Rattle.cm_language.specs.Readings.{part_of, step_of}
use Rattle.cm_language.specs.declared.place.Exit.{Exit}

abbrev pub is_keyword : Option Part → Bool
is_keyword (Some (Keyword name)) = true
is_keyword part = false

-- a switch, or one before its field
abbrev pub is_switch : Option Part → Bool
is_switch (Some (Switch name)) = true
is_switch (Some (Lead name)) = true
is_switch part = false

abbrev pub is_field : Option Part → Bool
is_field (Some (Field name kinds)) = true
is_field part = false

abbrev pub is_guide : Option Part → Bool
is_guide (Some (Guide name)) = true
is_guide part = false

-- a switch before its field is followed by a colon
abbrev pub has_colon : Option Part → Bool
has_colon (Some (Lead name)) = true
has_colon part = false

-- the name of what is read; none of what reads nothing
abbrev pub name_of : Option Part → List ℕ
name_of (Some (Keyword name)) = name
name_of (Some (Guide name)) = name
name_of (Some (Field name kinds)) = name
name_of (Some (Switch name)) = name
name_of (Some (Lead name)) = name
name_of part = []

abbrev pub part_at : List CommandView → List Way → Exit → Option Part
part_at commands ways exit = part_of commands ways exit.position

-- a line has it once
abbrev pub is_option : List Way → Exit → Bool
is_option ways exit = option_map_or (λ (step : Step). step.option) (step_of ways exit.position) false
