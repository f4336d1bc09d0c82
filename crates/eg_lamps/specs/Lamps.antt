-- The lamps of some rooms, what a command makes of them, and what it shows.
use Rattle.std.proofs.Common.{refl}
use Rattle.std.specs.Prelude.{◌≡◌, ℕ, ◌-◌, ◌==◌, nat_le, true, if◌then◌else◌, List, [], ◌∷◌, ◌++◌, length, codes, map, slice_get, slice_set}
use Rattle.std.specs.Fmt.{decimal}
use Rattle.std.specs.Option.{option_map_or}
use Rattle.cm_text.specs.Bytes.{is_name, is_word}
use Rattle.cm_hooks.specs.Among.{are_names, choice_meanings}
use Rattle.cm_hooks.specs.Meanings.{Meanings, held_meanings}
use Rattle.eg_lamps.specs.declared.lamps.Change.{Change}
use Rattle.eg_lamps.specs.declared.lamps.Change.TheVariants.{Set, Dim, Note}
use Rattle.eg_lamps.specs.declared.lamps.Command.{Command}
use Rattle.eg_lamps.specs.declared.lamps.Command.TheVariants as commands
use Rattle.eg_lamps.specs.declared.lamps.Lamp.{Lamp}
use Rattle.eg_lamps.specs.declared.lamps.TheConstants.{BRIGHTEST}

-- the rooms, in the order of their numbers
abbrev pub rooms : List (List ℕ)
rooms = codes "HALL" ∷ codes "KITCHEN" ∷ codes "STAIRS" ∷ codes "STUDY" ∷ []

pub rooms_are_names : are_names rooms ≡ true
unfolding is_name is_word
rooms_are_names = refl

unfoldable pub room_help : List ℕ
room_help = codes "room"

-- hook 0 reads a room, and no other hook is held
abbrev pub lamp_meanings : Meanings
lamp_meanings = held_meanings 1 (choice_meanings rooms room_help)

-- the lamp of a room, dark and with no note
abbrev pub dark : List ℕ → Lamp
dark room = record { room = room; brightness = 0; note = [] }

abbrev pub dark_lamps : List Lamp
dark_lamps = map dark rooms

-- a lamp after a change: a brightness past the limit is refused, and what is dimmed by more than it has is dark
abbrev pub changed : Change → Lamp → Lamp
changed (Set level) lamp = if nat_le level BRIGHTEST then record lamp { brightness = level } else lamp
changed (Dim by) lamp = record lamp { brightness = lamp.brightness - by }
changed (Note note) lamp = record lamp { note = note }

-- [lamp] what a command makes of the lamps; where there is no such room they stay
abbrev pub obeyed : Command → List Lamp → List Lamp
obeyed (commands.Change room change) lamps =
    option_map_or (λ (lamp : Lamp). slice_set lamps room (changed change lamp)) (slice_get lamps room) lamps
obeyed command lamps = lamps

-- the line of a lamp: `HALL 40`, and its note
unfoldable pub lamp_line : Lamp → List ℕ
lamp_line lamp =
    lamp.room ++ codes " " ++ decimal lamp.brightness ++ (if length lamp.note == 0 then [] else codes " ") ++ lamp.note

unfoldable pub too_bright : List ℕ
too_bright = codes "?Brightness is 0 to 100"

-- the lines that a command shows: SET past the limit that it is refused, and LIST the lamps
abbrev pub reply : Command → List Lamp → List (List ℕ)
reply (commands.Change room (Set level)) lamps = if nat_le level BRIGHTEST then [] else too_bright ∷ []
reply commands.List lamps = map lamp_line lamps
reply command lamps = []
