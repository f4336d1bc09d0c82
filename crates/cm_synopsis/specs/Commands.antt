-- A whole command: the parts before a word --, and the help behind it.
use Rattle.std.specs.Prelude.{ℕ, ◌-◌, ◌==◌, Bool, not, if◌then◌else◌, List, [], ◌∷◌, ◌++◌, length, take, drop, codes, Option, None, Some, option_map, slice_get, unwrap_or, Result, Ok, Err}
use Rattle.std.specs.List.{list_all, prefix_len, suffix_len}
use Rattle.std.specs.Str.{bytes_eq}
use Rattle.cm_synopsis.specs.Bytes.{is_blank, is_fine}
use Rattle.cm_synopsis.specs.CommandView.{CommandView}
use Rattle.cm_synopsis.specs.Follow.{follow_fault, innermost, is_lead, is_number, may_be, openings_after}
use Rattle.cm_synopsis.specs.Parts.{read_part}
use Rattle.cm_synopsis.specs.Words.{word_text, words}
use Rattle.cm_synopsis.specs.declared.cut.Word.{Word}
use Rattle.cm_synopsis.specs.declared.fault.Fault.{Fault}
use Rattle.cm_synopsis.specs.declared.opening.Opening.{Opening}
use Rattle.cm_synopsis.specs.declared.part.Part.{Part}
use Rattle.cm_synopsis.specs.declared.reason.Reason.{Reason}
use Rattle.cm_synopsis.specs.declared.reason.Reason.TheVariants.{BadByte, NoField, NoHelp, NoPart, NotClosed}

-- where a reader is in a line: the parts so far, and the brackets open, the innermost last
pub record Place : Type 0 where
  pub parts : List Part
  pub openings : List Opening

abbrev pub begin : Place
begin = record { parts = []; openings = [] }

-- the part before
abbrev pub before : List Part → Option Part
before parts = slice_get parts (length parts - 1)

-- the brackets open behind a part, where it may stand there
abbrev pub openings_with : Option Reason → Result (List Opening) Reason → Result (List Opening) Reason
openings_with (Some reason) openings = Err reason
openings_with None openings = openings

abbrev pub next_openings : Place → ℕ → Part → Result (List Opening) Reason
next_openings place start part =
    openings_with (follow_fault (innermost place.openings) (before place.parts) part)
    (openings_after place.openings start part)

-- a part, and the brackets open behind it
abbrev pub with_openings : Part → Result (List Opening) Reason → Result (Part × List Opening) Reason
with_openings part (Ok openings) = Ok (part, openings)
with_openings part (Err reason) = Err reason

abbrev pub with_part : Place → ℕ → Result Part Reason → Result (Part × List Opening) Reason
with_part place start (Ok part) = with_openings part (next_openings place start part)
with_part place start (Err reason) = Err reason

-- the part that a word is at a place
abbrev pub read_next : List (List ℕ) → Place → ℕ → List ℕ → Result (Part × List Opening) Reason
read_next lists place start text =
    with_part place start (read_part lists (may_be is_number (before place.parts)) text)

-- the place behind it, or the fault at its start
abbrev pub place_with : List Part → ℕ → Result (Part × List Opening) Reason → Result Place Fault
place_with parts start (Ok (part, openings)) = Ok (record { parts = parts ++ part ∷ []; openings = openings })
place_with parts start (Err reason) = Err (record { place = start; reason = reason })

abbrev pub step : List (List ℕ) → List ℕ → Place → Word → Result Place Fault
step lists line place word =
    place_with place.parts word.start (read_next lists place word.start (word_text line word))

-- the place behind words, or the first fault
abbrev pub on_place : (Place → Result Place Fault) → Result Place Fault → Result Place Fault
on_place after (Ok place) = after place
on_place after (Err fault) = Err fault

abbrev pub places_after : List (List ℕ) → List ℕ → Place → List Word → Result Place Fault
places_after lists line place [] = Ok place
places_after lists line place (word ∷ words) =
    on_place (λ next. places_after lists line next words) (step lists line place word)

-- two hyphens end the parts
abbrev pub is_mark : List ℕ → Word → Bool
is_mark line word = bytes_eq (word_text line word) (codes "--")

abbrev pub part_count : List ℕ → List Word → ℕ
part_count line words = prefix_len (λ word. not (is_mark line word)) words

-- where a word begins, and 0 where there is none
abbrev pub start_of : Option Word → ℕ
start_of word = unwrap_or (option_map (λ (it : Word). it.start) word) 0

-- where the innermost bracket begins
abbrev pub opening_start : List Opening → ℕ
opening_start openings =
    unwrap_or (option_map (λ (it : Opening). it.start) (slice_get openings (length openings - 1))) 0

-- why the parts may not end there, whose last word begins there, before the word that ends them
abbrev pub end_fault : ℕ → ℕ → Place → Option Fault
end_fault last mark place =
    if length place.parts == 0 then Some (record { place = mark; reason = NoPart })
    else if is_lead (before place.parts) then Some (record { place = last; reason = NoField })
    else if length place.openings == 0 then None
    else Some (record { place = opening_start place.openings; reason = NotClosed })

-- a text without the blanks in front and behind
abbrev pub without_end : List ℕ → List ℕ
without_end text = take (length text - suffix_len is_blank text) text

abbrev pub without_blanks : List ℕ → List ℕ
without_blanks text = without_end (drop (prefix_len is_blank text) text)

-- the help is behind the mark; all before it is fine by then, so that a bad byte is the help's
abbrev pub help_text : List ℕ → Option Word → List ℕ
help_text line None = []
help_text line (Some mark) = without_blanks (drop mark.end line)

abbrev pub help_fault : List ℕ → Option Word → Option Fault
help_fault line None = None
help_fault line (Some mark) =
    if not (list_all is_fine line) then Some (record { place = prefix_len is_fine line; reason = BadByte })
    else if length (help_text line (Some mark)) == 0 then Some (record { place = mark.start; reason = NoHelp })
    else None

-- a command, where neither its end nor its help is at fault
abbrev pub without_fault : Option Fault → Result CommandView Fault → Result CommandView Fault
without_fault (Some fault) command = Err fault
without_fault None command = command

abbrev pub command_at : List ℕ → ℕ → Option Word → Result Place Fault → Result CommandView Fault
command_at line last mark (Err fault) = Err fault
command_at line last mark (Ok place) =
    without_fault (end_fault last (start_of mark) place)
    (without_fault (help_fault line mark) (Ok (record { parts = place.parts; help = help_text line mark })))

-- the parts are the words before the first mark
abbrev pub command_in : List (List ℕ) → List ℕ → List Word → Option Word → Result CommandView Fault
command_in lists line front mark =
    command_at line (start_of (slice_get front (length front - 1))) mark (places_after lists line begin front)

abbrev pub command_of_words : List (List ℕ) → List ℕ → List Word → Result CommandView Fault
command_of_words lists line all =
    command_in lists line (take (part_count line all) all) (slice_get all (part_count line all))

unfoldable pub command_of : List (List ℕ) → List ℕ → Result CommandView Fault
command_of lists line = command_of_words lists line (words line)
