-- Which part of a command may follow which, and what brackets are open then.
use Rattle.std.specs.Prelude.{ℕ, ◌-◌, Bool, true, false, not, ◌&&◌, nat_lt, if◌then◌else◌, List, [], ◌∷◌, ◌++◌, length, take, Option, None, Some, option_map, slice_get, Result, Ok, Err}
use Rattle.std.specs.List.{list_any}
use Rattle.cm_synopsis.specs.declared.field.Kind.{Kind}
use Rattle.cm_synopsis.specs.declared.field.Kind.TheVariants.{Number, Rest}
use Rattle.cm_synopsis.specs.declared.opening.Opening.{Opening}
use Rattle.cm_synopsis.specs.declared.opening.TheConstants.{BRACKET_LIMIT}
use Rattle.cm_synopsis.specs.declared.part.Bracket.{Bracket}
use Rattle.cm_synopsis.specs.declared.part.Bracket.TheVariants.{AnyOrder, Choice, Optional}
use Rattle.cm_synopsis.specs.declared.part.Part.{Part}
use Rattle.cm_synopsis.specs.declared.part.Part.TheVariants.{Again, Close, Field, Keyword, Lead, Open, Or, Range, Switch}
use Rattle.cm_synopsis.specs.declared.reason.Reason.{Reason}
use Rattle.cm_synopsis.specs.declared.reason.Reason.TheVariants.{DeepBracket, EmptyBracket, NoBar, NoField, NotLast, NotOpen, NotOption}

abbrev pub is_number : Kind → Bool
is_number Number = true
is_number kind = false

abbrev pub is_rest : Kind → Bool
is_rest Rest = true
is_rest kind = false

-- a field that may be of such a kind
abbrev pub may_be : (Kind → Bool) → Option Part → Bool
may_be test (Some (Field name kinds)) = list_any test kinds
may_be test before = false

-- a field, or its range
abbrev pub is_field_end : Option Part → Bool
is_field_end (Some (Field name kinds)) = true
is_field_end (Some (Range low high)) = true
is_field_end before = false

abbrev pub is_lead : Option Part → Bool
is_lead (Some (Lead name)) = true
is_lead before = false

-- behind these an alternative begins
abbrev pub is_start : Option Part → Bool
is_start (Some (Open bracket)) = true
is_start (Some Or) = true
is_start before = false

abbrev pub is_field : Part → Bool
is_field (Field name kinds) = true
is_field part = false

abbrev pub is_again : Part → Bool
is_again Again = true
is_again part = false

-- these end an alternative
abbrev pub is_end : Part → Bool
is_end (Close bracket) = true
is_end Or = true
is_end part = false

-- with these an alternative in { } begins
abbrev pub is_option : Part → Bool
is_option (Keyword name) = true
is_option (Switch name) = true
is_option (Lead name) = true
is_option part = false

abbrev pub same_bracket : Bracket → Option Bracket → Bool
same_bracket Optional (Some Optional) = true
same_bracket Choice (Some Choice) = true
same_bracket AnyOrder (Some AnyOrder) = true
same_bracket bracket inner = false

-- the part ends a bracket that is not the innermost
abbrev pub ends_other : Option Bracket → Part → Bool
ends_other inner (Close bracket) = not (same_bracket bracket inner)
ends_other inner part = false

-- the part is a bar, and the innermost bracket has none
abbrev pub is_lone_bar : Option Bracket → Part → Bool
is_lone_bar inner Or = not (same_bracket Choice inner) && not (same_bracket AnyOrder inner)
is_lone_bar inner part = false

-- a switch with a colon wants a field, and two points stand behind one
abbrev pub wants_field : Option Part → Part → Bool
wants_field before part = if is_lead before then not (is_field part) else is_again part && not (is_field_end before)

-- the last bracket that is open is the innermost
abbrev pub innermost : List Opening → Option Bracket
innermost openings = option_map (λ (it : Opening). it.bracket) (slice_get openings (length openings - 1))

-- why a part may not follow the one before in the innermost bracket
abbrev pub follow_fault : Option Bracket → Option Part → Part → Option Reason
follow_fault inner before part =
    if wants_field before part then Some NoField
    else if ends_other inner part then Some NotOpen
    else if is_lone_bar inner part then Some NoBar
    else if is_start before && is_end part then Some EmptyBracket
    else if is_start before && same_bracket AnyOrder inner && not (is_option part) then Some NotOption
    else if may_be is_rest before && not (is_end part) then Some NotLast
    else None

-- one bracket more, of at most so many
abbrev pub with_opening : List Opening → Opening → Result (List Opening) Reason
with_opening openings opening =
    if nat_lt (length openings) BRACKET_LIMIT then Ok (openings ++ opening ∷ []) else Err DeepBracket

-- the brackets that are open behind a part whose word begins there
abbrev pub openings_after : List Opening → ℕ → Part → Result (List Opening) Reason
openings_after openings start (Open bracket) = with_opening openings (record { bracket = bracket; start = start })
openings_after openings start (Close bracket) = Ok (take (length openings - 1) openings)
openings_after openings start part = Ok openings
