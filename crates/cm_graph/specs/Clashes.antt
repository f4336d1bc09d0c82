-- What makes a place one where a line cannot be read.
use Rattle.std.specs.Prelude.{ℕ, ◌==◌, ◌&&◌, ◌||◌, Bool, false, not, if◌then◌else◌, List, [], ◌∷◌, Option, None, Some, slice_get}
use Rattle.std.specs.List.{list_any}
use Rattle.std.specs.Option.{option_map_or}
use Rattle.cm_tables.specs.Order.{is_keyword as is_keyword_text}
use Rattle.cm_synopsis.specs.CommandView.{CommandView}
use Rattle.cm_synopsis.specs.Ways.{Way}
use Rattle.cm_synopsis.specs.declared.part.Part.{Part}
use Rattle.cm_language.specs.Places.{Site}
use Rattle.cm_language.specs.declared.place.Exit.{Exit}
use Rattle.cm_language.specs.declared.place.Position.{Position}
use Rattle.cm_graph.specs.Exits.{is_field, is_guide, is_keyword, is_switch, name_of, part_at}
use Rattle.cm_graph.specs.declared.clash.Claim.{Claim}
use Rattle.cm_graph.specs.declared.fault.GraphFault.{GraphFault}
use Rattle.cm_graph.specs.declared.fault.GraphReason.TheVariants.{BadKeyword, Clash, EmptyLine, SameLine}

-- a line may end behind a position
abbrev pub is_end : List Way → Position → Bool
is_end ways position =
    option_map_or (λ (way : Way). list_any (λ (end : ℕ). end == position.step) way.ends)
    (slice_get ways position.command) false

-- an end of another command than one before
abbrev pub ends_with : Option ℕ → Position → Option GraphFault
ends_with None at = None
ends_with (Some command) at =
    if command == at.command then None else Some (record { command = at.command; other = command; reason = SameLine })

abbrev pub end_after : Option ℕ → Position → Option ℕ
end_after None at = Some at.command
end_after (Some command) at = Some command

-- the first of two faults
abbrev pub or_fault : Option GraphFault → Option GraphFault → Option GraphFault
or_fault (Some fault) later = Some fault
or_fault None later = later

-- two commands end at a place: the first end of a command other than that of the end before
abbrev pub end_clash : List Way → Option ℕ → List Position → Option GraphFault
end_clash ways found [] = None
end_clash ways found (at ∷ more) =
    if is_end ways at then or_fault (ends_with found at) (end_clash ways (end_after found at) more)
    else end_clash ways found more

-- what is read at an exit is told by neither its name nor a slash
abbrev pub is_claim : Option Part → Bool
is_claim part = is_field part || is_guide part

-- a guide word reads everything, and a field what another command's field may read
abbrev pub claims_with : Option Claim → Bool → ℕ → Option GraphFault
claims_with None guide command = None
claims_with (Some claim) guide command =
    if not claim.guide && not guide && claim.command == command then None
    else Some (record { command = command; other = claim.command; reason = Clash })

abbrev pub claim_after : Option Claim → Bool → ℕ → Option Claim
claim_after None guide command = Some (record { guide = guide; command = command })
claim_after (Some claim) guide command = Some claim

abbrev pub claim_clash : List CommandView → List Way → Option Claim → List Exit → Option GraphFault
claim_clash commands ways found [] = None
claim_clash commands ways found (exit ∷ exits) =
    if is_claim (part_at commands ways exit)
    then or_fault (claims_with found (is_guide (part_at commands ways exit)) exit.position.command)
    (claim_clash commands ways
    (claim_after found (is_guide (part_at commands ways exit)) exit.position.command) exits)
    else claim_clash commands ways found exits

-- a keyword or a switch that no table takes
abbrev pub is_bad_name : Option Part → Bool
is_bad_name part = (is_keyword part || is_switch part) && not (is_keyword_text (name_of part))

abbrev pub bad_name : List CommandView → List Way → List Exit → Option GraphFault
bad_name commands ways [] = None
bad_name commands ways (exit ∷ exits) =
    if is_bad_name (part_at commands ways exit)
    then Some (record { command = exit.position.command; other = exit.position.command; reason = BadKeyword })
    else bad_name commands ways exits

-- the first command of a place
abbrev pub first_command : List Position → ℕ
first_command positions = option_map_or (λ (at : Position). at.command) (slice_get positions 0) 0

-- the first command that ends there
abbrev pub first_end : List Way → List Position → Option GraphFault
first_end ways [] = None
first_end ways (at ∷ more) =
    if is_end ways at then Some (record { command = at.command; other = at.command; reason = EmptyLine })
    else first_end ways more

-- a command that is an empty line ends at the first place
abbrev pub empty_line : List Way → ℕ → List Position → Option GraphFault
empty_line ways number positions = if number == 0 then first_end ways positions else None

-- the first fault of a place with a number
abbrev pub place_fault : List CommandView → List Way → ℕ → Site → Option GraphFault
place_fault commands ways number site =
    or_fault (empty_line ways number site.positions)
    (or_fault (end_clash ways None site.positions)
    (or_fault (claim_clash commands ways None site.exits) (bad_name commands ways site.exits)))
