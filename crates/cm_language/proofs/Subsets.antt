-- The positions of a place are those where a line may be that leads there.
use Rattle.std.proofs.Common.{◌≡◌, ℕ, ◌==◌, ◌+◌, true, false, Bool, ◌||◌, not, if◌then◌else◌, cond, List, [], ◌∷◌, filter, map, refl, sym, ap, ◌∙◌, arith, inr, Option, None, Some, slice_get, unwrap_or, option_map}
use Rattle.std.specs.Cmp.Lexicographic.{pointwise_decides}
use Rattle.std.specs.List.{list_any}
use Rattle.std.proofs.lemmas.Bool.{true≢false}
use Rattle.std.proofs.lemmas.Bool.Decides.{nat_tests}
use Rattle.std.proofs.lemmas.Option.{slice_get-map}
use Rattle.cm_lists.proofs.Bools.{and_first, and_second, or_from_either}
use Rattle.cm_lists.proofs.Filters.{filter_of_none}
use Rattle.cm_lists.proofs.Numbers.{one_add}
use Rattle.cm_synopsis.specs.CommandView.{CommandView}
use Rattle.cm_synopsis.specs.Ways.{Way}
use Rattle.cm_language.specs.Groups.{firsts, group_of, groups, is_group, is_position, reached}
use Rattle.cm_language.specs.Lines.{exits_in, next_place, place_after, positions_after, positions_in, site_at}
use Rattle.cm_language.specs.Places.{Site, exit_of, number_of, site}
use Rattle.cm_language.specs.Readings.{is_same_reading}
use Rattle.cm_language.specs.declared.place.Position.{Position}
use Rattle.cm_language.proofs.Closure.{HasGroups}
use Rattle.cm_language.proofs.Distinct.{any-distinct}
use Rattle.cm_language.proofs.Equivalences.{group_equiv, position_equiv, reading_equiv}

filter_alike : {A : Type 0} (test other : A → Bool) → ((it : A) → test it ≡ other it) → (ones : List A)
    → filter test ones ≡ filter other ones
filter_alike test other alike ones = λ i. filter (λ it. alike it i) ones

same_number : (one other : ℕ) → (one == other) ≡ true → one ≡ other
same_number one other is = grind (arith, nat_tests, is)

one_position : (one other : Position) → is_position one other ≡ true → one ≡ other
one_position one other is =
    let command : one.command ≡ other.command =
    same_number one.command other.command (and_first (one.command == other.command) (one.step == other.step) is) in
    let step : one.step ≡ other.step =
    same_number one.step other.step (and_second (one.command == other.command) (one.step == other.step) is) in
    λ i. record { command = command i; step = step i }

pub one_group : (ones others : List Position) → is_group ones others ≡ true → ones ≡ others
one_group ones others =
    (pointwise_decides (λ one other. (
      one_position one other,
      λ same. ap (is_position one) (sym same) ∙ position_equiv.refl one,
    )) ones others).0

-- a group that is known has a number
found_at : (first : List Position) (known : List (List Position)) (group : List Position) (test : Bool)
    → is_group group first ≡ test
    → (list_any (is_group group) known ≡ true → slice_get known (number_of known group) ≡ Some group)
    → (test || list_any (is_group group) known) ≡ true
    → slice_get (first ∷ known) (cond (not test) (1 + number_of known group) 0) ≡ Some group
found_at first known group true is later has = ap Some (sym (one_group group first is))
found_at first known group false is later has =
    ap (slice_get (first ∷ known)) (one_add (number_of known group)) ∙ later has

pub number_found : (known : List (List Position)) (group : List Position) → list_any (is_group group) known ≡ true
    → slice_get known (number_of known group) ≡ Some group
number_found [] group has = absurd (true≢false (sym has))
number_found (first ∷ known) group has =
    found_at first known group (is_group group first) refl (number_found known group) has

module _ (commands : List CommandView) (ways : List Way) where
  abbrev reads : Position → Position → Bool
  reads label position = is_same_reading commands ways label position

  abbrev pub sites : List (List Position) → List Site
  sites known = map (site commands ways known) known

  -- the place of a group that is known has its positions
  pub in_place : (known : List (List Position)) (group : List Position) → list_any (is_group group) known ≡ true
      → positions_in (site_at (sites known) (Some (number_of known group))) ≡ group
  in_place known group has =
      ap positions_in (slice_get-map (site commands ways known) known (number_of known group)
      ∙ ap (option_map (site commands ways known)) (number_found known group has))

  abbrev HasEach : List (List Position) → List Position → List Position → Type 0
  HasEach known positions ones = (group : List Position)
      → list_any (is_group group) (map (group_of commands ways positions) ones) ≡ true
      → list_any (is_group group) known ≡ true

  next_at : (known : List (List Position)) (positions : List Position) (first : Position) (ones : List Position)
      (label : Position) (test : Bool) → reads label first ≡ test → HasEach known positions (first ∷ ones)
      → (HasEach known positions ones
      → positions_in (site_at (sites known) (next_place commands ways label (map (exit_of commands ways known positions) ones)))
      ≡ (if list_any (reads label) ones then filter (reads label) positions else []))
      → positions_in (site_at (sites known) (if test then Some (number_of known (group_of commands ways positions first))
      else next_place commands ways label (map (exit_of commands ways known positions) ones)))
      ≡ (if (test || list_any (reads label) ones) then filter (reads label) positions else [])
  next_at known positions first ones label true is each later =
      let group : List Position = group_of commands ways positions first in
      in_place known group (each group (ap (λ it. it || list_any (is_group group)
      (map (group_of commands ways positions) ones)) (group_equiv.refl group)))
      ∙ filter_alike (reads first) (reads label)
      (λ it. sym ((reading_equiv commands ways).congr label first it is)) positions
  next_at known positions first ones label false is each later =
      later (λ group has. each group (or_from_either (is_group group (group_of commands ways positions first)) _ (inr has)))

  next_in : (known : List (List Position)) (positions ones : List Position) (label : Position)
      → HasEach known positions ones
      → positions_in (site_at (sites known) (next_place commands ways label (map (exit_of commands ways known positions) ones)))
      ≡ (if list_any (reads label) ones then filter (reads label) positions else [])
  next_in known positions [] label each = refl
  next_in known positions (first ∷ ones) label each =
      next_at known positions first ones label (reads label first) refl each (next_in known positions ones label)

  all_or_none : (positions : List Position) (label : Position) (test : Bool) → list_any (reads label) positions ≡ test
      → (if test then filter (reads label) positions else []) ≡ filter (reads label) positions
  all_or_none positions label true is = refl
  all_or_none positions label false is = sym (filter_of_none (reads label) positions is)

  next_of : (known : List (List Position)) (at : ℕ) (label : Position) (found : Option (List Position))
      → slice_get known at ≡ found → HasGroups commands ways known at
      → positions_in (site_at (sites known) (next_place commands ways label
      (exits_in (option_map (site commands ways known) found))))
      ≡ filter (reads label) (reached ways (positions_in (option_map (site commands ways known) found)))
  next_of known at label None is all = refl
  next_of known at label (Some positions) is all =
      let next : List Position = reached ways positions in
      next_in known next (firsts commands ways next) label
      (λ group has. all group (ap (λ it. list_any (is_group group) (groups commands ways (reached ways (unwrap_or it [])))) is ∙ has))
      ∙ ap (λ it. if it then filter (reads label) next else []) (any-distinct (reading_equiv commands ways) label next)
      ∙ all_or_none next label (list_any (reads label) next) refl

  next_reads : (known : List (List Position)) → ((at : ℕ) → HasGroups commands ways known at) → (at : Option ℕ)
      (label : Position)
      → positions_in (site_at (sites known) (next_place commands ways label (exits_in (site_at (sites known) at))))
      ≡ filter (reads label) (reached ways (positions_in (site_at (sites known) at)))
  next_reads known all None label = refl
  next_reads known all (Some at) label =
      ap (λ it. positions_in (site_at (sites known) (next_place commands ways label (exits_in it))))
      (slice_get-map (site commands ways known) known at)
      ∙ next_of known at label (slice_get known at) refl (all at)
      ∙ ap (λ it. filter (reads label) (reached ways (positions_in it)))
      (sym (slice_get-map (site commands ways known) known at))

  pub line_reads : (known : List (List Position)) → ((at : ℕ) → HasGroups commands ways known at) → (at : Option ℕ)
      (labels : List Position)
      → positions_in (site_at (sites known) (place_after commands ways (sites known) at labels))
      ≡ positions_after commands ways (positions_in (site_at (sites known) at)) labels
  line_reads known all at [] = refl
  line_reads known all at (label ∷ labels) =
      line_reads known all (next_place commands ways label (exits_in (site_at (sites known) at))) labels
      ∙ ap (λ it. positions_after commands ways it labels) (next_reads known all at label)
