-- The places of a whole language.
use Rattle.std.proofs.Common.{◌≡◌, ℕ, ◌<◌, ◌≤◌, true, false, Bool, if◌then◌else◌, List, [], ◌∷◌, length, refl, ap, ◌∙◌, arith, ◌⊎◌, inl, inr, None, Some, option_map, slice_get, subst, unwrap_or, nat_lt}
use Rattle.std.proofs.lemmas.Bool.{cases_lt}
use Rattle.std.proofs.lemmas.Bool.Decides.{nat_tests}
use Rattle.std.proofs.lemmas.Option.{slice_get-map}
use Rattle.cm_synopsis.specs.CommandView.{CommandView}
use Rattle.cm_synopsis.specs.Ways.{Way}
use Rattle.cm_language.specs.Lines.{place_after, positions_after, positions_in, site_at}
use Rattle.cm_language.specs.Places.{Site, known_within, places, site, starts}
use Rattle.cm_language.specs.declared.place.Position.{Position}
use Rattle.cm_language.specs.declared.place.TheConstants.{PLACE_LIMIT}
use Rattle.cm_language.proofs.Closure.{HasGroups, followed, known_begins, no_groups}
use Rattle.cm_language.proofs.Distinct.{get_kept}
use Rattle.cm_language.proofs.Subsets.{line_reads, sites}

module _ (commands : List CommandView) (ways : List Way) where
  -- what is known has all groups, where it is no more than the limit
  by_number : (limit at : ℕ) → length (known_within limit commands ways) ≤ limit
      → (at < length (known_within limit commands ways)) ⊎ (length (known_within limit commands ways) ≤ at)
      → HasGroups commands ways (known_within limit commands ways) at
  by_number limit at few (inl within) =
      followed commands ways limit 0 (starts commands ∷ []) at (omega arith) (omega (arith, few, within))
  by_number limit at few (inr past) = no_groups commands ways (known_within limit commands ways) at past

  pub all_groups : (limit : ℕ) → length (known_within limit commands ways) ≤ limit → (at : ℕ)
      → HasGroups commands ways (known_within limit commands ways) at
  all_groups limit few at = by_number limit at few (cases_lt at (length (known_within limit commands ways)))

  pub start_known : (limit : ℕ) → slice_get (known_within limit commands ways) 0 ≡ Some (starts commands)
  start_known limit =
      get_kept (starts commands ∷ []) (known_within limit commands ways)
      (known_begins commands ways limit 0 (starts commands ∷ [])) 0 (omega arith)

  pub start_is : (limit : ℕ)
      → positions_in (site_at (sites commands ways (known_within limit commands ways)) (Some 0)) ≡ starts commands
  start_is limit =
      ap positions_in (slice_get-map (site commands ways (known_within limit commands ways)) (known_within limit commands ways) 0
      ∙ ap (option_map (site commands ways (known_within limit commands ways))) (start_known limit))

  -- the places of a language are those of what is known
  abbrev pub AreOf : List (List Position) → List Site → Type 0
  AreOf known made = (length known ≤ PLACE_LIMIT) × (sites commands ways known ≡ made)

  are_at : (known : List (List Position)) (made : List Site) (test : Bool) → nat_lt PLACE_LIMIT (length known) ≡ test
      → (if test then None else Some (sites commands ways known)) ≡ Some made → AreOf known made
  are_at known made true is same = cc
  are_at known made false is same = (grind (arith, nat_tests, is), ap (λ it. unwrap_or it []) same)

  pub are_of : (made : List Site) → places commands ways ≡ Some made
      → AreOf (known_within PLACE_LIMIT commands ways) made
  unfolding places
  are_of made same =
      are_at (known_within PLACE_LIMIT commands ways) made
      (nat_lt PLACE_LIMIT (length (known_within PLACE_LIMIT commands ways))) refl same

  line_of : (limit : ℕ) (made : List Site) → length (known_within limit commands ways) ≤ limit
      → sites commands ways (known_within limit commands ways) ≡ made → (labels : List Position)
      → positions_in (site_at made (place_after commands ways made (Some 0) labels))
      ≡ positions_after commands ways (starts commands) labels
  line_of limit made few same labels =
      subst (λ it. positions_in (site_at it (place_after commands ways it (Some 0) labels))
      ≡ positions_after commands ways (starts commands) labels) same
      (line_reads commands ways (known_within limit commands ways) (all_groups limit few) (Some 0) labels
      ∙ ap (λ it. positions_after commands ways it labels) (start_is limit))

  pub place_is_where_a_line_may_be : (made : List Site) → places commands ways ≡ Some made → (labels : List Position)
      → positions_in (site_at made (place_after commands ways made (Some 0) labels))
      ≡ positions_after commands ways (starts commands) labels
  place_is_where_a_line_may_be made same labels =
      line_of PLACE_LIMIT made (are_of made same).0 (are_of made same).1 labels
