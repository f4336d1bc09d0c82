-- Where exits lead, and that places differ.
use Rattle.std.proofs.Common.{◌≡◌, ℕ, zero, suc, true, Bool, List, [], ◌∷◌, refl, sym, ap, ◌∙◌, inl, inr, Option, None, Some, option_map, slice_get, subst, unwrap_or}
use Rattle.std.specs.List.{list_any}
use Rattle.std.proofs.lemmas.Option.{slice_get-map}
use Rattle.cm_lists.proofs.Bools.{or_from_either}
use Rattle.cm_synopsis.specs.CommandView.{CommandView}
use Rattle.cm_synopsis.specs.Ways.{Way}
use Rattle.cm_language.specs.Groups.{firsts, group_of, groups, is_group, reached}
use Rattle.cm_language.specs.Lines.{positions_in, site_at}
use Rattle.cm_language.specs.Places.{Site, exit_of, known_within, places, site}
use Rattle.cm_language.specs.declared.place.Exit.{Exit}
use Rattle.cm_language.specs.declared.place.Position.{Position}
use Rattle.cm_language.specs.declared.place.TheConstants.{PLACE_LIMIT}
use Rattle.cm_language.proofs.Closure.{HasGroups}
use Rattle.cm_language.proofs.Equivalences.{group_equiv}
use Rattle.cm_language.proofs.Languages.{all_groups, are_of}
use Rattle.cm_language.proofs.Subsets.{in_place, sites}

pub any_of_get : {A : Type 0} (test : A → Bool) (ones : List A) (at : ℕ) (one : A) → slice_get ones at ≡ Some one
    → test one ≡ true → list_any test ones ≡ true
any_of_get test [] at one got is = cc
any_of_get test (first ∷ ones) zero one got is =
    or_from_either (test first) (list_any test ones) (inl (ap (λ it. test (unwrap_or it first)) got ∙ is))
any_of_get test (first ∷ ones) (suc at) one got is =
    or_from_either (test first) (list_any test ones) (inr (any_of_get test ones at one got is))

module _ (commands : List CommandView) (ways : List Way) where
  first_leads : (known : List (List Position)) (next : List Position) (number : ℕ) (exit : Exit) (found : Option Position)
      → ((group : List Position) → list_any (is_group group) (groups commands ways next) ≡ true
      → list_any (is_group group) known ≡ true)
      → slice_get (firsts commands ways next) number ≡ found
      → option_map (exit_of commands ways known next) found ≡ Some exit
      → positions_in (site_at (sites commands ways known) (Some exit.place)) ≡ group_of commands ways next exit.position
  first_leads known next number exit None all is same = cc
  first_leads known next number exit (Some first) all is same =
      let group : List Position = group_of commands ways next first in
      let got : slice_get (groups commands ways next) number ≡ Some group =
      slice_get-map (group_of commands ways next) (firsts commands ways next) number
      ∙ ap (option_map (group_of commands ways next)) is in
      subst (λ it. positions_in (site_at (sites commands ways known) (Some it.place))
      ≡ group_of commands ways next it.position) (ap (λ it. unwrap_or it exit) same)
      (in_place commands ways known group
      (all group (any_of_get (is_group group) (groups commands ways next) number group got (group_equiv.refl group))))

  exit_leads : (known : List (List Position)) (at number : ℕ) (place : Site) (exit : Exit)
      (found : Option (List Position)) → HasGroups commands ways known at → slice_get known at ≡ found
      → option_map (site commands ways known) found ≡ Some place → slice_get place.exits number ≡ Some exit
      → positions_in (site_at (sites commands ways known) (Some exit.place))
      ≡ group_of commands ways (reached ways place.positions) exit.position
  exit_leads known at number place exit None all is same got = cc
  exit_leads known at number place exit (Some positions) all is same got =
      let next : List Position = reached ways positions in
      subst (λ it. slice_get it.exits number ≡ Some exit
      → positions_in (site_at (sites commands ways known) (Some exit.place))
      ≡ group_of commands ways (reached ways it.positions) exit.position) (ap (λ it. unwrap_or it place) same)
      (λ own. first_leads known next number exit (slice_get (firsts commands ways next) number)
      (λ group has. all group
      (ap (λ it. list_any (is_group group) (groups commands ways (reached ways (unwrap_or it [])))) is ∙ has))
      refl (sym (slice_get-map (exit_of commands ways known next) (firsts commands ways next) number) ∙ own)) got

  exit_of_known : (known : List (List Position)) (made : List Site) → ((at : ℕ) → HasGroups commands ways known at)
      → sites commands ways known ≡ made → (at number : ℕ) (place : Site) (exit : Exit)
      → slice_get made at ≡ Some place → slice_get place.exits number ≡ Some exit
      → positions_in (site_at made (Some exit.place))
      ≡ group_of commands ways (reached ways place.positions) exit.position
  exit_of_known known made all same at number place exit got own =
      ap (λ it. positions_in (site_at it (Some exit.place))) (sym same)
      ∙ exit_leads known at number place exit (slice_get known at) (all at) refl
      (sym (slice_get-map (site commands ways known) known at) ∙ ap (λ it. slice_get it at) same ∙ got) own

  pub exit_leads_to_its_group : (made : List Site) → places commands ways ≡ Some made
      → (at number : ℕ) → (place : Site) → (exit : Exit)
      → slice_get made at ≡ Some place → slice_get place.exits number ≡ Some exit
      → positions_in (site_at made (Some exit.place))
      ≡ group_of commands ways (reached ways place.positions) exit.position
  exit_leads_to_its_group made same =
      exit_of_known (known_within PLACE_LIMIT commands ways) made
      (all_groups commands ways PLACE_LIMIT (are_of commands ways made same).0) (are_of commands ways made same).1
