-- Once enough places were followed, all groups behind a place are known.
use Rattle.std.proofs.Common.{◌≡◌, ℕ, zero, suc, ◌+◌, ◌<◌, ◌≤◌, true, List, [], length, refl, sym, ap, ◌∙◌, arith, ◌⊎◌, inl, inr, unwrap_or, subst}
use Rattle.std.specs.List.{list_any}
use Rattle.std.proofs.Math.Nat.{eq-or-lt_of_le}
use Rattle.std.proofs.lemmas.Bool.{cases_lt, true≢false}
use Rattle.std.proofs.lemmas.Option.{slice_get_past}
use Rattle.cm_lists.proofs.Bools.{or_from_either}
use Rattle.cm_synopsis.specs.CommandView.{CommandView}
use Rattle.cm_synopsis.specs.Ways.{Way}
use Rattle.cm_language.specs.Groups.{groups, is_group, reached}
use Rattle.cm_language.specs.Places.{known_after, positions_at, with_groups}
use Rattle.cm_language.specs.declared.place.Position.{Position}
use Rattle.cm_language.proofs.Distinct.{Begins, any-fold_new, any_kept, begins_on, begins_own, fold_begins, get_kept}
use Rattle.cm_language.proofs.Equivalences.{group_equiv}

module _ (commands : List CommandView) (ways : List Way) where
  pub known_begins : (more at : ℕ) (known : List (List Position))
      → Begins known (known_after commands ways more at known)
  unfolding known_after
  known_begins zero at known = begins_own known
  known_begins (suc more) at known =
      begins_on known (with_groups commands ways known (positions_at known at)) _
      (fold_begins is_group known (groups commands ways (reached ways (positions_at known at))))
      (known_begins more (at + 1) (with_groups commands ways known (positions_at known at)))

  positions_past : (known : List (List Position)) (at : ℕ) → length known ≤ at → positions_at known at ≡ []
  positions_past known at past = ap (λ it. unwrap_or it []) (slice_get_past known at past)

  positions_kept : (known more : List (List Position)) (at : ℕ) → Begins known more → at < length known
      → positions_at more at ≡ positions_at known at
  positions_kept known more at begins within = ap (λ it. unwrap_or it []) (get_kept known more begins at within)

  -- behind the last place nothing is added
  stuck : (more at : ℕ) (known : List (List Position)) → length known ≤ at
      → known_after commands ways more at known ≡ known
  unfolding known_after
  stuck zero at known past = refl
  stuck (suc more) at known past =
      ap (λ it. known_after commands ways more (at + 1) (with_groups commands ways known it)) (positions_past known at past)
      ∙ stuck more (at + 1) known (omega (arith, past))

  -- all groups behind a place are known
  abbrev pub HasGroups : List (List Position) → ℕ → Type 0
  HasGroups known at = (group : List Position)
      → list_any (is_group group) (groups commands ways (reached ways (positions_at known at))) ≡ true
      → list_any (is_group group) known ≡ true

  pub no_groups : (known : List (List Position)) (at : ℕ) → length known ≤ at → HasGroups known at
  no_groups known at past group has =
      absurd (true≢false (sym has ∙ ap (λ it. list_any (is_group group) (groups commands ways (reached ways it)))
      (positions_past known at past)))

  first_groups : (more at : ℕ) (known : List (List Position)) → at < length known
      → HasGroups (known_after commands ways (suc more) at known) at
  unfolding known_after
  first_groups more at known within group has =
      let next : List (List Position) = with_groups commands ways known (positions_at known at) in
      let same : positions_at (known_after commands ways (suc more) at known) at ≡ positions_at known at =
      positions_kept known (known_after commands ways (suc more) at known) at (known_begins (suc more) at known) within in
      let found : list_any (is_group group) (groups commands ways (reached ways (positions_at known at))) ≡ true =
      sym (ap (λ it. list_any (is_group group) (groups commands ways (reached ways it))) same) ∙ has in
      any_kept (is_group group) next (known_after commands ways more (at + 1) next) (known_begins more (at + 1) next)
      (any-fold_new group_equiv group known (groups commands ways (reached ways (positions_at known at)))
      ∙ or_from_either (list_any (is_group group) known) _ (inr found))

  here : (more at : ℕ) (known : List (List Position)) → (at < length known) ⊎ (length known ≤ at)
      → HasGroups (known_after commands ways (suc more) at known) at
  here more at known (inl within) = first_groups more at known within
  here more at known (inr past) =
      no_groups (known_after commands ways (suc more) at known) at
      (let same : length (known_after commands ways (suc more) at known) ≡ length known =
      ap length (stuck (suc more) at known past) in
      omega (arith, past, same))

  by_place : (more at : ℕ) (known : List (List Position)) (place : ℕ) → (at ≡ place) ⊎ (at < place)
      → (at < place → HasGroups (known_after commands ways (suc more) at known) place)
      → HasGroups (known_after commands ways (suc more) at known) place
  by_place more at known place (inl same) after =
      subst (λ it. HasGroups (known_after commands ways (suc more) at known) it) same
      (here more at known (cases_lt at (length known)))
  by_place more at known place (inr later) after = after later

  pub followed : (more at : ℕ) (known : List (List Position)) (place : ℕ) → at ≤ place → place < at + more
      → HasGroups (known_after commands ways more at known) place
  unfolding known_after
  followed zero at known place from to = absurd (omega (arith, from, to))
  followed (suc more) at known place from to =
      by_place more at known place (eq-or-lt_of_le from)
      (λ later. followed more (at + 1) (with_groups commands ways known (positions_at known at)) place
      (omega (arith, later)) (omega (arith, to)))
