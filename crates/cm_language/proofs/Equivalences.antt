-- To read the same, and to be one, are equivalences.
use Rattle.std.proofs.Common.{ℕ, List}
use Rattle.std.specs.Cmp.{IsEquivalence}
use Rattle.std.specs.Cmp.Lexicographic.{options_equiv}
use Rattle.std.proofs.lemmas.Cmp.{and_equiv, lists_equiv, nat_eq_equiv, nat_list_eq_equiv, on_equiv}
use Rattle.cm_synopsis.specs.CommandView.{CommandView}
use Rattle.cm_synopsis.specs.Ways.{Way}
use Rattle.cm_language.specs.Groups.{is_group, is_position}
use Rattle.cm_language.specs.Readings.{is_same_kind, is_same_pair, is_same_part, is_same_reading, kind_detail, kind_number, part_kinds, part_name, part_number, part_of, range_of}
use Rattle.cm_language.specs.declared.place.Position.{Position}

kind_equiv : IsEquivalence is_same_kind
kind_equiv = and_equiv (on_equiv kind_number nat_eq_equiv) (on_equiv kind_detail nat_eq_equiv)

part_equiv : IsEquivalence is_same_part
part_equiv =
    and_equiv (on_equiv part_number nat_eq_equiv)
    (and_equiv (on_equiv part_name nat_list_eq_equiv) (on_equiv part_kinds (lists_equiv kind_equiv)))

pair_equiv : IsEquivalence is_same_pair
pair_equiv = and_equiv (on_equiv (λ (range : ℕ × ℕ). range.0) nat_eq_equiv) (on_equiv (λ (range : ℕ × ℕ). range.1) nat_eq_equiv)

pub reading_equiv : (commands : List CommandView) (ways : List Way) → IsEquivalence (is_same_reading commands ways)
unfolding is_same_reading
reading_equiv commands ways =
    and_equiv (on_equiv (range_of ways) (options_equiv pair_equiv))
    (on_equiv (part_of commands ways) (options_equiv part_equiv))

pub position_equiv : IsEquivalence is_position
position_equiv =
    and_equiv (on_equiv (λ (it : Position). it.command) nat_eq_equiv) (on_equiv (λ (it : Position). it.step) nat_eq_equiv)

pub group_equiv : IsEquivalence is_group
group_equiv = lists_equiv position_equiv
