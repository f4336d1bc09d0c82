use Rattle.std.proofs.Common.{◌≡◌, ℕ, ◌+◌, ◌*◌, ◌^◌, ◌≤◌, Bool, true, false, cond, ltb, List, length, Option, Some, None, arith, refl}
use Rattle.std.proofs.lemmas.Bool.Decides.{nat_tests}
use Rattle.std.proofs.Math.Pow.{pow_mono}
use Rattle.cm_tables.specs.Order.{table_fault}
use Rattle.cm_tables.specs.declared.entry.Entry.{Entry}
use Rattle.cm_tables.specs.declared.fault.TheConstants.{ENTRY_LIMIT}
use Rattle.cm_tables.specs.declared.table.TableFault.{TableFault}
use Rattle.cm_tables.specs.declared.table.TableFault.TheVariants.{TooMany}
use Rattle.cm_tables.proofs.laws.a_look_up_asks_11_times.Goals as goal

few_entries : (table : List Entry) → table_fault table ≡ None → length table ≤ 2047
unfolding table_fault
few_entries table none = by (ltb ENTRY_LIMIT (length table)) refl _ none
  where
    by : (over : Bool) → ltb ENTRY_LIMIT (length table) ≡ over → (rest : Option TableFault)
        → cond over (Some TooMany) rest ≡ None → length table ≤ 2047
    by true is rest none = cc
    by false is rest none = grind (arith, nat_tests)

few_digits : (probes size : ℕ) → size ≤ 2047 → 2 ^ probes ≤ 2 * size + 1 → probes ≤ 11
few_digits probes size most few = by (ltb 11 probes) refl
  where
    by : (over : Bool) → ltb 11 probes ≡ over → probes ≤ 11
    by true is =
        let more : 12 ≤ probes = grind (arith, nat_tests) in
        let least : 2 ^ 12 ≤ 2 ^ probes = pow_mono more in
        absurd (omega (arith, least))
    by false is = grind (arith, nat_tests)

pub returns : goal.returns
returns c = λ table probes none few. few_digits probes (length table) (few_entries table none) few
