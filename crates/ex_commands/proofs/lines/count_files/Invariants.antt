-- The files from here on are left to be counted.
use Rattle.std.proofs.Common.{◌≡◌, ◌+◌, ◌≤◌, true, filter, length}
use Rattle.std.specs.List.{list_all}
use Rattle.ex_store.specs.declared.limits.TheConstants.{ROW_LIMIT}
use Rattle.ex_store.specs.Plan.{sources}
use Rattle.ex_store.specs.WellFormed.{is_row_among}
use Rattle.ex_commands.specs.Replies.{is_within}
use Rattle.ex_commands.proofs.lines.count_files.Given as goal

abbrev pub invariant-loop-row : goal.invariant-loop-row
invariant-loop-row l = record {
  counted : l.count + length (filter (is_within l.days) l.row-iterator)
      ≡ length (filter (is_within l.days) (sources l.files l.store.state));
  few : l.count + length l.row-iterator ≤ ROW_LIMIT;
  lawful : list_all (is_row_among l.store.state.directories) l.row-iterator ≡ true;
}
