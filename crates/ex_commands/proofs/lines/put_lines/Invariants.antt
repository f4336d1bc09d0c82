-- The lines of the files from here on are left to be written.
-- A for over Selection: next_gives is YieldsFirstBy, and the invariant speaks of the rows left as l.row-iterator.
use Rattle.std.proofs.Common.{◌≡◌, true}
use Rattle.std.specs.List.{flat_map, list_all}
use Rattle.cm_io.proofs.Texts.{Left}
use Rattle.ex_store.specs.Plan.{sources}
use Rattle.ex_store.specs.WellFormed.{is_row_among}
use Rattle.ex_commands.specs.Replies.{line_of}
use Rattle.ex_commands.proofs.lines.put_lines.Given as goal

abbrev pub invariant-loop-row : goal.invariant-loop-row
invariant-loop-row g l = record {
  left : Left g.S.Sink l.fn.out l.out (flat_map (line_of l.lines) l.row-iterator)
      (flat_map (line_of l.lines) (sources l.files l.store.state));
  lawful : list_all (is_row_among l.store.state.directories) l.row-iterator ≡ true;
}
