use Rattle.std.proofs.Common.{◌-◌, length}
use Rattle.ex_store.specs.Rows.{rows_in}
use Rattle.ex_store.specs.Selection.{is_selected_by}
use Rattle.ex_store.proofs.WalkLaws.{Collects}
use Rattle.ex_store.proofs.store.Store.positions.Given as goal

abbrev pub invariant-loop-i : goal.invariant-loop-i
invariant-loop-i l =
    Collects (is_selected_by l.deleted l.files l.self.state) l.first (rows_in l.files.directory l.self.state.rows) l.positions.items l.from

abbrev pub decreases-loop-i : goal.decreases-loop-i
decreases-loop-i l = length (rows_in l.files.directory l.self.state.rows) - l.from
