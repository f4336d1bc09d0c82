use Rattle.std.proofs.Common.{◌≡◌, length, map, ap, refl, sym, ◌∙◌}
use Rattle.ex_store.specs.Positions.{positions_from}
use Rattle.ex_store.specs.Rows.{with_remark}
use Rattle.ex_store.specs.Selection.{is_selected_by}
use Rattle.ex_store.specs.State.{StoreWithRoom}
use Rattle.ex_store.proofs.RemarkLaws.{firsts_changed, leaves_selected, length-positions_from, positions_fit, changed_rows, rows_of_remark, well_formed_with_rows, where_passing}
use Rattle.ex_store.proofs.store.Store.remark.Goals as goal

pub remark_all-requires : goal.remark_all-requires
remark_all-requires c =
    positions_fit (is_selected_by c.args.files.now.flags.deleted c.args.files.now c.args.self.now.state) c.args.self.now.state.rows
    c.self.inside.files.rows c.deref.result.now c.positions-positions.result.items (ap (λ (held : StoreWithRoom). held.state.rows) c.self.view_is) c.deref.ensures.0 c.positions-positions.ensures

changed : (c : goal.After-len) → c.remark_all.new.files.rows ≡ map (where_passing (is_selected_by c.args.files.now.flags.deleted c.args.files.now c.args.self.now.state) (with_remark c.args.remark)) c.self.inside.files.rows
changed c =
    changed_rows (is_selected_by c.args.files.now.flags.deleted c.args.files.now c.args.self.now.state) c.args.remark c.self.inside.files.rows
    c.self.inside.files.rows c.remark_all.new.files.rows c.deref.result.now c.positions-positions.result.items refl c.deref.ensures.0
    (c.positions-positions.ensures ∙ ap (λ (held : StoreWithRoom). positions_from (is_selected_by c.args.files.now.flags.deleted c.args.files.now c.args.self.now.state) 0 held.state.rows) (sym c.self.view_is))
    c.remark_all.ensures.rows

pub invariant_of-self : goal.invariant_of-self
invariant_of-self c =
    let test = is_selected_by c.args.files.now.flags.deleted c.args.files.now c.args.self.now.state in
    let state = c.self.inside in
    rw (changed c) (record {
      well = well_formed_with_rows _ _ c.self.invariant.well
          (rows_of_remark state.directories.list state.files.rows test c.args.remark c.requires c.self.invariant.well.draft.rows);
      places = c.self.invariant.places ∙ firsts_changed state.directories.list (where_passing test (with_remark c.args.remark)) (leaves_selected test c.args.remark) state.files.rows;
    })

pub returns-clause-changed : goal.returns-clause-changed
returns-clause-changed c = rw (changed c, c.remark_all.ensures.rooms, ← c.self.view_is)

pub returns-clause-count : goal.returns-clause-count
returns-clause-count c =
    c.len.ensures.value
    ∙ (ap length c.positions-positions.ensures
    ∙ length-positions_from (is_selected_by c.args.files.now.flags.deleted c.args.files.now c.args.self.now.state) 0 c.args.self.now.state.rows)
