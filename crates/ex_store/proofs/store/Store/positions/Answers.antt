use Rattle.std.proofs.Common.{◌≡◌, ◌+◌, ◌<◌, length, ap, arith, sym, subst, ◌∙◌}
use Rattle.ex_store.specs.Positions.{positions_from}
use Rattle.ex_store.specs.Rows.{first_in, rows_in}
use Rattle.ex_store.specs.Selection.{is_selected_by}
use Rattle.ex_store.specs.WellFormed.{IsWellFormed}
use Rattle.ex_store.proofs.WalkLaws.{block_few, collects_all, collects_more, collects_none, collects_within, nowhere_selected, positions_selected}
use Rattle.ex_store.proofs.store.Store.positions.Goals as goal

-- what the steps before each push give
bounds : (c : goal.After-positions-1)
    → (length c.loop-i.positions.items < 4096) × (c.first_of-first.result + c.in-Some-next_selected.i < 4096)
bounds c =
    let state = c.args.self.now.state in
    let directory = c.args.files.now.directory in
    let rows = rows_in directory state.rows in
    let well = subst (λ held. IsWellFormed held.state) c.self.view_is c.self.invariant.well in
    let few = block_few state well directory in
    let first : c.first_of-first.result ≡ first_in directory state.rows =
    c.first_of-first.ensures ∙ ap (λ text. first_in text c.self.inside.files.rows) c.as_bytes.ensures.value
    ∙ ap (first_in directory) (ap (λ held. held.state.rows) c.self.view_is) in
    let within = collects_within (is_selected_by c.args.deleted c.args.files.now state) c.first_of-first.result rows
    c.loop-i.positions.items c.loop-i.from c.in-Some-next_selected.i c.loop-i.invariant (sym c.in-Some-next_selected.is ∙ c.next_selected.ensures) in
    let low = within.0 in
    let high = within.1 in
    let size = c.loop-i.invariant.few in
    (omega arith, omega arith)

-- src/selection.rt:36:9
pub loop-i-init : goal.loop-i-init
loop-i-init c =
    collects_none (is_selected_by c.args.deleted c.args.files.now c.args.self.now.state) c.first_of-first.result
    (rows_in c.args.files.now.directory c.args.self.now.state.rows) c.new-positions.result.items c.new-positions.ensures

-- src/selection.rt:37:29
pub overflow_add-first : goal.overflow_add-first
overflow_add-first c = let within = (bounds c).1 in omega arith

-- src/selection.rt:37:28
pub overflow_cast-first : goal.overflow_cast-first
overflow_cast-first c = let within = (bounds c).1 in omega arith

-- src/selection.rt:37:13
pub push-requires : goal.push-requires
push-requires c = (omega arith, (bounds c).0)

-- src/selection.rt:38:20
pub overflow_add-from : goal.overflow_add-from
overflow_add-from c =
    let well = subst (λ held. IsWellFormed held.state) c.self.view_is c.self.invariant.well in
    let few = block_few c.args.self.now.state well c.args.files.now.directory in
    let within = collects_within (is_selected_by c.args.deleted c.args.files.now c.args.self.now.state) c.first_of-first.result
    (rows_in c.args.files.now.directory c.args.self.now.state.rows)
    c.loop-i.positions.items c.loop-i.from c.in-Some-next_selected.i c.loop-i.invariant (sym c.in-Some-next_selected.is ∙ c.next_selected.ensures) in
    let high = within.1 in
    omega arith

-- src/selection.rt:36:9
pub loop-i-smaller : goal.loop-i-smaller
loop-i-smaller c =
    let within = collects_within (is_selected_by c.args.deleted c.args.files.now c.args.self.now.state) c.first_of-first.result
    (rows_in c.args.files.now.directory c.args.self.now.state.rows)
    c.loop-i.positions.items c.loop-i.from c.in-Some-next_selected.i c.loop-i.invariant (sym c.in-Some-next_selected.is ∙ c.next_selected.ensures) in
    let low = within.0 in
    let high = within.1 in
    omega arith

-- src/selection.rt:36:9
pub loop-i-preserved : goal.loop-i-preserved
loop-i-preserved c =
    collects_more (is_selected_by c.args.deleted c.args.files.now c.args.self.now.state) c.first_of-first.result
    (rows_in c.args.files.now.directory c.args.self.now.state.rows)
    c.loop-i.positions.items c.push.new.self.items c.loop-i.from c.in-Some-next_selected.i c.loop-i.invariant
    (sym c.in-Some-next_selected.is ∙ c.next_selected.ensures) c.push.ensures.items

-- src/selection.rt:28:5
pub returns : goal.returns
returns c =
    let state = c.args.self.now.state in
    let directory = c.args.files.now.directory in
    let well = subst (λ held. IsWellFormed held.state) c.self.view_is c.self.invariant.well in
    let first : c.first_of-first.result ≡ first_in directory state.rows =
    c.first_of-first.ensures ∙ ap (λ text. first_in text c.self.inside.files.rows) c.as_bytes.ensures.value
    ∙ ap (first_in directory) (ap (λ held. held.state.rows) c.self.view_is) in
    let test = is_selected_by c.args.deleted c.args.files.now state in
    collects_all test c.first_of-first.result (rows_in directory state.rows) c.loop-i.positions.items c.loop-i.from c.loop-i.invariant
    (sym c.in_default-next_selected.is ∙ c.next_selected.ensures)
    ∙ ap (λ at. positions_from test at (rows_in directory state.rows)) first
    ∙ sym (positions_selected state well c.args.deleted c.args.files.now)

-- src/selection.rt:49:13
pub returns-in_default : goal.returns-in_default
returns-in_default c =
    let state = c.args.self.now.state in
    let well = subst (λ held. IsWellFormed held.state) c.self.view_is c.self.invariant.well in
    c.new-positions.ensures
    ∙ sym (nowhere_selected state well c.args.deleted c.args.files.now
    (ap (λ text. rows_in text state.rows) (sym c.as_str.ensures.value) ∙ c.in_default.ensures))
