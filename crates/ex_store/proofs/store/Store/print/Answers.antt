use Rattle.std.proofs.Common.{◌≡◌, length, ap, arith, refl, subst}
use Rattle.std.proofs.lemmas.Grind.{common_steps}
use Rattle.ex_store.specs.Plan.{sources}
use Rattle.ex_store.specs.Positions.{elements_at}
use Rattle.ex_store.specs.Selection.{is_selected_by}
use Rattle.ex_store.specs.State.{StoreWithRoom}
use Rattle.ex_store.specs.WellFormed.{IsWellFormed}
use Rattle.ex_store.proofs.PrintedLaws.{asked_is, count_is, files_are, planned_full, planned_printed, sound_printed}
use Rattle.ex_store.proofs.RemarkLaws.{positions_fit}
use Rattle.ex_store.proofs.store.Store.print.Goals as goal

pub returns-in-Err-clause-refused : goal.returns-in-Err-clause-refused
returns-in-Err-clause-refused c = λ moment.
    let files = sources c.args.files.now c.args.self.now.state in
    let items = ap (λ (held : StoreWithRoom). length held.state.queue) c.self.view_is in
    let queue : c.len.result ≡ length c.args.self.now.state.queue = grind (arith, common_steps, items, c.len.ensures) in
    planned_full c.args.self.now.state c.args.files.now c.args.request.now files c.in-Err.code moment refl
    (asked_is c.args.self.now.state c.args.files.now files c.len.result c.len-2.result c.check_limit.result _ refl queue
    (count_is c.args.self.now.state c.args.files.now c.positions-positions.result.items c.len-2.result c.len-2.ensures.value c.positions-positions.ensures)
    c.check_limit.ensures c.in-Err.is)

pub queue_files-requires-clause-within : goal.queue_files-requires-clause-within
queue_files-requires-clause-within c =
    positions_fit (is_selected_by c.args.files.now.flags.deleted c.args.files.now c.args.self.now.state) c.args.self.now.state.rows
    c.self.inside.files.rows c.deref.result.now c.positions-positions.result.items
    (ap (λ (held : StoreWithRoom). held.state.rows) c.self.view_is) c.deref.ensures.0 c.positions-positions.ensures

pub returns-in-Ok-queue_files-clause-ready : goal.returns-in-Ok-queue_files-clause-ready
returns-in-Ok-queue_files-clause-ready c = λ moment.
    let files = elements_at c.self.inside.files.rows c.deref.result.now in
    let are : files ≡ sources c.args.files.now c.args.self.now.state =
    files_are c.args.self.now.state c.args.files.now c.self.inside.files.rows c.deref.result.now c.positions-positions.result.items
    (ap (λ (held : StoreWithRoom). held.state.rows) c.self.view_is) c.deref.ensures.0 c.positions-positions.ensures in
    let items = ap (λ (held : StoreWithRoom). length held.state.queue) c.self.view_is in
    let queue : c.len.result ≡ length c.args.self.now.state.queue = grind (arith, common_steps, items, c.len.ensures) in
    planned_printed c.args.self.now.state c.args.files.now c.args.request.now files c.in-Ok-queue_files.ready tt moment are
    (asked_is c.args.self.now.state c.args.files.now files c.len.result c.len-2.result c.check_limit.result _ are queue
    (count_is c.args.self.now.state c.args.files.now c.positions-positions.result.items c.len-2.result c.len-2.ensures.value c.positions-positions.ensures)
    c.check_limit.ensures c.in-Ok.is) c.in-Ok-queue_files.ensures

pub returns-in-Ok-queue_files-clause-sound : goal.returns-in-Ok-queue_files-clause-sound
returns-in-Ok-queue_files-clause-sound c =
    let files = elements_at c.self.inside.files.rows c.deref.result.now in
    let are : files ≡ sources c.args.files.now c.args.self.now.state =
    files_are c.args.self.now.state c.args.files.now c.self.inside.files.rows c.deref.result.now c.positions-positions.result.items
    (ap (λ (held : StoreWithRoom). held.state.rows) c.self.view_is) c.deref.ensures.0 c.positions-positions.ensures in
    let items = ap (λ (held : StoreWithRoom). length held.state.queue) c.self.view_is in
    let queue : c.len.result ≡ length c.args.self.now.state.queue = grind (arith, common_steps, items, c.len.ensures) in
    let well : IsWellFormed c.args.self.now.state = subst (λ (held : StoreWithRoom). IsWellFormed held.state) c.self.view_is c.self.invariant.well in
    sound_printed c.args.self.now.state c.args.files.now c.args.request.now files c.in-Ok-queue_files.ready tt well c.requires.1 are
    (asked_is c.args.self.now.state c.args.files.now files c.len.result c.len-2.result c.check_limit.result _ are queue
    (count_is c.args.self.now.state c.args.files.now c.positions-positions.result.items c.len-2.result c.len-2.ensures.value c.positions-positions.ensures)
    c.check_limit.ensures c.in-Ok.is) c.in-Ok-queue_files.ensures
