use Rattle.std.proofs.Common.{◌≡◌, ℕ, List, Option, Result, Some, ap, refl, subst, sym}
use Rattle.std.specs.Result.{IfOk}
use Rattle.std.proofs.lemmas.Result.{IfErr-weaker, IfOk-weaker}
use Rattle.cm_fields.specs.declared.code.Code.{Code}
use Rattle.ex_generations.specs.declared.file.Remark.TheVariants as remarks
use Rattle.ex_store.specs.declared.directory.Directory.{Directory}
use Rattle.ex_store.specs.declared.place.Place.{Place}
use Rattle.ex_store.specs.declared.plan.Refusal.{Refusal}
use Rattle.ex_store.specs.declared.ready.Reading.{Reading}
use Rattle.ex_store.specs.declared.row.Row.{Row}
use Rattle.ex_store.specs.Adding.{Outcome}
use Rattle.ex_store.specs.Appending.{appended}
use Rattle.ex_store.specs.Copying.{moment_of}
use Rattle.ex_store.specs.Plan.{planned}
use Rattle.ex_store.specs.Positions.{elements_at}
use Rattle.ex_store.specs.Ready.{Change, IsMade, rows_read}
use Rattle.ex_store.specs.Rows.{AreAlike}
use Rattle.ex_store.specs.Selection.{is_selected_by}
use Rattle.ex_store.specs.State.{StoreWithRoom, retention_of}
use Rattle.ex_store.specs.WellFormed.{AreRows, IsWellFormed}
use Rattle.ex_store.proofs.AlikeLaws.{alike_read}
use Rattle.ex_store.proofs.AllCopiedLaws.{moment_within}
use Rattle.ex_store.proofs.BuiltLaws.{retention_within}
use Rattle.ex_store.proofs.RemarkLaws.{positions_fit, rows_of_remark}
use Rattle.ex_store.proofs.PlannedLaws.{IsOver, doable_by, is_over, made_by, refused_by, sound_by}
use Rattle.ex_store.proofs.store.Store.append.Goals as goal

pub appends-requires-clause-within : goal.appends-requires-clause-within
appends-requires-clause-within c =
    positions_fit (is_selected_by c.args.from.now.flags.deleted c.args.from.now c.args.self.now.state) c.args.self.now.state.rows
    c.self.inside.files.rows c.deref.result.now c.positions-positions.result.items
    (ap (λ (held : StoreWithRoom). held.state.rows) c.self.view_is) c.deref.ensures.0 c.positions-positions.ensures

pub appends-requires-clause-retention : goal.appends-requires-clause-retention
appends-requires-clause-retention c = retention_within c.args.to.now.directory c.self.inside.directories.list c.self.invariant.well.draft.directories_within

pub appends-requires-clause-reading : goal.appends-requires-clause-reading
appends-requires-clause-reading c = rw c.moment_of.ensures (moment_within c.args.moment)

over : (c : goal.After-appends) → IsOver c.args.self.now.state c.args.from.now c.self.inside.directories.list (elements_at c.self.inside.files.rows c.deref.result.now) c.self.inside.files.rows
over c =
    is_over c.args.self.now.state c.args.from.now c.self.inside.directories.list c.self.inside.files.rows c.deref.result.now c.positions-positions.result.items
    (ap (λ (held : StoreWithRoom). held.state.directories) c.self.view_is)
    (ap (λ (held : StoreWithRoom). held.state.rows) c.self.view_is) c.deref.ensures.0 c.positions-positions.ensures

-- an appending, of any directories, sources and rows
abbrev appends : ℕ → Place → List Directory → List Row → List Row → Result Outcome Code
appends moment to directories taken rows = appended (retention_of to.directory directories) moment to taken rows

-- the sources are read at the moment of the line
abbrev reading : ℕ → Place → Option Reading
reading moment from = Some (record { files = from; moment = moment_of moment })

-- the rows, when they are read, are the same rows, and those of a store
alike : (c : goal.After-appends) → AreAlike c.self.inside.files.rows (rows_read (reading c.args.moment c.args.from.now) c.args.self.now.state)
alike c =
    subst (λ (rows : List Row). AreAlike rows (rows_read (reading c.args.moment c.args.from.now) c.args.self.now.state)) (sym (over c).rows_are)
    (alike_read (is_selected_by c.args.from.now.flags.deleted c.args.from.now c.args.self.now.state) (moment_of c.args.moment) c.args.self.now.state.rows)

are : (c : goal.After-appends) → AreRows c.self.inside.directories.list (rows_read (reading c.args.moment c.args.from.now) c.args.self.now.state)
are c =
    rows_of_remark c.self.inside.directories.list c.args.self.now.state.rows (is_selected_by c.args.from.now.flags.deleted c.args.from.now c.args.self.now.state)
    (remarks.Read (moment_of c.args.moment)) (moment_within c.args.moment)
    (subst (λ (rows : List Row). AreRows c.self.inside.directories.list rows) (over c).rows_are c.self.invariant.well.draft.rows)

-- what is made of them
made : (c : goal.After-appends) → IfOk c.appends.result (λ (ready : Change). IsMade c.self.inside.directories.list (rows_read (reading c.args.moment c.args.from.now) c.args.self.now.state)
    (appends c.args.moment c.args.to.now c.self.inside.directories.list (elements_at c.self.inside.files.rows c.deref.result.now) (rows_read (reading c.args.moment c.args.from.now) c.args.self.now.state))
    (reading c.args.moment c.args.from.now) ready)
made c =
    let reading_is : record { files = c.copy.result; moment = c.moment_of.result } ≡ record { files = c.args.from.now; moment = moment_of c.args.moment } =
    rw (c.copy.ensures, c.moment_of.ensures) refl in
    subst (λ (it : Reading). IfOk c.appends.result (λ (ready : Change). IsMade c.self.inside.directories.list (rows_read (reading c.args.moment c.args.from.now) c.args.self.now.state)
    (appends c.args.moment c.args.to.now c.self.inside.directories.list (elements_at c.self.inside.files.rows c.deref.result.now) (rows_read (reading c.args.moment c.args.from.now) c.args.self.now.state))
    (Some it) ready)) reading_is
    (c.appends.ensures.made (rows_read (reading c.args.moment c.args.from.now) c.args.self.now.state) (alike c) (are c))

pub returns-clause-ready : goal.returns-clause-ready
unfolding planned
returns-clause-ready c =
    IfOk-weaker c.appends.result _ _ (λ (ready : Change) made.
    made_by (appends c.args.moment c.args.to.now) c.args.self.now.state c.args.from.now (reading c.args.moment c.args.from.now) c.self.inside.directories.list _ c.self.inside.files.rows ready (over c) made)
    (made c)

pub returns-clause-sound : goal.returns-clause-sound
returns-clause-sound c =
    let well = subst (λ (held : StoreWithRoom). IsWellFormed held.state) c.self.view_is c.self.invariant.well in
    IfOk-weaker c.appends.result _ _ (λ (ready : Change) made.
    sound_by (appends c.args.moment c.args.to.now) c.args.self.now.state c.args.from.now (reading c.args.moment c.args.from.now) c.self.inside.directories.list _ c.self.inside.files.rows ready (over c) well made)
    (made c)

pub returns-clause-doable : goal.returns-clause-doable
returns-clause-doable c =
    IfOk-weaker c.appends.result _ _ (λ (ready : Change) made.
    doable_by (appends c.args.moment c.args.to.now) c.args.self.now.state (reading c.args.moment c.args.from.now) c.self.inside.directories.list _ ready made)
    (made c)

pub returns-clause-refused : goal.returns-clause-refused
unfolding planned
returns-clause-refused c =
    IfErr-weaker c.appends.result _ _ (λ (refusal : Refusal) refused.
    refused_by (appends c.args.moment c.args.to.now) c.args.self.now.state c.args.from.now c.self.inside.directories.list _ c.self.inside.files.rows
    (rows_read (reading c.args.moment c.args.from.now) c.args.self.now.state) refusal (over c) refused)
    (c.appends.ensures.refused (rows_read (reading c.args.moment c.args.from.now) c.args.self.now.state) (alike c) (are c))
