use Rattle.std.proofs.Common.{◌≡◌, true, List, None, Result, ap, subst}
use Rattle.std.proofs.lemmas.Result.{IfErr-weaker, IfOk-weaker}
use Rattle.cm_fields.specs.declared.code.Code.{Code}
use Rattle.cm_lists.specs.Ascent.{ascends}
use Rattle.ex_store.specs.declared.directory.Directory.{Directory}
use Rattle.ex_store.specs.declared.place.Place.{Place}
use Rattle.ex_store.specs.declared.plan.Refusal.{Refusal}
use Rattle.ex_store.specs.declared.row.Row.{Row}
use Rattle.ex_store.specs.Adding.{Outcome}
use Rattle.ex_store.specs.Plan.{IsRefused, planned}
use Rattle.ex_store.specs.Positions.{elements_at}
use Rattle.ex_store.specs.Ready.{Change, IsMade}
use Rattle.ex_store.specs.Renaming.{all_renamed}
use Rattle.ex_store.specs.Rows.{by_row}
use Rattle.ex_store.specs.Selection.{is_selected_by}
use Rattle.ex_store.specs.State.{StoreWithRoom}
use Rattle.ex_store.specs.WellFormed.{IsWellFormed}
use Rattle.ex_store.proofs.WalkLaws.{all_selected_in}
use Rattle.ex_store.proofs.RemarkLaws.{positions_fit}
use Rattle.ex_store.proofs.PlannedLaws.{IsOver, doable_by, is_over, made_by, refused_by, sound_by}
use Rattle.ex_store.proofs.AllRenamedLaws.{distinct_selected}
use Rattle.ex_store.proofs.store.Store.rename.Goals as goal
use Rattle.ex_store.proofs.store.Store.rename.Goals.{After-as_bytes}

pub renames-requires-clause-within : goal.renames-requires-clause-within
renames-requires-clause-within c =
    positions_fit (is_selected_by c.args.from.now.flags.deleted c.args.from.now c.args.self.now.state) c.args.self.now.state.rows
    c.self.inside.files.rows c.deref.result.now c.positions-positions.result.items
    (ap (λ (held : StoreWithRoom). held.state.rows) c.self.view_is) c.deref.ensures.0 c.positions-positions.ensures

over : (c : After-as_bytes) → IsOver c.args.self.now.state c.args.from.now c.self.inside.directories.list (elements_at c.self.inside.files.rows c.deref.result.now) c.self.inside.files.rows
over c =
    is_over c.args.self.now.state c.args.from.now c.self.inside.directories.list c.self.inside.files.rows c.deref.result.now c.positions-positions.result.items
    (ap (λ (held : StoreWithRoom). held.state.directories) c.self.view_is)
    (ap (λ (held : StoreWithRoom). held.state.rows) c.self.view_is) c.deref.ensures.0 c.positions-positions.ensures

pub renames-requires-clause-inside : goal.renames-requires-clause-inside
renames-requires-clause-inside c =
    rw ((over c).sources_are, c.as_bytes.ensures.value)
    (all_selected_in c.args.from.now.flags.deleted c.args.from.now c.args.self.now.state c.args.self.now.state.rows)

pub renames-requires-clause-distinct : goal.renames-requires-clause-distinct
renames-requires-clause-distinct c =
    rw (over c).sources_are
    (distinct_selected (is_selected_by c.args.from.now.flags.deleted c.args.from.now c.args.self.now.state) c.args.self.now.state.rows
    (subst (λ (held : StoreWithRoom). ascends by_row held.state.rows ≡ true) c.self.view_is c.self.invariant.well.draft.rows.ascend))

-- a renaming, of any directories, sources and rows
abbrev rename : Place → List Directory → List Row → List Row → Result Outcome Code
rename to directories taken rows = all_renamed to taken rows

-- what is made of the rows that the code has is made of those of the state
made_there : (c : After-as_bytes) (ready : Change)
    → IsMade c.self.inside.directories.list c.self.inside.files.rows (all_renamed c.args.to.now (elements_at c.self.inside.files.rows c.deref.result.now) c.self.inside.files.rows) None ready
    → IsMade c.self.inside.directories.list c.args.self.now.state.rows (all_renamed c.args.to.now (elements_at c.self.inside.files.rows c.deref.result.now) c.args.self.now.state.rows) None ready
made_there c ready made =
    subst (λ (rows : List Row). IsMade c.self.inside.directories.list rows (all_renamed c.args.to.now (elements_at c.self.inside.files.rows c.deref.result.now) rows) None ready)
    (over c).rows_are made

pub returns-clause-ready : goal.returns-clause-ready
unfolding planned
returns-clause-ready c =
    IfOk-weaker c.renames.result _ _ (λ (ready : Change) made moment.
    made_by (rename c.args.to.now) c.args.self.now.state c.args.from.now None c.self.inside.directories.list _ c.self.inside.files.rows ready (over (goal.at.returns-clause-ready c).After-as_bytes)
    (made_there (goal.at.returns-clause-ready c).After-as_bytes ready made))
    c.renames.ensures.made

pub returns-clause-sound : goal.returns-clause-sound
returns-clause-sound c =
    let well = subst (λ (held : StoreWithRoom). IsWellFormed held.state) c.self.view_is c.self.invariant.well in
    IfOk-weaker c.renames.result _ _ (λ (ready : Change) made.
    sound_by (rename c.args.to.now) c.args.self.now.state c.args.from.now None c.self.inside.directories.list _ c.self.inside.files.rows ready (over (goal.at.returns-clause-sound c).After-as_bytes) well
    (made_there (goal.at.returns-clause-sound c).After-as_bytes ready made))
    c.renames.ensures.made

pub returns-clause-refused : goal.returns-clause-refused
unfolding planned
returns-clause-refused c = λ moment.
    IfErr-weaker c.renames.result _ _ (λ (refusal : Refusal) refused.
    refused_by (rename c.args.to.now) c.args.self.now.state c.args.from.now c.self.inside.directories.list _ c.self.inside.files.rows c.args.self.now.state.rows refusal
    (over (goal.at.returns-clause-refused c).After-as_bytes)
    (subst (λ (rows : List Row). IsRefused (all_renamed c.args.to.now (elements_at c.self.inside.files.rows c.deref.result.now) rows) refusal)
    (over (goal.at.returns-clause-refused c).After-as_bytes).rows_are refused))
    c.renames.ensures.refused

pub returns-clause-doable : goal.returns-clause-doable
returns-clause-doable c =
    IfOk-weaker c.renames.result _ _ (λ (ready : Change) made.
    doable_by (rename c.args.to.now) c.args.self.now.state None c.self.inside.directories.list _ ready
    (made_there (goal.at.returns-clause-doable c).After-as_bytes ready made))
    c.renames.ensures.made
