use Rattle.std.proofs.Common.{◌≡◌, ℕ, nat_le, true, List, length, Ok, ap, arith, sym, subst, ◌∙◌}
use Rattle.std.proofs.lemmas.Grind.{common_steps}
use Rattle.ex_store.specs.Adding.{admitted, and_then, keep_at, limited}
use Rattle.ex_store.specs.declared.key.Key.{Key}
use Rattle.ex_store.specs.declared.limits.TheConstants.{RETENTION_LIMIT}
use Rattle.ex_store.specs.Copying.{own_key}
use Rattle.ex_store.specs.Plan.{retention_at}
use Rattle.ex_store.specs.Rows.{total}
use Rattle.ex_store.specs.State.{StoreWithRoom, retention_of}
use Rattle.ex_store.specs.WellFormed.{IsWellFormed}
use Rattle.ex_store.proofs.AllCopiedLaws.{keep_within}
use Rattle.ex_store.proofs.BuiltLaws.{retention_within}
use Rattle.ex_store.proofs.WrittenLaws.{adds_one, asked_is, write_doable, write_nameless, write_ready, write_refused, write_sound, written_row}
use Rattle.ex_store.proofs.store.Store.write.Goals as goal

pub returns-then-lacks_name-clause-refused : goal.returns-then-lacks_name-clause-refused
returns-then-lacks_name-clause-refused c =
    write_nameless c.args.self.now.state c.args.to.now c.args.bytes c.args.moment (sym c.lacks_name.ensures ∙ c.if-lacks_name.true)

pub returns-in-Err-clause-refused : goal.returns-in-Err-clause-refused
returns-in-Err-clause-refused c =
    let rows = ap (λ (held : StoreWithRoom). held.state.rows) c.self.view_is in
    let items = ap (λ (held : StoreWithRoom). length held.state.rows) c.self.view_is in
    let files : c.len-files.result ≡ length c.args.self.now.state.rows = grind (arith, common_steps, items, c.len-files.ensures) in
    let asked : c.admitted.result ≡ admitted (own_key c.args.to.now) c.args.to.now.generation (length c.args.bytes) c.args.self.now.state.rows =
    asked_is (own_key c.args.to.now) c.own_key-key.result c.args.to.now.generation (length c.args.bytes) c.len.result c.len-files.result c.total-all.result
    c.args.self.now.state.rows c.self.inside.files.rows c.admitted.result c.own_key-key.ensures rows
    files (c.total-all.ensures ∙ ap total rows) c.len.ensures
    (c.admitted.ensures ∙ ap (and_then (limited c.len-files.result c.total-all.result c.len.result)) c.numbered-number.ensures) in
    write_refused c.args.self.now.state c.args.to.now c.args.bytes c.args.moment c.in-Err.code (sym c.lacks_name.ensures ∙ c.if-lacks_name.false)
    (sym asked ∙ c.in-Err.is)

-- the row is admitted
admits : (c : goal.In-Ok-one_add) → admitted (own_key c.args.to.now) c.args.to.now.generation (length c.args.bytes) c.args.self.now.state.rows ≡ Ok c.in-Ok.generation
admits c =
    let rows = ap (λ (held : StoreWithRoom). held.state.rows) c.self.view_is in
    let items = ap (λ (held : StoreWithRoom). length held.state.rows) c.self.view_is in
    let files : c.len-files.result ≡ length c.args.self.now.state.rows = grind (arith, common_steps, items, c.len-files.ensures) in
    let asked : c.admitted.result ≡ admitted (own_key c.args.to.now) c.args.to.now.generation (length c.args.bytes) c.args.self.now.state.rows =
    asked_is (own_key c.args.to.now) c.own_key-key.result c.args.to.now.generation (length c.args.bytes) c.len.result c.len-files.result c.total-all.result
    c.args.self.now.state.rows c.self.inside.files.rows c.admitted.result c.own_key-key.ensures rows
    files (c.total-all.ensures ∙ ap total rows) c.len.ensures
    (c.admitted.ensures ∙ ap (and_then (limited c.len-files.result c.total-all.result c.len.result)) c.numbered-number.ensures) in
    sym asked ∙ c.in-Ok.is

-- it keeps as many generations as it is to
kept : (c : goal.In-Ok-one_add) → c.keep_at-keep.result ≡ keep_at (retention_at c.args.to.now c.args.self.now.state) (own_key c.args.to.now) c.args.self.now.state.rows
kept c =
    let retention_is : c.retention_of-retention.result ≡ retention_at c.args.to.now c.args.self.now.state =
    c.retention_of-retention.ensures ∙ ap (λ (name : List ℕ). retention_of name c.self.inside.directories.list) c.as_str.ensures.value
    ∙ ap (retention_of c.args.to.now.directory) (ap (λ (held : StoreWithRoom). held.state.directories) c.self.view_is) in
    c.keep_at-keep.ensures
    ∙ ap (λ (key : Key). keep_at c.retention_of-retention.result key c.self.inside.files.rows) c.own_key-key.ensures
    ∙ ap (λ (retention : ℕ). keep_at retention (own_key c.args.to.now) c.self.inside.files.rows) retention_is
    ∙ ap (λ (held : StoreWithRoom). keep_at (retention_at c.args.to.now c.args.self.now.state) (own_key c.args.to.now) held.state.rows) c.self.view_is

-- and it is what is added
adds : (c : goal.In-Ok-one_add) → c.in-Ok-one_add.ready ≡ adds_one (written_row c.args.to.now c.keep_at-keep.result c.args.moment c.args.bytes c.in-Ok.generation)
adds c =
    let row_is : c.new-row.result ≡ written_row c.args.to.now c.keep_at-keep.result c.args.moment c.args.bytes c.in-Ok.generation =
    c.new-row.ensures ∙ rw (c.own_key-key.ensures, c.moment_of.ensures) in
    c.in-Ok-one_add.ensures ∙ ap adds_one row_is

pub returns-in-Ok-one_add-clause-ready : goal.returns-in-Ok-one_add-clause-ready
returns-in-Ok-one_add-clause-ready c =
    write_ready c.args.self.now.state c.args.to.now c.args.bytes c.args.moment c.keep_at-keep.result c.in-Ok.generation c.in-Ok-one_add.ready (sym c.lacks_name.ensures ∙ c.if-lacks_name.false)
    (admits c) (kept c) (adds c)

pub returns-in-Ok-one_add-clause-sound : goal.returns-in-Ok-one_add-clause-sound
returns-in-Ok-one_add-clause-sound c =
    let well = subst (λ (held : StoreWithRoom). IsWellFormed held.state) c.self.view_is c.self.invariant.well in
    let few : nat_le c.keep_at-keep.result RETENTION_LIMIT ≡ true =
    ap (λ (n : ℕ). nat_le n RETENTION_LIMIT) (kept c)
    ∙ keep_within c.args.self.now.state.directories (retention_at c.args.to.now c.args.self.now.state) (own_key c.args.to.now) c.args.self.now.state.rows
    (retention_within c.args.to.now.directory c.args.self.now.state.directories well.draft.directories_within) well.draft.rows.within in
    write_sound c.args.self.now.state c.args.to.now c.args.bytes c.args.moment c.keep_at-keep.result c.in-Ok.generation c.in-Ok-one_add.ready well c.requires few
    (sym c.lacks_name.ensures ∙ c.if-lacks_name.false) (admits c) (adds c)

pub returns-in-Ok-one_add-clause-doable : goal.returns-in-Ok-one_add-clause-doable
returns-in-Ok-one_add-clause-doable c =
    write_doable c.args.self.now.state c.args.to.now c.args.bytes c.args.moment c.keep_at-keep.result c.in-Ok.generation c.in-Ok-one_add.ready c.requires
    (admits c) (adds c)
