use Rattle.std.proofs.Common.{◌≡◌, ℕ, nat_le, List, Result, Ok, Err, ap, refl, subst, sym, ◌∙◌}
use Rattle.cm_fields.specs.declared.code.Code.{Code}
use Rattle.ex_store.specs.Plan.{IsRefused}
use Rattle.ex_store.specs.Appending.{bytes_at, opened, concatenation}
use Rattle.ex_store.specs.Copying.{own_key}
use Rattle.ex_store.specs.Positions.{elements_at}
use Rattle.ex_store.specs.Rows.{AreAlike, total}
use Rattle.ex_store.specs.State.{retention_of}
use Rattle.ex_store.specs.declared.limits.TheConstants.{RETENTION_LIMIT}
use Rattle.ex_store.specs.declared.row.Row.{Row}
use Rattle.ex_store.proofs.AlikeLaws.{bytes_alike, opened_alike, total_alike}
use Rattle.ex_store.proofs.AppendedLaws.{append_doable, append_lawful, append_ready, append_refused, append_sound, bytes_short, few_pairs, pour_refused}
use Rattle.ex_store.proofs.append.appends.Goals as goal

pub concatenate-requires-clause-short : goal.concatenate-requires-clause-short
concatenate-requires-clause-short c =
    rw (c.in-Ok-from_slice.ensures.items, c.bytes_at.ensures) (bytes_short c.args.directories.now.list c.in-Ok.opening.target c.args.files.now.rows c.requires.rows.within)

pub of_files-requires-clause-few : goal.of_files-requires-clause-few
of_files-requires-clause-few c =
    few_pairs c.in-Ok.opening.target c.args.files.now.rows c.args.positions.now _ c.in-Ok-pairs_to.pairs.items c.in-Ok-pairs_to.ensures c.requires.few

-- how many generations are kept where a name has no file
retention_is : (c : goal.After-of_files) → c.retention_of-retention.result ≡ retention_of c.args.to.now.directory c.args.directories.now.list
retention_is c = c.retention_of-retention.ensures ∙ ap (λ (name : List ℕ). retention_of name c.args.directories.now.list) c.as_str.ensures.value

pub of_files-requires-clause-lawful : goal.of_files-requires-clause-lawful
of_files-requires-clause-lawful c =
    let opens : opened c.retention_of-retention.result c.args.moment (own_key c.args.to.now) c.args.to.now.generation c.args.files.now.rows ≡ Ok c.in-Ok.opening =
    rw (← c.own_key.ensures) (sym c.opened.ensures ∙ c.in-Ok.is) in
    let pours : concatenation (total c.args.files.now.rows) (bytes_at c.in-Ok.opening.target c.args.files.now.rows) (elements_at c.args.files.now.rows c.args.positions.now) ≡ Ok c.in-Ok-concatenate.bytes =
    rw (← c.bytes_at.ensures, ← c.in-Ok-from_slice.ensures.items) c.in-Ok-concatenate.ensures.ok in
    let is = c.retention_of-retention.ensures ∙ ap (λ (name : List ℕ). retention_of name c.args.directories.now.list) c.as_str.ensures.value in
    append_lawful c.args.directories.now.list c.retention_of-retention.result c.args.moment c.args.to.now c.args.files.now.rows (elements_at c.args.files.now.rows c.args.positions.now) c.in-Ok.opening c.in-Ok-concatenate.bytes
    c.in-Ok-row_changes_of.row_changes.items c.requires.rows c.requires.target (ap (λ (n : ℕ). nat_le n RETENTION_LIMIT) is ∙ c.requires.retention) opens pours c.in-Ok-row_changes_of.ensures

-- the file that is put after is the same in rows that are alike, and so are its bytes
opens : (c : goal.After-of_files) (rows : List Row) → AreAlike c.args.files.now.rows rows
    → opened c.retention_of-retention.result c.args.moment (own_key c.args.to.now) c.args.to.now.generation rows ≡ Ok c.in-Ok.opening
opens c rows alike =
    sym (opened_alike c.retention_of-retention.result c.args.moment (own_key c.args.to.now) c.args.to.now.generation c.args.files.now.rows rows alike)
    ∙ rw (← c.own_key.ensures) (sym c.opened.ensures ∙ c.in-Ok.is)

pours : (c : goal.After-of_files) (rows : List Row) → AreAlike c.args.files.now.rows rows
    → concatenation (total rows) (bytes_at c.in-Ok.opening.target rows) (elements_at c.args.files.now.rows c.args.positions.now) ≡ Ok c.in-Ok-concatenate.bytes
pours c rows alike =
    let sources = elements_at c.args.files.now.rows c.args.positions.now in
    sym (ap (λ (all : ℕ). concatenation all (bytes_at c.in-Ok.opening.target c.args.files.now.rows) sources) (total_alike c.args.files.now.rows rows alike)
    ∙ ap (λ (bytes : List ℕ). concatenation (total rows) bytes sources) (bytes_alike c.in-Ok.opening.target c.args.files.now.rows rows alike))
    ∙ rw (← c.bytes_at.ensures, ← c.in-Ok-from_slice.ensures.items) c.in-Ok-concatenate.ensures.ok

pub returns-in-Ok-row_changes_of-clause-made : goal.returns-in-Ok-row_changes_of-clause-made
returns-in-Ok-row_changes_of-clause-made c = λ rows alike are.
    let sources = elements_at c.args.files.now.rows c.args.positions.now in
    let few = ap (λ (n : ℕ). nat_le n RETENTION_LIMIT) (retention_is c) ∙ c.requires.retention in
    rw c.of_files.ensures
    (record {
      files = refl;
      outcome = rw (← retention_is c)
          (append_ready c.retention_of-retention.result c.args.moment c.args.to.now rows sources c.in-Ok.opening c.in-Ok-concatenate.bytes
          c.in-Ok-row_changes_of.row_changes.items c.in-Ok-pairs_to.pairs.items (opens c rows alike) (pours c rows alike) c.in-Ok-row_changes_of.ensures c.in-Ok-pairs_to.ensures);
      sound = append_sound c.args.directories.now.list c.retention_of-retention.result c.args.moment c.args.to.now rows sources c.in-Ok.opening c.in-Ok-concatenate.bytes
          c.in-Ok-row_changes_of.row_changes.items are c.requires.target few (opens c rows alike) (pours c rows alike) c.in-Ok-row_changes_of.ensures;
      doable = append_doable c.args.directories.now.list c.retention_of-retention.result c.args.moment c.args.to.now rows c.in-Ok.opening c.in-Ok-concatenate.bytes
          c.in-Ok-row_changes_of.row_changes.items are c.requires.target few (opens c rows alike) c.in-Ok-row_changes_of.ensures;
    })

pub returns-in-Err-clause-refused : goal.returns-in-Err-clause-refused
returns-in-Err-clause-refused c = λ rows alike are.
    let retention = c.retention_of-retention.result in
    let is : retention ≡ retention_of c.args.to.now.directory c.args.directories.now.list =
    c.retention_of-retention.ensures ∙ ap (λ (name : List ℕ). retention_of name c.args.directories.now.list) c.as_str.ensures.value in
    let opens : opened retention c.args.moment (own_key c.args.to.now) c.args.to.now.generation c.args.files.now.rows ≡ Err c.in-Err.code =
    rw (← c.own_key.ensures) (sym c.opened.ensures ∙ c.in-Err.is) in
    rw (← is)
    (append_refused retention c.args.moment c.args.to.now rows (elements_at c.args.files.now.rows c.args.positions.now) c.in-Err.code
    (sym (opened_alike retention c.args.moment (own_key c.args.to.now) c.args.to.now.generation c.args.files.now.rows rows alike) ∙ opens))

pub returns-in-Err-concatenate-clause-refused : goal.returns-in-Err-concatenate-clause-refused
returns-in-Err-concatenate-clause-refused c = λ rows alike are.
    let retention = c.retention_of-retention.result in
    let sources = elements_at c.args.files.now.rows c.args.positions.now in
    let is : retention ≡ retention_of c.args.to.now.directory c.args.directories.now.list =
    c.retention_of-retention.ensures ∙ ap (λ (name : List ℕ). retention_of name c.args.directories.now.list) c.as_str.ensures.value in
    let opens : opened retention c.args.moment (own_key c.args.to.now) c.args.to.now.generation c.args.files.now.rows ≡ Ok c.in-Ok.opening =
    rw (← c.own_key.ensures) (sym c.opened.ensures ∙ c.in-Ok.is) in
    let same : concatenation (total c.args.files.now.rows) c.in-Ok-from_slice.old.items sources ≡ concatenation (total rows) (bytes_at c.in-Ok.opening.target rows) sources =
    ap (λ (bytes : List ℕ). concatenation (total c.args.files.now.rows) bytes sources) (c.in-Ok-from_slice.ensures.items ∙ c.bytes_at.ensures)
    ∙ ap (λ (all : ℕ). concatenation all (bytes_at c.in-Ok.opening.target c.args.files.now.rows) sources) (total_alike c.args.files.now.rows rows alike)
    ∙ ap (λ (bytes : List ℕ). concatenation (total rows) bytes sources) (bytes_alike c.in-Ok.opening.target c.args.files.now.rows rows alike) in
    rw (← is)
    (pour_refused retention c.args.moment c.args.to.now rows sources c.in-Ok.opening c.in-Err-concatenate.refusal
    (sym (opened_alike retention c.args.moment (own_key c.args.to.now) c.args.to.now.generation c.args.files.now.rows rows alike) ∙ opens)
    (subst (λ (it : Result (List ℕ) Code). IsRefused it c.in-Err-concatenate.refusal) same c.in-Err-concatenate.ensures.refused))
