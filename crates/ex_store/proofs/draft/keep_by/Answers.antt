use Rattle.std.proofs.Common.{◌≡◌, ◌<◌, ◌+◌, ◌++◌, ℕ, List, [], drop, get_or, length, map, set, take, take-append-drop, ap, arith, sym, ◌∙◌}
use Rattle.std.proofs.Math.ListN.{drop_of_length-le}
use Rattle.std.proofs.lemmas.List.{length-set}
use Rattle.cm_lists.proofs.Elements.{get_or_of_some}
use Rattle.ex_generations.specs.declared.file.Remark.TheVariants as remarks
use Rattle.ex_store.specs.declared.row.Row.{Row}
use Rattle.ex_store.specs.Draft.{kept_by}
use Rattle.ex_store.specs.Views.{row_of_view}
use Rattle.ex_store.specs.Rows.{with_remark}
use Rattle.ex_store.specs.State.{retention_of}
use Rattle.ex_store.proofs.RemarkLaws.{changed_next}
use Rattle.ex_store.proofs.draft.keep_by.Goals as goal

pub loop-i-preserved : goal.loop-i-preserved
loop-i-preserved c =
    let rows = c.loop-i.files.rows in
    let i = c.loop-i.i in
    let row = row_of_view c.row_at.result in
    let directories = c.args.directories.now.list in
    let below : i < length rows = omega (arith, c.loop-i-test.true, c.len-i-end.ensures, c.loop-i.invariant.size) in
    let is : row ≡ get_or rows i row = get_or_of_some rows i row c.row_at.ensures in
    let keep : c.retention_of-keep.result ≡ retention_of (get_or rows i row).key.directory directories =
    c.retention_of-keep.ensures ∙ ap (λ (name : List ℕ). retention_of name directories) c.as_str.ensures.value
    ∙ ap (λ (it : Row). retention_of it.key.directory directories) is in
    let set_is : c.remark.new.self.rows ≡ set rows i (kept_by directories (get_or rows i row)) =
    c.remark.ensures.rows row ∙ ap (λ (n : ℕ). set rows i (with_remark (remarks.Keep n) (get_or rows i row))) keep in
    record {
      kept = ap (λ (it : List Row). take (i + 1) it ++ map (kept_by directories) (drop (i + 1) it)) set_is
          ∙ changed_next (kept_by directories) rows i row below ∙ c.loop-i.invariant.kept;
      size = ap (λ (it : List Row). length it) set_is ∙ length-set rows i (kept_by directories (get_or rows i row)) ∙ c.loop-i.invariant.size;
    }

pub returns : goal.returns
returns c =
    let rows = c.loop-i.files.rows in
    let directories = c.args.directories.now.list in
    let none : drop c.loop-i.i rows ≡ [] =
    drop_of_length-le rows (omega (arith, c.loop-i-test.false, c.len-i-end.ensures, c.loop-i.invariant.size)) in
    sym (take-append-drop c.loop-i.i rows)
    ∙ ap (λ (rest : List Row). take c.loop-i.i rows ++ rest) none
    ∙ sym (ap (λ (rest : List Row). take c.loop-i.i rows ++ map (kept_by directories) rest) none)
    ∙ c.loop-i.invariant.kept
