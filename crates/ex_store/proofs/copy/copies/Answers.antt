use Rattle.std.proofs.Common.{◌≡◌, ℕ, ◌+◌, nat_le, true, Ok, Err, List, [], length, length-append, ap, refl, drop, sym, subst, ◌∙◌, arith}
use Rattle.std.proofs.Math.ListN.{drop_of_length-le}
use Rattle.ex_store.specs.declared.row.Row.{Row}
use Rattle.ex_store.specs.Adding.{each_in_turn}
use Rattle.ex_store.specs.Copying.{copied, key_from}
use Rattle.ex_store.specs.State.{retention_of}
use Rattle.ex_store.specs.Families.{rows_of}
use Rattle.ex_store.specs.Positions.{elements_at}
use Rattle.ex_store.specs.WellFormed.{is_row_among}
use Rattle.ex_store.specs.declared.limits.TheConstants.{RETENTION_LIMIT}
use Rattle.ex_store.proofs.AdmittedLaws.{counted_target}
use Rattle.ex_store.proofs.AlikeLaws.{either_alike, length_alike, total_alike}
use Rattle.ex_store.proofs.AllCopiedLaws.{IsCopying, admitted_free, copies_more, copies_refused, outcome_at, way_start}
use Rattle.ex_store.specs.Views.{row_of_view}
use Rattle.std.proofs.lemmas.Bool.{and_from}
use Rattle.cm_lists.proofs.Elements.{get_or_of_some}
use Rattle.cm_lists.proofs.Quantifiers.{all_at}
use Rattle.ex_store.specs.declared.ready.RowChange.TheVariants as changes
use Rattle.ex_store.specs.Adding.{keep_at, new_row}
use Rattle.ex_generations.specs.declared.file.TheConstants.{FILE_LIMIT}
use Rattle.ex_store.specs.WellFormed.{is_numbered}
use Rattle.ex_store.proofs.RemarkLaws.{row_short}
use Rattle.ex_store.proofs.DoableLaws.{lawful_more}
use Rattle.ex_store.proofs.PositionsLaws.{source_at}
use Rattle.ex_store.proofs.copy.copies.Goals as goal

pub loop-at-init : goal.loop-at-init
loop-at-init c = record {
  copying = λ rows alike are. record {
    on = rw (c.in-Ok.ensures.row_changes, c.in-Ok.ensures.pairs, c.in-Ok.ensures.families, c.as_bytes-directory.ensures.value, either_alike c.args.to.now.directory c.args.to.now.directory c.args.files.now.rows rows alike)
        (way_start (copied c.retention_of-retention.result c.args.moment c.args.to.now) c.args.directories.now.list c.args.to.now.directory c.args.to.now.directory
        rows (elements_at c.args.files.now.rows c.args.positions.now) are);
    files_are = rw c.in-Ok.ensures.row_changes (c.len-count.ensures ∙ length_alike c.args.files.now.rows rows alike);
    bytes_are = rw c.in-Ok.ensures.row_changes (c.total-bytes.ensures ∙ total_alike c.args.files.now.rows rows alike);
  };
  families = c.in-Ok.ensures.ascend;
  count = ap length c.in-Ok.ensures.pairs;
  lawful = rw c.in-Ok.ensures.row_changes refl;
}

pub copy-requires-clause-number : goal.copy-requires-clause-number
copy-requires-clause-number c =
    (admitted_free c.key_from-key.result c.args.to.now.generation c.len-size.result c.loop-at.count c.loop-at.bytes (rows_of c.deref.result.now)
    c.in-Ok-admitted.generation (counted_target c.args.to.now.generation c.requires.target.generation)
    (rw (← c.numbered-number.ensures) (sym c.admitted.ensures ∙ c.in-Ok-admitted.is))).within

pub copy-requires-clause-absent : goal.copy-requires-clause-absent
copy-requires-clause-absent c =
    rw (← c.deref.ensures.value)
    (admitted_free c.key_from-key.result c.args.to.now.generation c.len-size.result c.loop-at.count c.loop-at.bytes (rows_of c.deref.result.now)
    c.in-Ok-admitted.generation (counted_target c.args.to.now.generation c.requires.target.generation)
    (rw (← c.numbered-number.ensures) (sym c.admitted.ensures ∙ c.in-Ok-admitted.is))).absent

pub returns-in-Err-admitted-clause-refused : goal.returns-in-Err-admitted-clause-refused
returns-in-Err-admitted-clause-refused c = λ rows alike are.
    let at = source_at c.args.files.now.rows c.args.positions.now c.loop-at.at-index c.from.result (row_of_view c.row_at-source.result) c.requires.within c.loop-at-test.true c.from.ensures (get_or_of_some c.args.files.now.rows c.from.result (row_of_view c.row_at-source.result) c.row_at-source.ensures) in
    let copying = subst (λ (left : List Row). IsCopying c.args.directories.now.list c.retention_of-retention.result c.args.moment c.args.to.now rows (elements_at c.args.files.now.rows c.args.positions.now) left c.loop-at.simulation.row_changes.items c.loop-at.simulation.pairs.items (rows_of c.loop-at.simulation.families.items) c.loop-at.count c.loop-at.bytes) at.more (c.loop-at.invariant.copying rows alike are) in
    let retention_is : c.retention_of-retention.result ≡ retention_of c.args.to.now.directory c.args.directories.now.list = c.retention_of-retention.ensures ∙ ap (λ (name : List ℕ). retention_of name c.args.directories.now.list) c.as_str.ensures.value in
    subst (λ (retention : ℕ). each_in_turn (copied retention c.args.moment c.args.to.now) (elements_at c.args.files.now.rows c.args.positions.now) (record { rows = rows; pairs = [] }) ≡ Err c.in-Err-admitted.code) retention_is
    (copies_refused c.args.directories.now.list c.retention_of-retention.result c.args.moment c.args.to.now rows (elements_at c.args.files.now.rows c.args.positions.now) _ (row_of_view c.row_at-source.result) _ _ _ _ _ c.in-Err-admitted.code copying
    (rw (← c.deref.ensures.value, ← (c.key_from-key.ensures ∙ ap (key_from c.args.to.now) c.key.ensures), ← c.len-size.ensures, ← c.numbered-number.ensures) (sym c.admitted.ensures ∙ c.in-Err-admitted.is)))

pub loop-at-preserved : goal.loop-at-preserved
loop-at-preserved c =
    let at = source_at c.args.files.now.rows c.args.positions.now c.loop-at.at-index c.from.result (row_of_view c.row_at-source.result) c.requires.within c.loop-at-test.true c.from.ensures (get_or_of_some c.args.files.now.rows c.from.result (row_of_view c.row_at-source.result) c.row_at-source.ensures) in
    let count : length c.copy.new.self.pairs.items ≡ c.loop-at.at-index + 1 = rw c.in-Ok-copy.ensures.pairs (length-append _ _ ∙ ap (λ n. n + 1) c.loop-at.invariant.count) in
    let form = all_at (is_row_among c.args.directories.now.list) c.args.files.now.rows at.there.0 (row_of_view c.row_at-source.result) c.requires.rows.within at.there.1 in
    let retention_is : c.retention_of-retention.result ≡ retention_of c.args.to.now.directory c.args.directories.now.list = c.retention_of-retention.ensures ∙ ap (λ (name : List ℕ). retention_of name c.args.directories.now.list) c.as_str.ensures.value in
    let few : nat_le c.retention_of-retention.result RETENTION_LIMIT ≡ true = ap (λ (n : ℕ). nat_le n RETENTION_LIMIT) retention_is ∙ c.requires.retention in
    let key_is : c.key_from-key.result ≡ key_from c.args.to.now (row_of_view c.row_at-source.result).key = c.key_from-key.ensures ∙ ap (key_from c.args.to.now) c.key.ensures in
    let kept : c.keep_at-keep.result ≡ keep_at c.retention_of-retention.result (key_from c.args.to.now (row_of_view c.row_at-source.result).key) (rows_of c.loop-at.simulation.families.items) =
    rw (← c.deref-in-loop-at.ensures.value, ← key_is) c.keep_at-keep.ensures in
    record {
      copying = λ rows alike are.
          let copying = subst (λ (left : List Row). IsCopying c.args.directories.now.list c.retention_of-retention.result c.args.moment c.args.to.now rows (elements_at c.args.files.now.rows c.args.positions.now) left c.loop-at.simulation.row_changes.items c.loop-at.simulation.pairs.items (rows_of c.loop-at.simulation.families.items) c.loop-at.count c.loop-at.bytes) at.more (c.loop-at.invariant.copying rows alike are) in
          rw (c.in-Ok-copy.ensures.row_changes, c.in-Ok-copy.ensures.pairs, c.in-Ok-copy.ensures.families, c.key_from-key.ensures, c.key.ensures, c.moment_of.ensures, c.len-size.ensures)
          (copies_more c.args.directories.now.list c.retention_of-retention.result c.args.moment c.args.to.now rows (elements_at c.args.files.now.rows c.args.positions.now) _ (row_of_view c.row_at-source.result) _ _ _ _ _ c.in-Ok-admitted.generation c.keep_at-keep.result
          c.requires.target form few copying
          (rw (← c.deref.ensures.value, ← key_is, ← c.len-size.ensures, ← c.numbered-number.ensures) (sym c.admitted.ensures ∙ c.in-Ok-admitted.is)) kept);
      families = c.in-Ok-copy.ensures.ascend;
      count = count;
      lawful = rw c.in-Ok-copy.ensures.row_changes (lawful_more c.loop-at.simulation.row_changes.items
          (changes.Add (new_row c.key_from-key.result c.keep_at-keep.result c.moment_of.result (row_of_view c.row_at-source.result).file.bytes c.in-Ok-admitted.generation))
          c.loop-at.invariant.lawful (and_from (is_numbered c.in-Ok-admitted.generation) (nat_le (length (row_of_view c.row_at-source.result).file.bytes) FILE_LIMIT)
          (admitted_free c.key_from-key.result c.args.to.now.generation c.len-size.result c.loop-at.count c.loop-at.bytes (rows_of c.deref.result.now)
          c.in-Ok-admitted.generation (counted_target c.args.to.now.generation c.requires.target.generation)
          (rw (← c.numbered-number.ensures) (sym c.admitted.ensures ∙ c.in-Ok-admitted.is))).within (row_short c.args.directories.now.list (row_of_view c.row_at-source.result) form)));
    }

pub returns-clause-made : goal.returns-clause-made
returns-clause-made c = λ rows alike are.
    let none : drop c.loop-at.at-index c.args.positions.now ≡ [] = drop_of_length-le c.args.positions.now (omega arith) in
    let copying = subst (λ (left : List ℕ). IsCopying c.args.directories.now.list c.retention_of-retention.result c.args.moment c.args.to.now rows (elements_at c.args.files.now.rows c.args.positions.now) (elements_at c.args.files.now.rows left) c.loop-at.simulation.row_changes.items c.loop-at.simulation.pairs.items (rows_of c.loop-at.simulation.families.items) c.loop-at.count c.loop-at.bytes) none (c.loop-at.invariant.copying rows alike are) in
    let retention_is : c.retention_of-retention.result ≡ retention_of c.args.to.now.directory c.args.directories.now.list = c.retention_of-retention.ensures ∙ ap (λ (name : List ℕ). retention_of name c.args.directories.now.list) c.as_str.ensures.value in
    rw c.ready.ensures (record {
      files = refl;
      outcome = subst (λ (retention : ℕ). each_in_turn (copied retention c.args.moment c.args.to.now) (elements_at c.args.files.now.rows c.args.positions.now) (record { rows = rows; pairs = [] }) ≡ Ok (outcome_at rows c.loop-at.simulation.row_changes.items c.loop-at.simulation.pairs.items)) retention_is
          (sym copying.on.walk);
      sound = copying.on.sound;
      doable = copying.on.doable;
    })
