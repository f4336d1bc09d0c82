use Rattle.std.proofs.Common.{◌≡◌, ◌<◌, List, [], ◌∷◌, ◌++◌, length, get_or, ap, append_assoc, sym, ◌∙◌}
use Rattle.cm_lists.proofs.Elements.{get_or_of_some}
use Rattle.cm_lists.proofs.Quantifiers.{all_below_next, all_drop_next}
use Rattle.ex_store.specs.declared.key.FullName.{FullName}
use Rattle.ex_store.specs.declared.key.NamePair.{NamePair}
use Rattle.ex_store.specs.declared.row.Row.{Row}
use Rattle.ex_store.specs.Appending.{pairs_to}
use Rattle.ex_store.specs.Rows.{full_of}
use Rattle.ex_store.specs.Views.{row_of_view}
use Rattle.ex_store.proofs.ElementsLaws.{elements_more}
use Rattle.ex_store.proofs.append.pairs_to.Goals as goal

one_more : (target source other : FullName) (row : Row) (sources rest : List Row) (pairs new whole : List NamePair) → new ≡ pairs ++ (record { source = source; target = other }) ∷ [] → source ≡ full_of row → other ≡ target → sources ≡ row ∷ rest → pairs ++ pairs_to target sources ≡ whole → new ++ pairs_to target rest ≡ whole
one_more target source other row sources rest pairs new whole pushed from to next all =
    rw (pushed, from, to) (append_assoc pairs _ _ ∙ (ap (λ others. pairs ++ pairs_to target others) (sym next) ∙ all))

pub loop-at-preserved : goal.loop-at-preserved
loop-at-preserved c =
    let within : c.from.result < length c.args.files.now.rows = all_below_next _ c.args.positions.now c.loop-at.at-index c.from.result c.loop-at-test.true c.from.ensures c.loop-at.invariant.within in
    record {
      so_far = one_more c.args.target.now c.full_name.result c.copy.result (get_or c.args.files.now.rows c.from.result (row_of_view c.row_at.result)) _ _ c.loop-at.pairs.items c.push.new.self.items _ c.in_ok-push.ensures.items (c.full_name.ensures ∙ ap full_of (get_or_of_some c.args.files.now.rows c.from.result (row_of_view c.row_at.result) c.row_at.ensures)) c.copy.ensures (elements_more c.args.files.now.rows c.args.positions.now c.loop-at.at-index c.from.result (row_of_view c.row_at.result) c.loop-at-test.true c.from.ensures within) c.loop-at.invariant.so_far;
      within = all_drop_next _ c.args.positions.now c.loop-at.at-index 0 c.loop-at-test.true c.loop-at.invariant.within;
    }
