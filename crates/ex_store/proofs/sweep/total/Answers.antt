use Rattle.std.proofs.Common.{◌≡◌, ◌+◌, List, drop, ap, sym, ◌∙◌, arith, ◌∷◌}
use Rattle.std.proofs.lemmas.List.{drop_more}
use Rattle.ex_store.specs.declared.family.Family.{Family}
use Rattle.ex_store.specs.Families.{bytes_of, rows_of}
use Rattle.ex_store.specs.Rows.{total}
use Rattle.ex_store.proofs.SweepLaws.{total_more}
use Rattle.ex_store.proofs.sweep.total.Goals as goal

pub loop-family-preserved : goal.loop-family-preserved
loop-family-preserved c =
    let split : drop c.loop-family.family-index c.args.families.now ≡ c.family-item.result ∷ drop (c.loop-family.family-index + 1) c.args.families.now =
    drop_more c.args.families.now c.loop-family.family-index c.family-item.result c.loop-family-test.true
    ∙ ap (λ (it : Family). it ∷ drop (c.loop-family.family-index + 1) c.args.families.now) (sym c.family-item.is) in
    let more = ap (λ (it : List Family). total (rows_of it)) split ∙ total_more c.family-item.result (drop (c.loop-family.family-index + 1) c.args.families.now) in
    let own = ap bytes_of c.files.ensures.value in
    let done : c.add_bytes-all.result + total (rows_of (drop (c.loop-family.family-index + 1) c.args.families.now)) ≡ total (rows_of c.args.families.now) =
    omega (arith, c.add_bytes-all.ensures, own, more, c.loop-family.invariant) in
    done
