use Rattle.std.proofs.Common.{◌≡◌, ◌+◌, [], ap, arith, rules, sym, ◌∙◌}
use Rattle.cm_tables.proofs.SearchLemmas.{joined}
use Rattle.cm_tables.proofs.StartLaws.{candidates_stop}
use Rattle.cm_tables.proofs.search.abbreviated.Goals as goal

pub returns-then-not-begins_with-clause-value : goal.returns-then-not-begins_with-clause-value
returns-then-not-begins_with-clause-value c =
    let loop = c.loop-offset in
    let entry = c.index-entries-offset in
    let ends : c.map_or.result ≡ joined loop.found [] = search rules in
    ends
    ∙ ap (joined loop.found)
    (sym
    (candidates_stop (c.args.start + loop.offset) c.args.atom.now c.args.entries.now loop.offset entry.result (omega arith)
    entry.is (search rules) loop.invariant.above loop.invariant.ascends))
    ∙ loop.invariant.same
