-- A chain of iterators has one term as its answer, back to the slice, joined to length-prefix_len at the line in
-- reverse.
use Rattle.std.proofs.Common.{rules, tests, reverse, ◌∙◌}
use Rattle.std.proofs.lemmas.Iterator.Adapters.{YieldsList-from_rev_slice}
use Rattle.std.proofs.lemmas.Iterator.Consumers.{count_from_yields_List}
use Rattle.std.proofs.lemmas.Iterator.Search.{YieldsList-from_take_while}
use Rattle.std.proofs.lemmas.List.Folds.{length-prefix_len}
use Rattle.cm_text.specs.Bytes.{is_blank}
use Rattle.cm_line.proofs.line.blanks_at_end.Goals as goal

pub returns-clause-value : goal.returns-clause-value
returns-clause-value c =
    count_from_yields_List c.take_while.result _ c.count.ensures.ran
    (YieldsList-from_take_while _ is_blank (YieldsList-from_rev_slice c.args.line.now (cc))
    c.take_while.ensures.closure c.take_while.ensures.done (λ x b q k. search (rules, tests)))
    ∙ length-prefix_len is_blank (reverse c.args.line.now)
