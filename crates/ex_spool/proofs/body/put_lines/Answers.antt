use Rattle.std.proofs.Common.{◌≡◌, ◌∷◌, ◌++◌, ap, sym, ◌∙◌, subst}
use Rattle.cm_io.proofs.Texts.{Left, left_less, left_nothing}
use Rattle.cm_text.specs.Lines.{lines}
use Rattle.ex_spool.specs.Pages.{line_rows, rows_of}
use Rattle.ex_spool.specs.Walk.{count_after, rows_after}
use Rattle.ex_spool.proofs.RowLaws.{line_counts, line_cut, line_left, rows_none}
use Rattle.ex_spool.proofs.body.put_lines.Goals as goal

pub loop-first-preserved : goal.loop-first-preserved
loop-first-preserved g c =
    let line = c.split_at.result.0.now in
    let rest = c.split_at-in-Some.result.1.now in
    let is : lines c.loop-first.rest.now ≡ line ∷ lines rest =
    line_cut c.loop-first.rest.now line rest c.in-Some.first.end c.in-Some.first.next c.in-Some.ensures.line
    c.split_at.ensures.front c.split_at-in-Some.ensures.back in
    record {
      left = left_less _ _ _ _ _ _ _ _ c.put_pieces-count.ensures.rows c.loop-first.invariant.left
          (line_left c.args.width c.loop-first.rest.now line rest c.loop-first.count is
          ∙ ap (λ n. rows_after c.loop-first.count (line_rows c.args.width line) ++ rows_after n (rows_of c.args.width rest))
          (sym c.put_pieces-count.ensures.count));
      counts = ap (λ n. count_after n (rows_of c.args.width rest)) c.put_pieces-count.ensures.count
          ∙ line_counts c.args.width c.loop-first.rest.now line rest c.loop-first.count is ∙ c.loop-first.invariant.counts;
      few = c.put_pieces-count.ensures.less;
    }

pub returns-clause-rows : goal.returns-clause-rows
returns-clause-rows g c =
    left_nothing _ _ _ _ (subst (λ it. Left g.S.Sink c.args.out.now c.loop-first.out it (rows_after 0 (rows_of c.args.width c.args.bytes.now)))
    (ap (λ it. rows_after c.loop-first.count it) (rows_none c.args.width c.loop-first.rest.now c.in_default.ensures)) c.loop-first.invariant.left)

pub returns-clause-count : goal.returns-clause-count
returns-clause-count g c =
    sym (ap (λ it. count_after c.loop-first.count it) (rows_none c.args.width c.loop-first.rest.now c.in_default.ensures))
    ∙ c.loop-first.invariant.counts
