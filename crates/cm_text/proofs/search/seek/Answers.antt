use Rattle.std.proofs.Common.{arith, refl, of_calls, sym}
use Rattle.std.proofs.lemmas.Fn.{called}
use Rattle.cm_lists.proofs.Seeks.{asked_again, few_asked, fewer_left, sought_above, sought_below}
use Rattle.cm_text.proofs.search.seek.Goals as goal

pub loop-size-preserved-then-is_before : goal.loop-size-preserved-then-is_before
loop-size-preserved-then-is_before g c =
    let loop = c.loop-size in
    let x = c.index-items-start in
    record {
      callable = search of_calls;
      within = omega arith;
      sought = λ test by.
          let so = loop.invariant.sought test by in
          let answer = asked_again g.F.FnMut _ _ _ _ _ (called g.F.FnMut c.if-is_before.ensures refl) so.0 in
          (answer.1, sought_above test c.args.items.now loop.start loop.size _ x.result loop.invariant.within (omega arith) x.is (sym answer.0) so.1);
      later = grind arith;
      fewer = fewer_left c.args.probes.now loop.probes _ _ loop.size _ loop.invariant.later (grind arith) (omega arith) loop.invariant.fewer;
      few = few_asked c.args.probes.now loop.probes _ _ loop.size loop.invariant.later (grind arith) (omega arith) loop.invariant.fewer;
    }

pub loop-size-preserved : goal.loop-size-preserved
loop-size-preserved g c =
    let loop = c.loop-size in
    let x = c.index-items-start in
    record {
      callable = search of_calls;
      within = omega arith;
      sought = λ test by.
          let so = loop.invariant.sought test by in
          let answer = asked_again g.F.FnMut _ _ _ _ _ (called g.F.FnMut c.if-is_before.ensures refl) so.0 in
          (answer.1, sought_below test c.args.items.now loop.start loop.size _ x.result loop.invariant.within (omega arith) x.is (sym answer.0) so.1);
      later = grind arith;
      fewer = fewer_left c.args.probes.now loop.probes _ _ loop.size _ loop.invariant.later (grind arith) (omega arith) loop.invariant.fewer;
      few = few_asked c.args.probes.now loop.probes _ _ loop.size loop.invariant.later (grind arith) (omega arith) loop.invariant.fewer;
    }
