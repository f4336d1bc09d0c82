use Rattle.std.proofs.Common.{◌≡◌, ◌+◌, ◌-◌, length, ap, ◌∙◌, arith}
use Rattle.ex_program.specs.GeneratedKeys.{line_keys}
use Rattle.ex_program.proofs.KeysLeft.{all_counted, more_counted}
use Rattle.ex_program.proofs.progress.Progress.count_left.Goals as goal

pub loop-turn-preserved : goal.loop-turn-preserved
loop-turn-preserved c = record {
  count = let place : c.args.self.now.position + (c.loop-turn.turn + 1) ≡ c.args.self.now.position + c.loop-turn.turn + 1 = omega arith in
      let less : c.args.self.now.lines - (c.loop-turn.turn + 1) ≡ c.args.self.now.lines - c.loop-turn.turn - 1 = omega arith in
      rw (place, less) (more_counted c.loop-turn.count c.len-in-loop-turn.result _ c.loop-turn.number c.next_number-number.result _ _
      c.loop-turn.invariant.count (λ last. omega (arith, last, c.loop-turn-test.true)) c.next_number-number.ensures.number
      (c.len-in-loop-turn.ensures.value ∙ ap length (c.line_keys.ensures.keys
      ∙ ap (λ place. line_keys place c.next_number-number.result) c.from.ensures)));
  number = c.next_number-number.ensures.within;
  size = omega (arith, c.loop-turn.invariant.size, c.len-in-loop-turn.ensures.fits);
}

pub returns-clause-count : goal.returns-clause-count
returns-clause-count c =
    all_counted c.loop-turn.count _ c.loop-turn.number _ _ c.loop-turn.invariant.count (omega (arith, c.loop-turn-test.false))
