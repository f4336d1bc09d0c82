use Rattle.std.proofs.Common.{◌+◌, ◌-◌, arith, length-drop}
use Rattle.std.proofs.lemmas.List.{take_all}
use Rattle.cm_net.proofs.PartedTexts.{not_parted, parted_at}
use Rattle.cm_net.proofs.parts.parts.Goals as goal

pub returns-then-text-at-eq47 : goal.returns-then-text-at-eq47
returns-then-text-at-eq47 c =
    let text = c.args.text.now in
    let at = c.loop-at.at - 1 in
    parted_at text _ at (omega arith) c.if-text-at-eq47.true (λ k past. c.loop-at.invariant k (omega arith))
    (take_all _ _ (omega (arith, length-drop (at + 1) text)))

pub returns : goal.returns
returns c = not_parted c.args.text.now (λ k. c.loop-at.invariant k (omega arith))
