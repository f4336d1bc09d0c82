use Rattle.std.proofs.Common.{◌∙◌, arith}
use Rattle.mm_mail.proofs.Mailboxes.{greatest_next, greatest_whole}
use Rattle.mm_mail.proofs.mailbox.greatest_with.Goals as goal

pub loop-row-init : goal.loop-row-init
loop-row-init c = record {
  most = greatest_whole _ _ (c.into_iter-row-iterator.ensures.into_iter_gives ∙ c.selection-row-items.ensures.value);
  few = omega arith;
}

pub loop-row-preserved : goal.loop-row-preserved
loop-row-preserved c = record {
  most = greatest_next _ _ _ _ _ _ _ c.in-Some.ensures.steps c.number_if.ensures.value c.max-greatest.ensures c.loop-row.invariant.most;
  few = omega (arith, c.max-greatest.ensures, c.number_if.ensures.few, c.loop-row.invariant.few);
}
