use Rattle.std.proofs.Common.{◌&&◌, nat_le, nat_lt, true}
use Rattle.ex_store.specs.declared.limits.TheConstants.{COPIES_LIMIT}
use Rattle.ex_commands.proofs.Refusals.{refused_to_print}
use Rattle.ex_commands.proofs.commands.print.act.Goals as goal

pub returns-then-not-may_copy : goal.returns-then-not-may_copy
returns-then-not-may_copy g c =
    refused_to_print _ _ _ (nat_lt 0 c.args.copies && nat_le c.args.copies COPIES_LIMIT) _ c.args.store.now.state _
    (let is = c.may_copy.ensures in let other = c.if-not-may_copy.true in cc) (c.refuse.ensures c.args.store.now.state true)
