use Rattle.std.proofs.Common.{lit<}
use Rattle.std.specs.Net.Grammar.{IsIpv4Text}
use Rattle.cm_net.specs.declared.prefix.TheConstants.{IPV4_LENGTH_LIMIT}
use Rattle.cm_net.proofs.PrefixTexts.{no_address, no_length, no_parts, prefix_of}
use Rattle.cm_net.proofs.parts.ipv4_parts.Goals as goal

pub returns-in_err-front : goal.returns-in_err-front
returns-in_err-front c =
    rw c.from_residual.ensures (no_parts IsIpv4Text IPV4_LENGTH_LIMIT (lit< tt) c.args.text.now c.in_err-front.ensures)

pub returns-in_err-address : goal.returns-in_err-address
returns-in_err-address c =
    rw c.from_residual-in_err-address.ensures
    (no_address IsIpv4Text IPV4_LENGTH_LIMIT (lit< tt) c.args.text.now c.in_ok-front.front.now c.in_ok-front.back.now c.in_ok-front.ensures c.in_err-address.ensures.writes)

pub returns-in_err-prefix_length : goal.returns-in_err-prefix_length
returns-in_err-prefix_length c =
    rw c.from_residual-in_err-prefix_length.ensures
    (no_length IsIpv4Text IPV4_LENGTH_LIMIT (lit< tt) c.args.text.now c.in_ok-front.front.now c.in_ok-front.back.now c.in_ok-front.ensures c.in_err-prefix_length.ensures)

pub returns : goal.returns
returns c =
    prefix_of IsIpv4Text IPV4_LENGTH_LIMIT (lit< tt) c.args.text.now c.in_ok-front.front.now c.in_ok-front.back.now _ _
    c.in_ok-front.ensures c.in_ok-address.ensures.writes c.in_ok-prefix_length.ensures
