use Rattle.cm_net.proofs.TextValues.{ipv6_is_value, ipv6_has_no_value}
use Rattle.cm_net.proofs.address.parse_ipv6.Goals as goal

pub returns-in-Ok-clause-value : goal.returns-in-Ok-clause-value
returns-in-Ok-clause-value c = ipv6_is_value c.args.text.now c.in-Ok.address c.in-Ok.ensures

pub returns-in-Err-clause-value : goal.returns-in-Err-clause-value
returns-in-Err-clause-value c = ipv6_has_no_value c.args.text.now c.in-Err.ensures
