use Rattle.cm_net.proofs.TextValues.{ipv4_prefix_is_value, ipv4_prefix_has_no_value}
use Rattle.cm_net.proofs.prefix.Ipv4Prefix.parse.Goals as goal

pub returns-in-None-clause-writes : goal.returns-in-None-clause-writes
returns-in-None-clause-writes c = λ value is. c.in-None.ensures value.address value.prefix_length is

pub returns-in-None-clause-value : goal.returns-in-None-clause-value
returns-in-None-clause-value c = ipv4_prefix_has_no_value c.args.text.now c.in-None.ensures

pub returns-in-Some-clause-value : goal.returns-in-Some-clause-value
returns-in-Some-clause-value c =
    ipv4_prefix_is_value c.args.text.now c.in-Some.address c.in-Some.prefix_length c.in-Some.ensures
