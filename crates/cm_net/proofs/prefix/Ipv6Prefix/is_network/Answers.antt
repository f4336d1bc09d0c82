use Rattle.std.proofs.Common.{◌<◌, arith}
use Rattle.std.proofs.Math.Pow.{pow-lt}
use Rattle.cm_net.proofs.prefix.Ipv6Prefix.is_network.Goals as goal

pub pow-requires : goal.pow-requires
pow-requires c =
    let few : c.from-host.result < 128 = omega arith in
    pow-lt few
