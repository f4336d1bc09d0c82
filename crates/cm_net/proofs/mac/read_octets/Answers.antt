use Rattle.std.proofs.Common.{◌≡◌, IsTrue, false}
use Rattle.cm_net.proofs.MacTexts.{shape_of_pairs}
use Rattle.cm_net.proofs.mac.read_octets.Goals as goal

pub returns-then-not-has_mac_shape : goal.returns-then-not-has_mac_shape
returns-then-not-has_mac_shape c = λ octets is.
    let shaped : IsTrue c.has_mac_shape.result = c.has_mac_shape.ensures.1 (shape_of_pairs c.args.text.now octets is) in
    let not_so : c.has_mac_shape.result ≡ false = c.if-not-has_mac_shape.true in
    cc (shaped, not_so)
