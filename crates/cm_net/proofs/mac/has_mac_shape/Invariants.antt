use Rattle.std.proofs.Common.{ℕ, ◌<◌}
use Rattle.cm_net.specs.MacShape.{FitsPlace}
use Rattle.cm_net.proofs.mac.has_mac_shape.Given as goal

abbrev pub invariant-loop-place : goal.invariant-loop-place
invariant-loop-place l = (k : ℕ) → k < l.place → FitsPlace l.text k
