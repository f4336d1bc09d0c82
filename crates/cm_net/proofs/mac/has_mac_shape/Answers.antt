use borrow.Author.Count.{below_more}
use Rattle.cm_net.proofs.mac.has_mac_shape.Goals as goal

pub loop-place-preserved : goal.loop-place-preserved
loop-place-preserved c = below_more _ _ c.loop-place.invariant (c.fits_place.ensures.0 c.if-not-fits_place.false)
