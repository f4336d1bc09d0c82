use Rattle.std.proofs.Common.{arith}
use Rattle.ex_image.specs.LineViews.{next_said}
use Rattle.ex_image.proofs.DecodeLaws.{drafted_read}
use Rattle.ex_image.proofs.Leads.{makes_more, makes_start}
use Rattle.ex_image.proofs.RecordLaws.{record_shorter, record_takes}
use Rattle.ex_image.proofs.decoding.read.Goals as goal

pub loop-rest-init : goal.loop-rest-init
loop-rest-init c = record { makes = rw c.new-reading.ensures (makes_start c.args.bytes.now); within = omega arith }

pub add-requires-clause-stands : goal.add-requires-clause-stands
add-requires-clause-stands c =
    (record_takes c.loop-rest.reading c.loop-rest.rest.now (next_said c.in-Ok.next) c.in-Ok.ensures).stands

pub add-requires-clause-fits : goal.add-requires-clause-fits
add-requires-clause-fits c =
    drafted_read c.args.bytes.now c.loop-rest.reading c.loop-rest.rest.now (next_said c.in-Ok.next)
    c.loop-rest.invariant.makes c.in-Ok.ensures

pub loop-rest-smaller : goal.loop-rest-smaller
loop-rest-smaller c =
    record_shorter c.loop-rest.reading c.loop-rest.rest.now (next_said c.in-Ok.next) c.in-Ok.ensures

pub loop-rest-preserved : goal.loop-rest-preserved
loop-rest-preserved c =
    let shorter = record_shorter c.loop-rest.reading c.loop-rest.rest.now (next_said c.in-Ok.next) c.in-Ok.ensures in
    let more =
    makes_more c.args.bytes.now c.loop-rest.reading c.loop-rest.rest.now (next_said c.in-Ok.next)
    c.loop-rest.invariant.makes c.in-Ok.ensures in
    record { makes = rw c.in_ok-add-in-Ok.ensures.added more; within = omega arith }
