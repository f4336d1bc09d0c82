use Rattle.std.proofs.Common.{arith}
use Rattle.cm_io_tests.proofs.Cuts.{goes_on, no_end, no_line, on_ok, stops_there}
use Rattle.cm_io_tests.proofs.trace.+go_on.Goals as goal

pub returns-in-empty : goal.returns-in-empty
returns-in-empty t c = no_line c.args.faults.now c.args.stands.now c.args.lines.now (omega (arith, c.in-empty.len_below))

pub returns-in-End : goal.returns-in-End
returns-in-End t c =
    on_ok c.go_on.result
    (λ goes. goes_on c.args.faults.now c.args.stands.now c.happen.new.stands c.go_on.new.stands c.args.lines.now _ _
    c.in-len1-up.len_at_least c.as_bytes.ensures.value c.in_ok-happen-in-len1-up.ensures c.in-End.is goes)
    c.go_on.ensures

pub returns-in-Keys : goal.returns-in-Keys
returns-in-Keys t c =
    stops_there c.args.faults.now c.args.stands.now _ c.args.lines.now _ _ c.in-len1-up.len_at_least
    c.as_bytes.ensures.value c.in_ok-happen-in-len1-up.ensures (no_end _ c.in-Keys.is)
