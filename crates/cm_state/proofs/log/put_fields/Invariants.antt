use Rattle.std.proofs.Common.{take}
use Rattle.cm_io.specs.Writer.{Writes}
use Rattle.cm_state.specs.Log.{fields_log}
use Rattle.cm_state.proofs.log.put_fields.Given as goal

-- the fields so far are put
abbrev pub invariant-loop-number : goal.invariant-loop-number
invariant-loop-number g l = Writes g.S.Sink l.fn.out l.out (fields_log (take l.number l.fields))
