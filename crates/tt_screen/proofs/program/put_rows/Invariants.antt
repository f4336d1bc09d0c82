use Rattle.std.proofs.Common.{take}
use Rattle.cm_io.specs.Writer.{Writes}
use Rattle.tt_screen.specs.ScreenText.{rows_text}
use Rattle.tt_screen.proofs.program.put_rows.Given as goal

-- the rows so far are written
abbrev pub invariant-loop-number : goal.invariant-loop-number
invariant-loop-number g l = Writes g.S.Sink l.fn.out l.out (rows_text (take l.number l.shown.rows))
