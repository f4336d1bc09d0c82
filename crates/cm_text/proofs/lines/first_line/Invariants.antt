use Rattle.std.proofs.Common.{◌≡◌, [], take, drop}
use Rattle.cm_text.specs.Lines.{lines_after}
use Rattle.cm_text.proofs.lines.first_line.Given as goal

-- the bytes that were passed begin the first line
abbrev pub invariant-loop-at : goal.invariant-loop-at
invariant-loop-at l = lines_after (take l.at l.bytes) (drop l.at l.bytes) ≡ lines_after [] l.bytes
