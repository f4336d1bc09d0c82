use Rattle.std.proofs.Common.{◌≡◌, ◌≤◌, ◌+◌, ◌-◌, drop, length, vec_capacity}
use Rattle.cm_text.specs.Lines.{lines}
use Rattle.ex_take.specs.Lines.{joined_after}
use Rattle.ex_take.proofs.command_file.join_lines.Given as goal

-- however the lines that are left continue the line, all lines do
abbrev pub invariant-loop-rest : goal.invariant-loop-rest
invariant-loop-rest l =
    (joined_after l.line.items (lines (drop l.at l.bytes)) ≡ joined_after l.fn.line.items (lines l.fn.bytes))
    × ((l.at ≤ length l.bytes)
    × ((length l.line.items + (length l.bytes - l.at) ≤ vec_capacity l.line)
    × (vec_capacity l.fn.line ≤ vec_capacity l.line)))

abbrev pub decreases-loop-rest : goal.decreases-loop-rest
decreases-loop-rest l = length l.bytes - l.at
