-- What is left makes of what is told so far what all lines make of nothing; each line so far had a byte.
use Rattle.std.proofs.Common.{◌≡◌, ◌+◌, ◌≤◌, length}
use Rattle.cm_text.specs.Lines.{lines}
use Rattle.cm_synopsis.specs.Languages.{nothing, read_lines}
use Rattle.cm_synopsis.proofs.language.read_lines.Given as goal

abbrev pub decreases-loop-first : goal.decreases-loop-first
decreases-loop-first l = length l.rest

abbrev pub invariant-loop-first : goal.invariant-loop-first
invariant-loop-first l = record {
  same : read_lines l.number l.language (lines l.rest) ≡ read_lines 1 nothing (lines l.text);
  few : l.number + length l.rest ≤ length l.text + 1;
}
