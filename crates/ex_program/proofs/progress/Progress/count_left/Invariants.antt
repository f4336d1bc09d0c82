use Rattle.std.proofs.Common.{◌≡◌, ◌≤◌, ◌<◌, ◌+◌, ◌-◌, ◌*◌, length}
use Rattle.ex_program.specs.GeneratedKeys.{keys_after}
use Rattle.ex_program.specs.Progress.{keys_left}
use Rattle.ex_program.specs.declared.generated_line.TheConstants.{LINE_ROOM}
use Rattle.ex_program.specs.declared.progress.TheConstants.{NUMBER_LIMIT}
use Rattle.ex_program.proofs.progress.Progress.count_left.Given as goal

-- the keys of the lines that were counted, and of those to come, are all that are left
abbrev pub invariant-loop-turn : goal.invariant-loop-turn
invariant-loop-turn l = record {
  count : l.count + length (keys_after (l.self.position + l.turn) l.number (l.self.lines - l.turn)) ≡ length (keys_left l.self);
  number : l.number < NUMBER_LIMIT;
  size : l.count ≤ LINE_ROOM * (l.turn + 1);
}
