use Rattle.std.proofs.Common.{◌≡◌, ◌*◌, ◌≤◌, length, take}
use Rattle.cm_state.specs.Echo.{screen_line}
use Rattle.cm_state.proofs.echo.screen_line.Given as goal

-- what was walked over is shown, each byte as three at most
abbrev pub invariant-loop-byte : goal.invariant-loop-byte
invariant-loop-byte l = record {
  shown : l.bytes.items ≡ screen_line (take l.byte-index l.line);
  few : length l.bytes.items ≤ 3 * l.byte-index;
}
