use Rattle.std.proofs.Common.{◌≡◌, ◌≤◌}
use Rattle.tt_screen.proofs.ReadBytes.{Asked, Fed}
use Rattle.tt_screen.proofs.program.feed_all.Given as goal

-- the bytes so far are on the screen, the column is within their number, a get was asked for each, and no fault was
-- counted
abbrev pub invariant-loop-turn : goal.invariant-loop-turn
invariant-loop-turn g l = record {
  fed : Fed g.K.Source.tells (g.K.Source.left l.fn.keys) (g.K.Source.left l.keys) l.shown l.turn;
  column : l.shown.column ≤ l.turn;
  gets : Asked (g.K.Source.gets l.fn.keys) (g.K.Source.gets l.keys) l.turn;
  keys : g.K.Source.faults l.keys ≡ g.K.Source.faults l.fn.keys;
}
