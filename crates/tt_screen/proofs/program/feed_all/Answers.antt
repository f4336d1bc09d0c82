use Rattle.std.proofs.Common.{◌∙◌}
use Rattle.tt_screen.proofs.ReadBytes.{Fed, asked_more, asked_turn, fed_column, fed_more}
use Rattle.tt_screen.proofs.program.feed_all.Goals as goal

pub loop-turn-preserved : goal.loop-turn-preserved
loop-turn-preserved g c =
    let fed : Fed _ _ _ _ _ =
    fed_more _ _ _ _ _ c.loop-turn.invariant.fed (g.K.Source.left c.get.new.self) c.in-Byte.byte c.feed.new.self
    c.in-Byte.ensures.bytes c.feed.ensures in
    record {
      fed = fed;
      column = fed_column _ _ _ _ _ fed;
      gets = asked_turn _ _ _ (asked_more _ _ _ _ c.loop-turn.invariant.gets c.get.ensures.asked);
      keys = c.in-Byte.ensures.cause ∙ c.loop-turn.invariant.keys;
    }
