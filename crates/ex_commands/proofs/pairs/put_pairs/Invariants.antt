-- The lines of the pairs from here on are left to be written.
use Rattle.std.proofs.Common.{drop}
use Rattle.std.specs.List.{flat_map}
use Rattle.cm_io.proofs.Texts.{Left}
use Rattle.ex_commands.specs.Replies.{origin_line}
use Rattle.ex_commands.proofs.pairs.put_pairs.Given as goal

abbrev pub invariant-loop-i : goal.invariant-loop-i
invariant-loop-i g l =
    Left g.S.Sink l.fn.out l.out (flat_map (origin_line l.origin) (drop l.i l.ready.pairs))
    (flat_map (origin_line l.origin) l.ready.pairs)
