-- The records of the parts from here on are left.
use Rattle.std.proofs.Common.{drop}
use Rattle.std.specs.List.{flat_map}
use Rattle.ex_image.specs.Record.{record_text}
use Rattle.ex_image.proofs.Leaves.{Leaves}
use Rattle.ex_image.proofs.records.put_each.Given as goal

abbrev pub invariant-loop-i : goal.invariant-loop-i
invariant-loop-i g l =
    Leaves g.T.Target.tells (g.T.Target.outside l.fn.target) (g.T.Target.outside l.target)
    (flat_map record_text (drop l.i (g.S.Series.records l.parts)))
    (flat_map record_text (g.S.Series.records l.parts))
