-- The blocks from here on put in what all of them do.
use Rattle.std.proofs.Common.{◌≡◌, drop}
use Rattle.cm_blocks.specs.Once.{fields_at}
use Rattle.cm_blocks.specs.Setting.{setting}
use Rattle.cm_recognise.specs.Insertion.{first_put}
use Rattle.cm_recognise.proofs.insertion.first_put.Given as goal

abbrev pub invariant-loop-block : goal.invariant-loop-block
invariant-loop-block g l =
    let s = setting l.grammar (g.N.Names.catalogue l.names) (g.R.Rules.meanings l.rules) in
    let atom = drop l.at l.line in
    first_put s (fields_at l.fields) l.mode atom l.at (drop l.block-index l.blocks) ≡ first_put s (fields_at l.fields) l.mode atom l.at l.blocks
