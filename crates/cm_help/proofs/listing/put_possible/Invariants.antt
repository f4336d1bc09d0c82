-- What the blocks from here on give is left to be put.
use Rattle.std.proofs.Common.{drop, true}
use Rattle.cm_blocks.specs.Once.{fields_at}
use Rattle.cm_blocks.specs.Setting.{setting}
use Rattle.cm_io.proofs.Texts.{Left}
use Rattle.cm_help.proofs.Joins.{left}
use Rattle.cm_help.proofs.listing.put_possible.Given as goal

abbrev pub invariant-loop-block : goal.invariant-loop-block
invariant-loop-block g l =
    let s = setting l.grammar (g.N.Names.catalogue l.names) (g.R.Rules.meanings l.rules) in
    let atom = drop l.at l.line in
    let fields = fields_at l.fields in
    Left g.S.Sink l.fn.out l.out
    (left s fields atom l.at l.first (drop l.block-index l.blocks)) (left s fields atom l.at true l.blocks)
