-- The blocks from here on take the text where all do.
use Rattle.std.proofs.Common.{◌≡◌, drop}
use Rattle.cm_fields.specs.declared.code.Code.TheVariants.{NotConfirmed}
use Rattle.cm_blocks.specs.Chain.{walk}
use Rattle.cm_blocks.specs.Default.{bare, is_takes}
use Rattle.cm_blocks.proofs.default.take.Given as goal

abbrev pub invariant-loop-block : goal.invariant-loop-block
invariant-loop-block l =
    is_takes (walk (bare l.grammar) (drop l.at l.text) l.at 0 0 NotConfirmed (drop l.block-index l.blocks))
    ≡ is_takes (walk (bare l.grammar) (drop l.at l.text) l.at 0 0 NotConfirmed l.blocks)
