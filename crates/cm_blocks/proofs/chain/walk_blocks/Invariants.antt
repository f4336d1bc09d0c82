-- The walk over all blocks goes on with those from here on, and so does its cost.
use Rattle.std.proofs.Common.{◌≡◌, ◌+◌, ◌≤◌, drop}
use Rattle.cm_fields.specs.declared.code.Code.TheVariants.{NotConfirmed}
use Rattle.cm_blocks.specs.Chain.{spent, walk}
use Rattle.cm_text.specs.declared.text.TheConstants.{TEXT_LIMIT}
use Rattle.cm_blocks.specs.Setting.{setting}
use Rattle.cm_blocks.proofs.chain.walk_blocks.Given as goal

abbrev pub invariant-loop-number : goal.invariant-loop-number
invariant-loop-number g l =
    let s = setting l.grammar (g.N.Names.catalogue l.names) (g.R.Rules.meanings l.rules) in
    let rest = drop l.at l.text in
    record {
      walk : walk s rest l.at l.number l.looked l.code (drop l.number l.blocks)
          ≡ walk s rest l.at 0 0 NotConfirmed l.blocks;
      steps : l.steps + spent s rest l.at (drop l.number l.blocks) ≡ l.fn.steps + spent s rest l.at l.blocks;
      near : l.looked ≤ TEXT_LIMIT;
    }
