-- The phrases of the blocks from here on are left to be put.
use Rattle.std.proofs.Common.{[], drop, false, map}
use Rattle.cm_blocks.specs.Once.{fields_at}
use Rattle.cm_io.proofs.Texts.{Left}
use Rattle.cm_help.specs.Help.{listing}
use Rattle.cm_help.specs.Phrase.{phrase}
use Rattle.cm_help.proofs.listing.put_untouched.Given as goal

abbrev pub invariant-loop-block : goal.invariant-loop-block
invariant-loop-block g l =
    let phrases = map (phrase l.grammar (g.R.Rules.meanings l.rules) (fields_at l.fields) []) in
    Left g.S.Sink l.fn.out l.out (listing false (phrases (drop l.block-index l.blocks))) (listing false (phrases l.blocks))
