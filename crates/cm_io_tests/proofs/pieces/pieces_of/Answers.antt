use Rattle.std.proofs.Common.{◌==◌, rules, tests}
use Rattle.std.proofs.lemmas.Iterator.Consumers.{map_from_collect}
use Rattle.std.proofs.lemmas.Iterator.Splits.{YieldsList-from_slice_split}
use Rattle.cm_io_tests.specs.Image.{pieces}
use Rattle.cm_io_tests.proofs.pieces.pieces_of.Goals as goal

pub returns : goal.returns
unfolding pieces
returns c =
    map_from_collect _ c.collect.ensures.ran
    (YieldsList-from_slice_split _ (λ byte. byte == 47) c.args.image.now c.split.ensures.rest c.split.ensures.done
    c.split.ensures.closure (λ x b q k. search (rules, tests)))
