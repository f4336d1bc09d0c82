use Rattle.std.proofs.Common.{◌==◌, rules, tests}
use Rattle.std.proofs.lemmas.Iterator.Consumers.{count_from_yields_List}
use Rattle.std.proofs.lemmas.Iterator.Splits.{YieldsList-from_slice_split}
use Rattle.cm_io_tests.specs.Image.{pieces}
use Rattle.cm_io_tests.proofs.pieces.count_pieces.Goals as goal

pub returns-clause-value : goal.returns-clause-value
unfolding pieces
returns-clause-value c =
    count_from_yields_List _ _ c.count.ensures.ran
    (YieldsList-from_slice_split _ (λ byte. byte == 47) c.args.image.now c.split.ensures.rest c.split.ensures.done
    c.split.ensures.closure (λ x b q k. search (rules, tests)))
