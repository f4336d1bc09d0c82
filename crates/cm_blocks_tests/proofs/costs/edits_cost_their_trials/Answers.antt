use Rattle.std.proofs.Common.{refl}
use Rattle.cm_text.specs.Bytes.{is_blank, is_word}
use Rattle.cm_text.specs.Case.{begins_with, equals}
use Rattle.cm_tables.specs.Look.{look}
use Rattle.cm_fields.specs.Run.{word_of}
use Rattle.cm_blocks.specs.Chain.{chain_at}
use Rattle.cm_blocks.specs.Keyword.{entry_position}
use Rattle.cm_blocks.specs.KeptParse.{cost, kept}
use Rattle.cm_blocks.specs.Once.{repeats}
use Rattle.cm_blocks.specs.Parse.{parse_of}
use Rattle.cm_blocks.specs.Trial.{trial}
use Rattle.cm_blocks_tests.proofs.costs.edits_cost_their_trials.Goals as goal

pub returns : goal.returns
unfolding cost kept parse_of repeats chain_at trial entry_position look begins_with equals word_of is_blank is_word
returns c = λ catalogue meanings flags. (refl, refl, refl, refl, refl, refl, refl)
