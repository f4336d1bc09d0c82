use Rattle.std.proofs.Common.{◌==◌, ◌&&◌, nat_lt, length, rules, tests}
use Rattle.std.proofs.lemmas.Iterator.Search.{all_from_yields_List}
use Rattle.std.proofs.lemmas.Iterator.Splits.{YieldsList-from_slice_split}
use Rattle.cm_files.specs.Catalogue.{is_upper_name}
use Rattle.ex_store_tests.proofs.machine.forms.are_parts.Goals as goal

pub returns : goal.returns
returns c =
    all_from_yields_List (λ part. nat_lt 0 (length part) && is_upper_name part) _ _ _ c.all.ensures.ran
    (YieldsList-from_slice_split _ (λ byte. byte == 46) c.args.text.now c.split.ensures.rest c.split.ensures.done c.split.ensures.closure (λ x b q k. search (rules, tests)))
    (λ x b q k. search (rules, tests))
