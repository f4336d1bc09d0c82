use Rattle.std.proofs.Common.{rules, ◌∙◌}
use Rattle.std.specs.Ordering.{is_lt}
use Rattle.std.proofs.lemmas.List.Sorted.{IsPartitionPoint-from_clause}
use Rattle.cm_lists.proofs.Places.{lower_falls}
use Rattle.cm_files.specs.Catalogue.{by_bytes}
use Rattle.ex_store.specs.declared.family.Family.{Family}
use Rattle.ex_store.proofs.FileNumbersLaws.{counted_taken, rows_before}
use Rattle.ex_store.proofs.file_numbers.first_of.Goals as goal

pub files_before-requires-clause-counted : goal.files_before-requires-clause-counted
files_before-requires-clause-counted c = counted_taken 0 c.args.families.now c.seek-n.result c.requires.counted

pub returns : goal.returns
returns c =
    c.files_before.ensures
    ∙ rows_before is_lt lower_falls c.args.directory.now c.args.families.now c.seek-n.result c.requires.families c.seek-n.ensures.bound
    (λ parted. IsPartitionPoint-from_clause (λ (family : Family). is_lt (by_bytes family.key.directory c.args.directory.now)) _ _
    c.seek-n.ensures.parted parted (λ a r f k. search rules))
