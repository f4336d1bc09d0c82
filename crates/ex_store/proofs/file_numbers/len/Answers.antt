use Rattle.std.proofs.Common.{length}
use Rattle.ex_store.proofs.FileNumbersLaws.{counted_taken}
use Rattle.ex_store.proofs.file_numbers.len.Goals as goal

pub files_before-requires-clause-counted : goal.files_before-requires-clause-counted
files_before-requires-clause-counted c = counted_taken 0 c.args.families.now (length c.args.families.now) c.requires
