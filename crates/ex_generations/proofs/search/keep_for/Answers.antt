use Rattle.std.proofs.Common.{sym}
use Rattle.ex_generations.proofs.Retention.{keep_for-last, keep_for-none}
use Rattle.ex_generations.proofs.search.keep_for.Goals as goal

pub returns-in-Some : goal.returns-in-Some
returns-in-Some c = sym (keep_for-last c.args.keep c.args.files.now c.in-Some.file.now (sym c.in-Some.ensures.value))

pub returns-in-None : goal.returns-in-None
returns-in-None c = sym (keep_for-none c.args.keep c.args.files.now (sym c.in-None.ensures.value))
