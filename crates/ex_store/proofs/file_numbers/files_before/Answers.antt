use Rattle.std.proofs.Common.{◌<◌, ap, ◌∙◌, arith}
use Rattle.std.proofs.lemmas.Bool.Decides.{nat_tests}
use Rattle.ex_store.specs.declared.family.Family.{Family}
use Rattle.ex_store.proofs.FileNumbersLaws.{files_before_is}
use Rattle.ex_store.proofs.file_numbers.files_before.Goals as goal

pub returns-else-n-eq0 : goal.returns-else-n-eq0
returns-else-n-eq0 c =
    let some : 0 < c.args.n = grind (arith, nat_tests, c.if-n-eq0.false) in
    files_before_is c.args.families.now c.args.n c.end.result c.index-families-n.result c.requires.counted c.requires.within some
    (c.end.ensures ∙ ap (λ (it : Family). it.end) c.index-families-n.is)
