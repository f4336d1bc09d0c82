use Rattle.std.proofs.Common.{◌≡◌, ◌+◌, ◌++◌, ℕ, List, drop, length, take, refl, ap, ◌∙◌, arith}
use Rattle.ex_store.specs.declared.family.Family.{Family}
use Rattle.ex_store.specs.Families.{counted, rows_of}
use Rattle.ex_store.proofs.FileNumbersLaws.{counted_from, length_parted}
use Rattle.ex_store.proofs.file_numbers.count.Goals as goal

pub loop-i-init : goal.loop-i-init
loop-i-init c =
    let families = c.args.families.now.items in
    let before : c.files_before-before.result ≡ length (rows_of (take c.args.at families)) =
    c.files_before-before.ensures ∙ ap (λ (it : List Family). length (rows_of (take c.args.at it))) c.deref.ensures.value in
    let start : c.files_before-before.result ≡ 0 + length (rows_of (take c.args.at families)) = omega (arith, before) in
    record {
      so_far = ap (λ (n : ℕ). take c.args.at families ++ counted n (drop c.args.at families)) start
          ∙ counted_from 0 families c.args.at c.requires.counted;
      few = omega (arith, before, length_parted families c.args.at, c.requires.few);
      len = refl;
    }
