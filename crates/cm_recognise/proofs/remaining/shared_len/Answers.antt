use Rattle.std.proofs.Common.{◌≡◌, ℕ, ◌+◌, Bool, cond, nat_eq, List, [], ◌∷◌, refl, ap, rules, tests, ◌∙◌}
use Rattle.std.specs.Char.{to_ascii_lowercase}
use Rattle.std.specs.List.{common_prefix_len, prefix_len, zip}
use Rattle.std.proofs.lemmas.Iterator.{YieldsList-from_slice, YieldsList-from_zip}
use Rattle.std.proofs.lemmas.Iterator.Consumers.{YieldsList-at, count_from_yields_List}
use Rattle.std.proofs.lemmas.Iterator.Search.{YieldsList-from_take_while}
use Rattle.std.proofs.lemmas.List.Folds.{length-prefix_len}
use Rattle.cm_text.specs.BeginLaws.{lower}
use Rattle.cm_recognise.proofs.remaining.shared_len.Goals as goal

abbrev is_same : ℕ × ℕ → Bool
is_same pair = nat_eq (to_ascii_lowercase pair.0) (to_ascii_lowercase pair.1)

prefix_len-zip : (xs ys : List ℕ) → prefix_len is_same (zip xs ys) ≡ common_prefix_len nat_eq (lower xs) (lower ys)
prefix_len-zip [] ys = refl
prefix_len-zip (x ∷ xs) [] = refl
prefix_len-zip (x ∷ xs) (y ∷ ys) =
    ap (λ size. cond (nat_eq (to_ascii_lowercase x) (to_ascii_lowercase y)) (1 + size) 0) (prefix_len-zip xs ys)

pub returns-clause-value : goal.returns-clause-value
returns-clause-value c =
    let text = c.args.text.now in
    let other = c.args.other.now in
    count_from_yields_List c.take_while.result _ c.count.ensures.ran
    (YieldsList-from_take_while _ is_same
    (YieldsList-at c.take_while.ensures.source (YieldsList-from_zip (YieldsList-from_slice text (cc)) (YieldsList-from_slice other (cc))))
    c.take_while.ensures.closure c.take_while.ensures.done (λ x b q k. search (rules, tests)))
    ∙ length-prefix_len is_same (zip text other) ∙ prefix_len-zip text other
