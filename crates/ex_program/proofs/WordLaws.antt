-- What words ask for, by their number.
use Rattle.std.proofs.Common.{◌≡◌, false, Option, Some, None, sym, ap, ◌∙◌}
use Rattle.cm_io.specs.Words.{Given}
use Rattle.ex_system.specs.Form.{Three, Two, pair_of, triple_of}
use Rattle.ex_program.specs.Form.{files_of, form_by, form_of, lines_after, lines_of, lines_of_pair, with_log}

pub of_two : (given : Given) (two : Two) → Some two ≡ pair_of given → form_of given ≡ files_of false two.first two.second
unfolding form_of
of_two given two is = ap (λ (it : Option Two). form_by it (triple_of given)) (sym is)

pub of_three : (given : Given) (three : Three) → None ≡ pair_of given → Some three ≡ triple_of given
    → form_of given ≡ with_log three.first three.second three.third
unfolding form_of
of_three given three none is =
    ap (λ (it : Option Two). form_by it (triple_of given)) (sym none) ∙ ap (λ (it : Option Three). form_by None it) (sym is)

pub of_others : (given : Given) → None ≡ pair_of given → None ≡ triple_of given → form_of given ≡ None
unfolding form_of
of_others given none neither =
    ap (λ (it : Option Two). form_by it (triple_of given)) (sym none) ∙ ap (λ (it : Option Three). form_by None it) (sym neither)

pub lines_of_two : (given : Given) (two : Two) → Some two ≡ pair_of given → lines_of given ≡ lines_after two.first two.second
unfolding lines_of
lines_of_two given two is = ap (λ (it : Option Two). lines_of_pair it) (sym is)

pub lines_of_others : (given : Given) → None ≡ pair_of given → lines_of given ≡ None
unfolding lines_of
lines_of_others given none = ap (λ (it : Option Two). lines_of_pair it) (sym none)
