use Rattle.std.proofs.Common.{◌≡◌, ◌∙◌, arith, eq-eqb, sym}
use Rattle.std.proofs.lemmas.Bool.Decides.{nat_tests}
use Rattle.cm_text.proofs.SetBits.{empty_is_none, none_is_empty}
use Rattle.cm_text.proofs.byte_set.ByteSet.is_empty.Goals as goal

pub returns-clause-none : goal.returns-clause-none
returns-clause-none c = (
  λ is. let none : c.self.inside.bits ≡ 0 = grind (arith, nat_tests) in
      none_is_empty c.args.self (sym c.self.view_is ∙ none),
  λ none. eq-eqb c.self.inside.bits 0 (c.self.view_is ∙ empty_is_none c.args.self none),
)
