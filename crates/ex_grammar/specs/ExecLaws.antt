-- What the EXEC's hooks complete whole they take.
use Rattle.std.proofs.Common.{◌≡◌, ℕ, Bool, true, false, cond, ◌==◌, List, refl, arith, subst}
use Rattle.std.proofs.lemmas.Bool.Decides.{nat_tests}
use Rattle.cm_text.specs.Bytes.{is_name, is_word}
use Rattle.cm_hooks.specs.Among.{are_names, completion_among}
use Rattle.cm_hooks.specs.AmongLaws.{among_completes}
use Rattle.cm_hooks.specs.declared.answer.Tail.TheVariants as tails
use Rattle.cm_hooks.specs.Meanings.{Completes, IsLawful}
use Rattle.ex_grammar.specs.ExecRules.{exec_meanings, forms, rule_completion, rule_verdict}

forms_are_names : are_names forms ≡ true
unfolding is_name is_word
forms_are_names = refl

rule_completes : (id : ℕ) (atom : List ℕ) → Completes is_name (rule_verdict id) atom (rule_completion id atom)
rule_completes id atom = by (id == 1) refl
  where
    by : (b : Bool) → (id == 1) ≡ b
        → Completes is_name (rule_verdict id) atom (cond b (completion_among forms atom) tails.None)
    by true is_one =
        let one : 1 ≡ id = grind (arith, nat_tests) in
        subst (λ n. Completes is_name (rule_verdict n) atom (completion_among forms atom)) one
        (among_completes forms forms_are_names atom)
    by false other = tt

-- the law of the EXEC's rules
pub exec_lawful : IsLawful exec_meanings
exec_lawful = record { completes = λ id atom short. rule_completes id atom }
