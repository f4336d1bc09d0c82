-- A parse makes a chain trial for each of its fields, and one more.
use Rattle.std.proofs.Common.{◌≡◌, ℕ, zero, suc, ◌+◌, ◌≤◌, List, [], ◌∷◌, ◌++◌, length, refl, arith}
use Rattle.cm_blocks.specs.Count.{trials_after, trials_from, trials_of}
use Rattle.cm_blocks.specs.FieldView.{FieldView}
use Rattle.cm_blocks.specs.Parse.{Parse, after_chain, answer_at, parse_from, parse_of}
use Rattle.cm_blocks.specs.Setting.{Setting}
use Rattle.cm_blocks.specs.declared.field.Chain.{Chain}
use Rattle.cm_blocks.specs.declared.field.Chain.TheVariants as chain
use Rattle.cm_blocks.specs.declared.field.TheConstants.{FIELD_LIMIT}
use Rattle.cm_blocks.proofs.Parses.{parse_of_parses}

count_from : (s : Setting) (text : List ℕ) (before : List FieldView) (room node at : ℕ)
    → trials_from s text before room node at ≡ length (parse_from s text before room node at).fields + 1
count_from s text before zero node at = refl
count_from s text before (suc room) node at =
    by (answer_at s text before node at) (λ field. count_from s text (before ++ field ∷ []) room field.next field.end)
  where
    trials : FieldView → ℕ
    trials field = trials_from s text (before ++ field ∷ []) room field.next field.end

    after : FieldView → Parse
    after field = parse_from s text (before ++ field ∷ []) room field.next field.end

    by : (answer : Chain) → ((field : FieldView) → trials field ≡ length (after field).fields + 1)
        → 1 + trials_after trials answer ≡ length (after_chain after answer).fields + 1
    by (chain.Field field) later = let rest = later field in omega (arith, rest)
    by (chain.Done place) later = refl
    by (chain.Fault fault) later = refl
    by (chain.Open place) later = refl

-- one for each field, and the last
pub trials_are : (s : Setting) (node : ℕ) (text : List ℕ)
    → trials_of s node text ≡ length (parse_of s node text).fields + 1
unfolding trials_of parse_of
trials_are s node text = count_from s text [] FIELD_LIMIT node 0

-- so they are 65 at most
pub trials_few : (s : Setting) (node : ℕ) (text : List ℕ) → trials_of s node text ≤ 65
trials_few s node text =
    let all = trials_are s node text in
    let few = (parse_of_parses s node text).few in
    omega (arith, all, few)
