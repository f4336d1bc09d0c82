-- A field is the same on every text that begins with as many bytes as it needs.
use Rattle.std.proofs.Common.{◌≡◌, ℕ, ◌+◌, ◌<◌, ◌≤◌, max, Bool, true, false, if◌then◌else◌, List, [], ◌∷◌, ◌++◌, length, drop, Option, Some, None, slice_get, refl, ap, sym, subst, ◌∙◌, arith, length-drop, length-append}
use Rattle.std.proofs.lemmas.List.{drop-append-le}
use Rattle.cm_fields.specs.declared.code.Code.{Code}
use Rattle.cm_fields.specs.declared.code.Code.TheVariants.{NotConfirmed}
use Rattle.cm_fields.specs.declared.trial.Try.{Try}
use Rattle.cm_fields.specs.declared.trial.Try.TheVariants.{Accept, Refuse, More}
use Rattle.cm_fields.specs.declared.value.Value.{Value}
use Rattle.cm_fields.specs.Local.{Holds}
use Rattle.cm_fields.specs.Skip.{skip}
use Rattle.cm_fields.proofs.Skips.{skip_stays_before, skip_within}
use Rattle.cm_blocks.specs.declared.chain.Walk.{Walk}
use Rattle.cm_blocks.specs.declared.chain.Walk.TheVariants.{Takes, Wants, Fails}
use Rattle.cm_blocks.specs.declared.field.Chain.{Chain}
use Rattle.cm_blocks.specs.declared.field.Chain.TheVariants as chain
use Rattle.cm_blocks.specs.declared.function.Role.{Role}
use Rattle.cm_blocks.specs.declared.node.Block.{Block}
use Rattle.cm_blocks.specs.declared.node.Node.{Node}
use Rattle.cm_blocks.specs.Chain.{ChainLeads, Leads, at_node, by_default, chain_at, code_of, is_confirm, is_line_end, later_code, on_default, on_text, or_later, past_skip, typed, walk}
use Rattle.cm_blocks.specs.Fault.{grammar_fault}
use Rattle.cm_blocks.specs.Setting.{Setting}
use Rattle.cm_blocks.specs.FieldView.{FieldView}
use Rattle.cm_blocks.specs.Trial.{looked_of, next_of, trial}
use Rattle.cm_blocks.specs.Well.{IsWell}
use Rattle.cm_blocks.proofs.Trials.{trial_is_local}
use Rattle.cm_blocks.proofs.Walks.{choice_leads, some_node}
use Rattle.cm_blocks.proofs.Wells.{well_node}

-- the walk by the answer of its first block
pub walk_step : (s : Setting) (rest : List ℕ) (at number looked : ℕ) (code : Code) (block : Block) (blocks : List Block) (answer : Try)
    → trial s block.function block.flags rest at ≡ answer
    → walk s rest at number looked code (block ∷ blocks)
    ≡ or_later s.graph number (max looked (looked_of (length rest) answer)) block answer
    (walk s rest at (number + 1) (max looked (looked_of (length rest) answer)) (code_of code answer) blocks)
walk_step s rest at number looked code block blocks answer is =
    ap (λ (t : Try). or_later s.graph number (max looked (looked_of (length rest) t)) block t
    (walk s rest at (number + 1) (max looked (looked_of (length rest) t)) (code_of code t) blocks)) is

-- so many bytes decide what a walk takes, or more
abbrev TakesLeast : ℕ → Walk → Type 0
TakesLeast looked (Takes block role next value seen end) = looked ≤ seen
TakesLeast looked (Wants block) = Unit {0}
TakesLeast looked (Fails code) = Unit {0}

takes_less : (low looked : ℕ) (walked : Walk) → low ≤ looked → TakesLeast looked walked → TakesLeast low walked
takes_less low looked (Takes block role next value seen end) below least = omega arith
takes_less low looked (Wants block) below least = tt
takes_less low looked (Fails code) below least = tt

walk_least : (s : Setting) (rest : List ℕ) (at number looked : ℕ) (code : Code) (blocks : List Block)
    → TakesLeast looked (walk s rest at number looked code blocks)
walk_least s rest at number looked code [] = tt
walk_least s rest at number looked code (block ∷ blocks) =
    by (trial s block.function block.flags rest at) (λ seen later. walk_least s rest at (number + 1) seen later blocks)
  where
    by : (answer : Try) → ((seen : ℕ) (later : Code) → TakesLeast seen (walk s rest at (number + 1) seen later blocks))
        → TakesLeast looked (or_later s.graph number (max looked (looked_of (length rest) answer)) block answer
        (walk s rest at (number + 1) (max looked (looked_of (length rest) answer)) (code_of code answer) blocks))
    by (Accept value seen end) after = omega arith
    by (Refuse refusal seen) after = takes_less looked (max looked seen) _ (omega arith) (after (max looked seen) (later_code code refusal))
    by More after = tt

-- the answer to a text whose first bytes decide it, on another text that begins with them
same_accepted : (size : ℕ) (first other : Try) (value : Value) (looked end : ℕ) → Holds size first other
    → first ≡ Accept value looked end → looked ≤ size → other ≡ Accept value looked end
same_accepted size first other value looked end holds is within =
    let same = subst (λ (t : Try). Holds size t other) is holds in same within

same_refused : (size : ℕ) (first other : Try) (code : Code) (looked : ℕ) → Holds size first other
    → first ≡ Refuse code looked → looked ≤ size → other ≡ Refuse code looked
same_refused size first other code looked holds is within =
    let same = subst (λ (t : Try). Holds size t other) is holds in same within

-- what a walk takes that the first bytes decide it takes however the text goes on
walk_keeps : (s : Setting) (front more other : List ℕ) (at number looked : ℕ) (code : Code) (blocks : List Block)
    (taken_block : ℕ) (role : Role) (next : ℕ) (value : Value) (seen end : ℕ) → seen ≤ length front
    → walk s (front ++ more) at number looked code blocks ≡ Takes taken_block role next value seen end
    → walk s (front ++ other) at number looked code blocks ≡ Takes taken_block role next value seen end
walk_keeps s front more other at number looked code [] taken_block role next value seen end within is = cc
walk_keeps s front more other at number looked code (block ∷ blocks) taken_block role next value seen end within is =
    by (trial s block.function block.flags (front ++ more) at) refl
    (λ first later. walk_keeps s front more other at (number + 1) first later blocks taken_block role next value seen end within)
  where
    local : Holds (length front) (trial s block.function block.flags (front ++ more) at) (trial s block.function block.flags (front ++ other) at)
    local = (trial_is_local s block.function block.flags).decided front more other at

    by : (answer : Try) → trial s block.function block.flags (front ++ more) at ≡ answer
        → ((first : ℕ) (later : Code) → walk s (front ++ more) at (number + 1) first later blocks ≡ Takes taken_block role next value seen end
        → walk s (front ++ other) at (number + 1) first later blocks ≡ Takes taken_block role next value seen end)
        → walk s (front ++ other) at number looked code (block ∷ blocks) ≡ Takes taken_block role next value seen end
    by (Accept found bytes place) t after =
        let first = walk_step s (front ++ more) at number looked code block blocks (Accept found bytes place) t in
        let all : Takes number block.role (next_of s.graph block found) found (max looked bytes) place
        ≡ Takes taken_block role next value seen end = sym first ∙ is in
        let most : max looked bytes ≡ seen = cc in
        let same = same_accepted (length front) _ (trial s block.function block.flags (front ++ other) at) found bytes place local t (omega arith) in
        walk_step s (front ++ other) at number looked code block blocks (Accept found bytes place) same ∙ all
    by (Refuse refusal bytes) t after =
        let first = walk_step s (front ++ more) at number looked code block blocks (Refuse refusal bytes) t in
        let rest : walk s (front ++ more) at (number + 1) (max looked bytes) (later_code code refusal) blocks
        ≡ Takes taken_block role next value seen end = sym first ∙ is in
        let least = subst (TakesLeast (max looked bytes)) rest (walk_least s (front ++ more) at (number + 1) (max looked bytes) (later_code code refusal) blocks) in
        let same = same_refused (length front) _ (trial s block.function block.flags (front ++ other) at) refusal bytes local t (omega arith) in
        walk_step s (front ++ other) at number looked code block blocks (Refuse refusal bytes) same
        ∙ after (max looked bytes) (later_code code refusal) rest
    by More t after =
        let first = walk_step s (front ++ more) at number looked code block blocks More t in
        let never : Wants number ≡ Takes taken_block role next value seen end = sym first ∙ is in cc

-- a walk whose answer is a field
record IsTyped (number start : ℕ) (walked : Walk) (field : FieldView) : Type 0 where
  block : ℕ
  role : Role
  next : ℕ
  value : Value
  looked : ℕ
  end : ℕ
  is : walked ≡ Takes block role next value looked end
  need : field.need ≡ start + looked

pub field_of_choice : (test : Bool) (place : ℕ) (taken field : FieldView)
    → (if test then chain.Done place else chain.Field taken) ≡ chain.Field field → taken ≡ field
field_of_choice true place taken field is = cc
field_of_choice false place taken field is = cc

typed_field : (number start : ℕ) (walked : Walk) (field : FieldView) → typed number start walked ≡ chain.Field field
    → IsTyped number start walked field
typed_field number start (Takes block role next value looked end) field is =
    let same = field_of_choice (is_confirm value) end _ field is in
    record {
      block = block;
      role = role;
      next = next;
      value = value;
      looked = looked;
      end = end;
      is = refl;
      need = sym (ap (λ (taken : FieldView). taken.need) same);
    }
typed_field number start (Wants block) field is = cc
typed_field number start (Fails code) field is = cc

text_keeps : (s : Setting) (number : ℕ) (node : Node) (front more other : List ℕ) (start : ℕ) (field : FieldView)
    → field.need ≤ start + length front → (on_text s number node (front ++ more) start).chain ≡ chain.Field field
    → (on_text s number node (front ++ other) start).chain ≡ chain.Field field
text_keeps s number node front more other start field within is =
    let t = typed_field number start (walk s (front ++ more) start 0 0 NotConfirmed node.chain) field is in
    let need = t.need in
    let kept = walk_keeps s front more other start 0 0 NotConfirmed node.chain t.block t.role t.next t.value t.looked t.end (omega arith) t.is in
    ap (typed number start) (kept ∙ sym t.is) ∙ is

-- whether the line ends at once, where there is a byte
line_end_same : (front more other : List ℕ) → 0 < length front → is_line_end (front ++ more) ≡ is_line_end (front ++ other)
line_end_same [] more other some = absurd (omega arith)
line_end_same (byte ∷ front) more other some = refl

default_keeps : (s : Setting) (number : ℕ) (node : Node) (front more other : List ℕ) (start : ℕ) (default : Option (List ℕ))
    (field : FieldView) → 0 < length front → field.need ≤ start + length front
    → (by_default s number node (front ++ more) start default).chain ≡ chain.Field field
    → (by_default s number node (front ++ other) start default).chain ≡ chain.Field field
default_keeps s number node front more other start None field some within is = text_keeps s number node front more other start field within is
default_keeps s number node front more other start (Some text) field some within is =
    by (is_line_end (front ++ more)) (is_line_end (front ++ other)) (line_end_same front more other some) is
  where
    by : (test same : Bool) → test ≡ same
        → (if test then on_default s number node start text else on_text s number node (front ++ more) start).chain ≡ chain.Field field
        → (if same then on_default s number node start text else on_text s number node (front ++ other) start).chain ≡ chain.Field field
    by true true equal is = is
    by true false equal is = cc
    by false true equal is = cc
    by false false equal is = text_keeps s number node front more other start field within is

need_of : (nodes at size : ℕ) (answer : Chain) (field : FieldView) → ChainLeads nodes at size answer → answer ≡ chain.Field field → at < field.need
need_of nodes at size answer field leads is =
    let all : Leads nodes at size field = subst (ChainLeads nodes at size) is leads in
    omega (arith, all.start, all.need)

node_keeps : (s : Setting) (number : ℕ) (node : Node) (front more other : List ℕ) (at : ℕ) (field : FieldView)
    → IsWell s.graph node → 0 < length s.graph.nodes → at ≤ length front → field.need ≤ length front
    → (past_skip s number node (front ++ more) at (skip node.raw (front ++ more) at)).chain ≡ chain.Field field
    → (past_skip s number node (front ++ other) at (skip node.raw (front ++ other) at)).chain ≡ chain.Field field
node_keeps s number node front more other at field well some within need is =
    by (skip node.raw (front ++ more) at) refl is
  where
    by : (found : Option ℕ) → skip node.raw (front ++ more) at ≡ found
        → (past_skip s number node (front ++ more) at found).chain ≡ chain.Field field
        → (past_skip s number node (front ++ other) at (skip node.raw (front ++ other) at)).chain ≡ chain.Field field
    by None found is = cc
    by (Some start) found is =
        let whole = length-append front more in
        let reached = skip_within node.raw (front ++ more) at start (omega arith) found in
        let leads = choice_leads s number node (front ++ more) start start node.default well some (omega arith) (omega arith) in
        let before = need_of _ start _ _ field leads is in
        let same = skip_stays_before node.raw front more other at start within found (omega arith) in
        let first = drop-append-le start front more (omega arith) in
        let second = drop-append-le start front other (omega arith) in
        let size = length-drop start front in
        let kept = default_keeps s number node (drop start front) more other start node.default field (omega arith) (omega arith)
        (subst (λ (rest : List ℕ). (by_default s number node rest start node.default).chain ≡ chain.Field field) first is) in
        let there : (past_skip s number node (front ++ other) at (Some start)).chain ≡ chain.Field field =
        subst (λ (rest : List ℕ). (by_default s number node rest start node.default).chain ≡ chain.Field field) (sym second) kept in
        subst (λ (found : Option ℕ). (past_skip s number node (front ++ other) at found).chain ≡ chain.Field field) (sym same) there

pub chain_keeps : (s : Setting) → grammar_fault s.graph ≡ None → (number : ℕ) (front more other : List ℕ) (at : ℕ) (field : FieldView)
    → at ≤ length front → (chain_at s number (front ++ more) at).chain ≡ chain.Field field → field.need ≤ length front
    → (chain_at s number (front ++ other) at).chain ≡ chain.Field field
unfolding chain_at
chain_keeps s none number front more other at field within is need = by (slice_get s.graph.nodes number) refl is
  where
    by : (found : Option Node) → slice_get s.graph.nodes number ≡ found
        → (at_node s number (front ++ more) at found).chain ≡ chain.Field field
        → (at_node s number (front ++ other) at found).chain ≡ chain.Field field
    by None found is = cc
    by (Some node) found is =
        node_keeps s number node front more other at field (well_node s.graph number node none found)
        (some_node s.graph number node found) within need is
