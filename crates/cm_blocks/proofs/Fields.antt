-- The block whose trial took a field, or the end of the line, and the text that it was tried on.
use Rattle.std.proofs.Common.{◌≡◌, ℕ, suc, ◌+◌, max, Bool, true, false, if◌then◌else◌, List, [], ◌∷◌, drop, Option, Some, None, slice_get, refl, ap, sym, subst, ◌∙◌, arith}
use Rattle.std.specs.List.{find}
use Rattle.cm_text.specs.Text.{finished}
use Rattle.cm_fields.specs.declared.code.Code.{Code}
use Rattle.cm_fields.specs.declared.code.Code.TheVariants.{NotConfirmed}
use Rattle.cm_fields.specs.declared.trial.Try.{Try}
use Rattle.cm_fields.specs.declared.trial.Try.TheVariants.{Accept, Refuse, More}
use Rattle.cm_fields.specs.declared.value.Value.{Value}
use Rattle.cm_fields.specs.Skip.{skip}
use Rattle.cm_blocks.specs.declared.chain.Walk.{Walk}
use Rattle.cm_blocks.specs.declared.chain.Walk.TheVariants.{Takes, Wants, Fails}
use Rattle.cm_blocks.specs.declared.field.Chain.TheVariants as chain
use Rattle.cm_blocks.specs.declared.function.Role.{Role}
use Rattle.cm_blocks.specs.declared.node.Block.{Block}
use Rattle.cm_blocks.specs.declared.node.Node.{Node}
use Rattle.cm_blocks.specs.Chain.{answered, at_node, by_default, chain_at, default_place, default_rest, defaulted, is_confirm, is_line_end, later_code, on_default, on_text, past_skip, typed, walk}
use Rattle.cm_blocks.specs.Parse.{Follow}
use Rattle.cm_blocks.specs.Setting.{Setting}
use Rattle.cm_blocks.specs.FieldView.{FieldView}
use Rattle.cm_blocks.specs.Trial.{next_of, trial}
use Rattle.cm_blocks.proofs.Needs.{walk_step}

-- where a field stands whose trial was of a text from a place on: in the line, or in the default of its node, which
-- was finished
abbrev pub StandsIn : Bool → Option (List ℕ) → List ℕ → FieldView → List ℕ → ℕ → ℕ → Type 0
StandsIn false default text field said at end = (said ≡ text) × (at ≡ field.start) × (end ≡ field.end)
StandsIn true default text field said at end =
    (word : List ℕ) × (default ≡ Some word) × (said ≡ finished word) × (field.end ≡ field.start)

-- the block of a node that took a field, and what its trial accepted
pub record IsTried (s : Setting) (text : List ℕ) (field : FieldView) : Type 0 where
  pub node : Node
  pub block : Block
  pub said : List ℕ
  pub at : ℕ
  pub looked : ℕ
  pub end : ℕ
  pub node_is : slice_get s.graph.nodes field.node ≡ Some node
  pub block_is : slice_get node.chain field.block ≡ Some block
  pub role : field.role ≡ block.role
  pub next : field.next ≡ next_of s.graph block field.value
  pub accepts : trial s block.function block.flags (drop at said) at ≡ Accept field.value looked end
  pub stands : StandsIn field.defaulted node.default text field said at end

-- the block that a walk took
record IsFound (s : Setting) (rest : List ℕ) (at number : ℕ) (blocks : List Block) (taken : ℕ) (role : Role) (next : ℕ) (value : Value) (end : ℕ) : Type 0 where
  place : ℕ
  block : Block
  looked : ℕ
  number_is : taken ≡ number + place
  block_is : slice_get blocks place ≡ Some block
  role_is : role ≡ block.role
  next_is : next ≡ next_of s.graph block value
  accepts : trial s block.function block.flags rest at ≡ Accept value looked end

walk_found : (s : Setting) (rest : List ℕ) (at number looked : ℕ) (code : Code) (blocks : List Block) (taken : ℕ) (role : Role) (next : ℕ)
    (value : Value) (seen end : ℕ) → walk s rest at number looked code blocks ≡ Takes taken role next value seen end
    → IsFound s rest at number blocks taken role next value end
walk_found s rest at number looked code [] taken role next value seen end is = cc
walk_found s rest at number looked code (block ∷ blocks) taken role next value seen end is =
    by (trial s block.function block.flags rest at) refl
    (λ first later. walk_found s rest at (number + 1) first later blocks taken role next value seen end)
  where
    by : (answer : Try) → trial s block.function block.flags rest at ≡ answer
        → ((first : ℕ) (later : Code) → walk s rest at (number + 1) first later blocks ≡ Takes taken role next value seen end
        → IsFound s rest at (number + 1) blocks taken role next value end)
        → IsFound s rest at number (block ∷ blocks) taken role next value end
    by (Accept found bytes place) t after =
        let first = walk_step s rest at number looked code block blocks (Accept found bytes place) t in
        let all : Takes number block.role (next_of s.graph block found) found (max looked bytes) place
        ≡ Takes taken role next value seen end = sym first ∙ is in
        let same : number ≡ taken = cc in
        record {
          place = 0;
          block = block;
          looked = bytes;
          number_is = omega arith;
          block_is = refl;
          role_is = cc;
          next_is = cc;
          accepts = cc;
        }
    by (Refuse refusal bytes) t after =
        let first = walk_step s rest at number looked code block blocks (Refuse refusal bytes) t in
        let it = after (max looked bytes) (later_code code refusal) (sym first ∙ is) in
        let same = it.number_is in
        record {
          place = suc it.place;
          block = it.block;
          looked = it.looked;
          number_is = omega arith;
          block_is = it.block_is;
          role_is = it.role_is;
          next_is = it.next_is;
          accepts = it.accepts;
        }
    by More t after =
        let first = walk_step s rest at number looked code block blocks More t in
        let never : Wants number ≡ Takes taken role next value seen end = sym first ∙ is in cc

-- a field of a chain, by what its walk took
record IsField (number : ℕ) (defaulted : Bool) (walked : Walk) (start : ℕ) (field : FieldView) : Type 0 where
  taken : ℕ
  role : Role
  next : ℕ
  value : Value
  looked : ℕ
  end : ℕ
  is : walked ≡ Takes taken role next value looked end
  node_is : field.node ≡ number
  block_is : field.block ≡ taken
  value_is : field.value ≡ value
  start_is : field.start ≡ start
  defaulted_is : field.defaulted ≡ defaulted
  role_is : field.role ≡ role
  next_is : field.next ≡ next

field_of_choice : (test : Bool) (place : ℕ) (taken field : FieldView)
    → (if test then chain.Done place else chain.Field taken) ≡ chain.Field field → taken ≡ field
field_of_choice true place taken field is = cc
field_of_choice false place taken field is = cc

typed_field : (number start : ℕ) (walked : Walk) (field : FieldView) → typed number start walked ≡ chain.Field field
    → (it : IsField number false walked start field) × (field.end ≡ it.end)
typed_field number start (Takes block role next value looked end) field is =
    let same = field_of_choice (is_confirm value) end _ field is in (
      record {
        taken = block;
        role = role;
        next = next;
        value = value;
        looked = looked;
        end = end;
        is = refl;
        node_is = sym (ap (λ (taken : FieldView). taken.node) same);
        block_is = sym (ap (λ (taken : FieldView). taken.block) same);
        value_is = sym (ap (λ (taken : FieldView). taken.value) same);
        start_is = sym (ap (λ (taken : FieldView). taken.start) same);
        defaulted_is = sym (ap (λ (taken : FieldView). taken.defaulted) same);
        role_is = sym (ap (λ (taken : FieldView). taken.role) same);
        next_is = sym (ap (λ (taken : FieldView). taken.next) same);
      },
      sym (ap (λ (taken : FieldView). taken.end) same),
    )
typed_field number start (Wants block) field is = cc
typed_field number start (Fails code) field is = cc

default_field : (number start : ℕ) (walked : Walk) (field : FieldView) → defaulted number start walked ≡ chain.Field field
    → (it : IsField number true walked start field) × (field.end ≡ start)
default_field number start (Takes block role next value looked end) field is =
    let same = field_of_choice (is_confirm value) start _ field is in (
      record {
        taken = block;
        role = role;
        next = next;
        value = value;
        looked = looked;
        end = end;
        is = refl;
        node_is = sym (ap (λ (taken : FieldView). taken.node) same);
        block_is = sym (ap (λ (taken : FieldView). taken.block) same);
        value_is = sym (ap (λ (taken : FieldView). taken.value) same);
        start_is = sym (ap (λ (taken : FieldView). taken.start) same);
        defaulted_is = sym (ap (λ (taken : FieldView). taken.defaulted) same);
        role_is = sym (ap (λ (taken : FieldView). taken.role) same);
        next_is = sym (ap (λ (taken : FieldView). taken.next) same);
      },
      sym (ap (λ (taken : FieldView). taken.end) same),
    )
default_field number start (Wants block) field is = cc
default_field number start (Fails code) field is = cc

-- a field is one of the node that is sought
record IsTriedAt (s : Setting) (text : List ℕ) (number : ℕ) (field : FieldView) : Type 0 where
  tried : IsTried s text field
  number_is : field.node ≡ number

-- what a walk over a text took is tried there
tried : (s : Setting) (text : List ℕ) (number : ℕ) (node : Node) (said : List ℕ) (at start : ℕ) (defaulted : Bool) (field : FieldView)
    → slice_get s.graph.nodes number ≡ Some node
    → (it : IsField number defaulted (walk s (drop at said) at 0 0 NotConfirmed node.chain) start field)
    → StandsIn defaulted node.default text field said at it.end → IsTriedAt s text number field
tried s text number node said at start defaulted field node_is it stands =
    let found = walk_found s (drop at said) at 0 0 NotConfirmed node.chain it.taken it.role it.next it.value it.looked it.end it.is in
    let place : field.block ≡ found.place = (let a = found.number_is in let b = it.block_is in omega arith) in
    let trial : IsTried s text field = record {
      node = node;
      block = found.block;
      said = said;
      at = at;
      looked = found.looked;
      end = it.end;
      node_is = ap (λ (n : ℕ). slice_get s.graph.nodes n) it.node_is ∙ node_is;
      block_is = ap (λ (n : ℕ). slice_get node.chain n) place ∙ found.block_is;
      role = it.role_is ∙ found.role_is;
      next = it.next_is ∙ found.next_is ∙ ap (next_of s.graph found.block) (sym it.value_is);
      accepts = found.accepts ∙ ap (λ (value : Value). Accept value found.looked it.end) (sym it.value_is);
      stands = subst (λ (test : Bool). StandsIn test node.default text field said at it.end) (sym it.defaulted_is) stands;
    } in
    record { tried = trial; number_is = it.node_is }

text_tried : (s : Setting) (number : ℕ) (node : Node) (text : List ℕ) (start : ℕ) (field : FieldView)
    → slice_get s.graph.nodes number ≡ Some node → (on_text s number node (drop start text) start).chain ≡ chain.Field field
    → IsTriedAt s text number field
text_tried s number node text start field node_is is =
    let it = typed_field number start (walk s (drop start text) start 0 0 NotConfirmed node.chain) field is in
    tried s text number node text start start false field node_is it.0 (refl, sym it.0.start_is, sym it.1)

default_tried : (s : Setting) (number : ℕ) (node : Node) (text word : List ℕ) (start : ℕ) (field : FieldView)
    → slice_get s.graph.nodes number ≡ Some node → node.default ≡ Some word
    → (on_default s number node start word).chain ≡ chain.Field field → IsTriedAt s text number field
default_tried s number node text word start field node_is default_is is =
    let it = default_field number start
    (walk s (default_rest node.raw word) (default_place node.raw word) 0 0 NotConfirmed node.chain) field is in
    tried s text number node (finished word) (default_place node.raw word) start true field node_is it.0
    (word, default_is, refl, it.1 ∙ sym it.0.start_is)

choice_tried : (s : Setting) (number : ℕ) (node : Node) (text : List ℕ) (start : ℕ) (default : Option (List ℕ)) (field : FieldView)
    → slice_get s.graph.nodes number ≡ Some node → node.default ≡ default
    → (by_default s number node (drop start text) start default).chain ≡ chain.Field field → IsTriedAt s text number field
choice_tried s number node text start None field node_is default_is is = text_tried s number node text start field node_is is
choice_tried s number node text start (Some word) field node_is default_is is = by (is_line_end (drop start text)) is
  where
    by : (test : Bool)
        → (if test then on_default s number node start word else on_text s number node (drop start text) start).chain ≡ chain.Field field
        → IsTriedAt s text number field
    by true is = default_tried s number node text word start field node_is default_is is
    by false is = text_tried s number node text start field node_is is

skip_tried : (s : Setting) (number : ℕ) (node : Node) (text : List ℕ) (at : ℕ) (found : Option ℕ) (field : FieldView)
    → slice_get s.graph.nodes number ≡ Some node → (past_skip s number node text at found).chain ≡ chain.Field field
    → IsTriedAt s text number field
skip_tried s number node text at None field node_is is = cc
skip_tried s number node text at (Some start) field node_is is =
    choice_tried s number node text start node.default field node_is refl is

-- a field that a chain takes
chain_tried_at : (s : Setting) (number : ℕ) (text : List ℕ) (at : ℕ) (field : FieldView)
    → (chain_at s number text at).chain ≡ chain.Field field → IsTriedAt s text number field
unfolding chain_at
chain_tried_at s number text at field is = by (slice_get s.graph.nodes number) refl is
  where
    by : (found : Option Node) → slice_get s.graph.nodes number ≡ found
        → (at_node s number text at found).chain ≡ chain.Field field → IsTriedAt s text number field
    by None found is = cc
    by (Some node) found is = skip_tried s number node text at (skip node.raw text at) field found is

pub chain_tried : (s : Setting) (number : ℕ) (text : List ℕ) (at : ℕ) (field : FieldView)
    → (chain_at s number text at).chain ≡ chain.Field field → IsTried s text field
chain_tried s number text at field is = (chain_tried_at s number text at field is).tried

pub chain_number : (s : Setting) (number : ℕ) (text : List ℕ) (at : ℕ) (field : FieldView)
    → (chain_at s number text at).chain ≡ chain.Field field → field.node ≡ number
chain_number s number text at field is = (chain_tried_at s number text at field is).number_is

-- the first field that passes a test
pub first_tried : (s : Setting) (text : List ℕ) (node at : ℕ) (test : FieldView → Bool) (fields : List FieldView) (field : FieldView)
    → Follow s text node at fields → find test fields ≡ Some field → IsTried s text field × (test field ≡ true)
first_tried s text node at test [] field follow is = cc
first_tried s text node at test (first ∷ fields) field follow is =
    by (test first) refl is (first_tried s text first.next first.end test fields field follow.1)
  where
    by : (passes : Bool) → test first ≡ passes → (if passes then Some first else find test fields) ≡ Some field
        → (find test fields ≡ Some field → IsTried s text field × (test field ≡ true)) → IsTried s text field × (test field ≡ true)
    by true passes is later =
        let same : first ≡ field = cc in
        subst (λ (it : FieldView). IsTried s text it × (test it ≡ true)) same (chain_tried s node text at first follow.0, passes)
    by false passes is later = later is

-- the end of a line that a walk took
record IsEnd (walked : Walk) : Type 0 where
  taken : ℕ
  role : Role
  next : ℕ
  value : Value
  looked : ℕ
  end : ℕ
  is : walked ≡ Takes taken role next value looked end
  ends : is_confirm value ≡ true

end_of : (on_default : Bool) (number start : ℕ) (walked : Walk) (place : ℕ)
    → answered on_default number start walked ≡ chain.Done place → IsEnd walked
end_of on_default number start (Takes block role next value looked end) place is = by (is_confirm value) _ _ refl is
  where
    by : (test : Bool) (at : ℕ) (field : FieldView) → is_confirm value ≡ test
        → (if test then chain.Done at else chain.Field field) ≡ chain.Done place
        → IsEnd (Takes block role next value looked end)
    by true at field ends is = record {
      taken = block;
      role = role;
      next = next;
      value = value;
      looked = looked;
      end = end;
      is = refl;
      ends = ends;
    }
    by false at field ends is = cc
end_of on_default number start (Wants block) place is = cc
end_of on_default number start (Fails code) place is = cc

-- the block of a node that took the end of a line
pub record IsEnded (s : Setting) (number : ℕ) : Type 0 where
  pub node : Node
  pub place : ℕ
  pub block : Block
  pub rest : List ℕ
  pub at : ℕ
  pub value : Value
  pub looked : ℕ
  pub end : ℕ
  pub node_is : slice_get s.graph.nodes number ≡ Some node
  pub block_is : slice_get node.chain place ≡ Some block
  pub accepts : trial s block.function block.flags rest at ≡ Accept value looked end
  pub ends : is_confirm value ≡ true

ended : (s : Setting) (number : ℕ) (node : Node) (rest : List ℕ) (at : ℕ) → slice_get s.graph.nodes number ≡ Some node
    → IsEnd (walk s rest at 0 0 NotConfirmed node.chain) → IsEnded s number
ended s number node rest at node_is it =
    let found = walk_found s rest at 0 0 NotConfirmed node.chain it.taken it.role it.next it.value it.looked it.end
    it.is in
    record {
      node = node;
      place = found.place;
      block = found.block;
      rest = rest;
      at = at;
      value = it.value;
      looked = found.looked;
      end = it.end;
      node_is = node_is;
      block_is = found.block_is;
      accepts = found.accepts;
      ends = it.ends;
    }

choice_ended : (s : Setting) (number : ℕ) (node : Node) (rest : List ℕ) (start : ℕ) (default : Option (List ℕ))
    (place : ℕ) → slice_get s.graph.nodes number ≡ Some node
    → (by_default s number node rest start default).chain ≡ chain.Done place → IsEnded s number
choice_ended s number node rest start None place node_is is =
    ended s number node rest start node_is
    (end_of false number start (walk s rest start 0 0 NotConfirmed node.chain) place is)
choice_ended s number node rest start (Some word) place node_is is = by (is_line_end rest) is
  where
    by : (test : Bool)
        → (if test then on_default s number node start word else on_text s number node rest start).chain
        ≡ chain.Done place → IsEnded s number
    by true is =
        ended s number node (default_rest node.raw word) (default_place node.raw word) node_is
        (end_of true number start
        (walk s (default_rest node.raw word) (default_place node.raw word) 0 0 NotConfirmed node.chain) place is)
    by false is =
        ended s number node rest start node_is
        (end_of false number start (walk s rest start 0 0 NotConfirmed node.chain) place is)

skip_ended : (s : Setting) (number : ℕ) (node : Node) (text : List ℕ) (at : ℕ) (found : Option ℕ) (place : ℕ)
    → slice_get s.graph.nodes number ≡ Some node → (past_skip s number node text at found).chain ≡ chain.Done place
    → IsEnded s number
skip_ended s number node text at None place node_is is = cc
skip_ended s number node text at (Some start) place node_is is =
    choice_ended s number node (drop start text) start node.default place node_is is

-- the end of a line that a chain takes
pub chain_ended : (s : Setting) (number : ℕ) (text : List ℕ) (at place : ℕ)
    → (chain_at s number text at).chain ≡ chain.Done place → IsEnded s number
unfolding chain_at
chain_ended s number text at place is = by (slice_get s.graph.nodes number) refl is
  where
    by : (found : Option Node) → slice_get s.graph.nodes number ≡ found
        → (at_node s number text at found).chain ≡ chain.Done place → IsEnded s number
    by None found is = cc
    by (Some node) found is = skip_ended s number node text at (skip node.raw text at) place found is
