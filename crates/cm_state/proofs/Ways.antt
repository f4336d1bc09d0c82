-- The verb of a line, and the fields after it: by which blocks they are read, and which of them must be there.
-- A Branch says by which blocks a field is read, and IsWay that it is there.
use Rattle.std.proofs.Common.{◌≡◌, ◌⊎◌, inl, inr, ℕ, ◌&&◌, ◌||◌, ◌==◌, Bool, true, false, not, if◌then◌else◌, List, [], ◌∷◌, drop, Option, Some, refl, ap, sym, subst, ◌∙◌, arith}
use Rattle.std.specs.List.{find, list_all}
use Rattle.std.proofs.lemmas.Bool.{and_parts}
use Rattle.std.proofs.lemmas.Bool.Decides.{nat_tests}
use Rattle.cm_fields.specs.declared.value.Value.{Value}
use Rattle.cm_fields.specs.declared.value.Value.TheVariants as values
use Rattle.cm_blocks.specs.declared.field.Chain.{Chain}
use Rattle.cm_blocks.specs.declared.field.Chain.TheVariants as chain
use Rattle.cm_blocks.specs.declared.field.Ending.{Ending}
use Rattle.cm_blocks.specs.declared.field.Ending.TheVariants as ending
use Rattle.cm_blocks.specs.declared.function.Function.{Function}
use Rattle.cm_blocks.specs.declared.function.Function.TheVariants.{Confirm}
use Rattle.cm_blocks.specs.declared.function.Role.TheVariants as roles
use Rattle.cm_blocks.specs.declared.node.Block.{Block}
use Rattle.cm_blocks.specs.declared.node.Node.{Node}
use Rattle.cm_blocks.specs.Chain.{chain_at}
use Rattle.cm_blocks.specs.FieldView.{FieldView}
use Rattle.cm_blocks.specs.Grammar.{Graph}
use Rattle.cm_blocks.specs.Keyword.{code_at}
use Rattle.cm_blocks.specs.Parse.{Follow, IsParse, ending_of, node_after, place_after}
use Rattle.cm_blocks.specs.Setting.{Setting}
use Rattle.cm_blocks.specs.Trial.{entry_next, keyword_next, next_of, table_of}
use Rattle.cm_blocks.proofs.Fields.{IsEnded, IsTried, chain_ended, chain_number, chain_tried}
use Rattle.cm_blocks.proofs.Onces.{done_stands}
use Rattle.cm_blocks.proofs.Values.{IsKeyword, is_on_way, no_end, trial_says}
use Rattle.cm_state.specs.Roles.{field_of, is_role}
use Rattle.cm_state.proofs.Branches.{Begins, Branch, IsBranch, IsOf, after_end, after_first, all_from, all_pass_at, entry_leads, first_field, found_inside, inside_at, leads, leads_to, next_as, next_inside}

-- a block of a way reads the field, or leads on
abbrev leads_on : Graph → Branch → Block → Bool
leads_on graph branch block =
    is_on_way block.function
    && (if is_role branch.role block.role then branch.reads block else leads_to graph branch block.function block.next)

abbrev node_leads_on : Graph → Branch → ℕ → Node → Bool
node_leads_on graph branch number node = not (branch.inside number) || list_all (leads_on graph branch) node.chain

-- so it is in a grammar: the nodes inside are those up to the field
pub record IsWay (graph : Graph) (table : ℕ) (branch : Branch) : Type 0 where
  pub none : branch.names 0 ≡ false
  pub nodes : all_from (node_leads_on graph branch) 0 graph.nodes ≡ true
  pub commands : list_all (leads branch) (table_of graph table) ≡ true
  pub other : is_role branch.role roles.Verb ≡ false

chosen : (test first later : Bool) → test ≡ true → (if test then first else later) ≡ true → first ≡ true
chosen true first later test is = is
chosen false first later test is = cc

left : (test first later : Bool) → test ≡ false → (if test then first else later) ≡ true → later ≡ true
left true first later test is = cc
left false first later test is = is

-- what is found after the first is found
found_after : (test : Bool) (first : FieldView) (later : Option FieldView) (found : FieldView) → test ≡ false
    → later ≡ Some found → (if test then Some first else later) ≡ Some found
found_after true first later found test is = cc
found_after false first later found test is = is

done_of : (answer : Chain) → ending.Done ≡ ending_of answer → (place : ℕ) × (answer ≡ chain.Done place)
done_of (chain.Field field) is = cc
done_of (chain.Done place) is = (place, refl)
done_of (chain.Fault fault) is = cc
done_of (chain.Open place) is = cc

-- the verb of a line is its first field, a keyword of the table
pub record IsVerb (s : Setting) (table : ℕ) (first verb : FieldView) : Type 0 where
  pub same : first ≡ verb
  pub role : first.role ≡ roles.Verb
  pub key : IsKeyword s.graph table first.value
  pub next : first.next ≡ entry_next (table_of s.graph table) key.place

-- the first field is not of the role, and leads inside
record IsAfter (branch : Branch) (first : FieldView) : Type 0 where
  inside : branch.inside first.next ≡ true
  other : is_role branch.role first.role ≡ false

-- a field on the way
record IsStep (s : Setting) (text : List ℕ) (branch : Branch) (field : FieldView) : Type 0 where
  tried : IsTried s text field
  goes : (if is_role branch.role tried.block.role then branch.reads tried.block
      else leads_to s.graph branch tried.block.function tried.block.next) ≡ true
  next : leads_to s.graph branch tried.block.function tried.block.next ≡ true → branch.inside field.next ≡ true

-- the field of the role is there, read by such a block
pub record IsThere (s : Setting) (text : List ℕ) (branch : Branch) (fields : List FieldView) : Type 0 where
  pub field : FieldView
  pub found : field_of branch.role fields ≡ Some field
  pub of : IsOf s text branch.reads field

-- in a grammar of which lines begin so; a code tells the verb of a keyword
module _ (s : Setting) (start table : ℕ) (begins : Begins s.graph start table) (code : Value → ℕ)
    (codes : (place number : ℕ) → code (values.Key place number) ≡ number) (text : List ℕ) where
  -- after the end there is no verb
  no_verb_after : (node at : ℕ) (fields : List FieldView) (verb : FieldView) → node ≡ begins.end.next
      → Follow s text node at fields → field_of roles.Verb fields ≡ Some verb → ⊥
  no_verb_after node at fields verb ended follow is =
      let inside : (node == begins.end.next) ≡ true = grind (arith, nat_tests) in
      let it = found_inside s (after_end begins.end.next) begins.one_verb text node at fields verb inside follow is in
      let never = it.read in cc

  pub verb_first : (first : FieldView) (fields : List FieldView) (verb : FieldView) → Follow s text start 0 (first ∷ fields)
      → field_of roles.Verb (first ∷ fields) ≡ Some verb → IsVerb s table first verb
  verb_first first fields verb follow is =
      let it = first_field s start table begins text 0 first follow.0 in
      by it.block it.role it.next it.one
    where
      by : (block : Block) → first.role ≡ block.role → first.next ≡ next_of s.graph block first.value
          → (block ≡ begins.end) ⊎ ((block ≡ begins.keyword) × IsKeyword s.graph table first.value) → IsVerb s table first verb
      by block role next (inl same) =
          let ended = next ∙ ap (λ (it : Block). next_of s.graph it first.value) same
          ∙ next_as s.graph Confirm begins.end first.value begins.end_function (λ place. refl) in
          let none : first.role ≡ roles.None = role ∙ ap (λ (it : Block). it.role) same ∙ begins.end_role in
          let other : is_role roles.Verb first.role ≡ false = ap (is_role roles.Verb) none in
          let later = after_first (λ (it : FieldView). is_role roles.Verb it.role) first fields (Some verb) other is in
          absurd (no_verb_after first.next first.end fields verb ended follow.1 later)
      by block role next (inr said) =
          let is_verb : first.role ≡ roles.Verb = role ∙ ap (λ (it : Block). it.role) said.0 ∙ begins.key_role in
          let test : is_role roles.Verb first.role ≡ true = ap (is_role roles.Verb) is_verb in
          let found : find (λ (field : FieldView). is_role roles.Verb field.role) (first ∷ fields) ≡ Some first =
          rw test refl in
          record {
            same = (let both = sym found ∙ is in cc);
            role = is_verb;
            key = said.1;
            next = next ∙ ap (λ (it : Block). next_of s.graph it first.value) said.0
                ∙ ap (next_of s.graph begins.keyword) said.1.value_is
                ∙ ap (λ (it : Function). keyword_next s.graph it begins.keyword.next said.1.place) begins.key_function;
          }

  pub verb_keyword : (fields : List FieldView) (ends : Ending) (verb : FieldView) → IsParse s start text fields ends
      → field_of roles.Verb fields ≡ Some verb → IsKeyword s.graph table verb.value
  verb_keyword [] ends verb parse is = cc
  verb_keyword (first ∷ fields) ends verb parse is =
      let it = verb_first first fields verb parse.follow is in
      subst (λ (field : FieldView). IsKeyword s.graph table field.value) it.same it.key

  after : (branch : Branch) → branch.names 0 ≡ false → list_all (leads branch) (table_of s.graph table) ≡ true
      → is_role branch.role roles.Verb ≡ false → (first : FieldView) (fields : List FieldView) (verb : FieldView)
      → Follow s text start 0 (first ∷ fields) → field_of roles.Verb (first ∷ fields) ≡ Some verb
      → branch.names (code verb.value) ≡ true → IsAfter branch first
  after branch none commands other first fields verb follow is named =
      let it = verb_first first fields verb follow is in
      let number = code_at (table_of s.graph table) it.key.place in
      let coded : number ≡ code verb.value = sym (codes it.key.place number)
      ∙ ap code (sym it.key.value_is ∙ ap (λ (found : FieldView). found.value) it.same) in
      record {
        inside = ap branch.inside it.next
            ∙ entry_leads branch none (table_of s.graph table) it.key.place commands (ap branch.names coded ∙ named);
        other = ap (is_role branch.role) it.role ∙ other;
      }

  -- after such a command the field of the role is read by such a block
  pub after_verb : (branch : Branch) → IsBranch s.graph table branch → (fields : List FieldView) (ends : Ending)
      (verb field : FieldView) → IsParse s start text fields ends → field_of roles.Verb fields ≡ Some verb
      → branch.names (code verb.value) ≡ true → field_of branch.role fields ≡ Some field
      → IsOf s text branch.reads field
  after_verb branch is_branch [] ends verb field parse verb_is named is = cc
  after_verb branch is_branch (first ∷ fields) ends verb field parse verb_is named is =
      let it = after branch is_branch.none is_branch.commands is_branch.other first fields verb parse.follow verb_is named in
      found_inside s branch is_branch.nodes text first.next first.end fields field it.inside parse.follow.1
      (after_first (λ (it : FieldView). is_role branch.role it.role) first fields (Some field) it.other is)

  -- no line ends on the way
  no_end_inside : (branch : Branch) → IsWay s.graph table branch → (number : ℕ) → branch.inside number ≡ true
      → IsEnded s number → ⊥
  no_end_inside branch way number inside it =
      let all = inside_at (λ (node : Node). list_all (leads_on s.graph branch) node.chain) branch s.graph.nodes number it.node
      way.nodes inside it.node_is in
      let block = all_pass_at (leads_on s.graph branch) it.node.chain it.place it.block all it.block_is in
      let on = (and_parts (is_on_way it.block.function) _ block).0 in
      let said = trial_says s it.block.function it.block.flags it.rest it.at it.value it.looked it.end on it.accepts in
      let never = no_end it.block.function it.value said in
      let ends = it.ends in cc

  step_of : (branch : Branch) → IsWay s.graph table branch → (node at : ℕ) (field : FieldView)
      → branch.inside node ≡ true → (chain_at s node text at).chain ≡ chain.Field field → IsStep s text branch field
  step_of branch way node at field inside is =
      let tried = chain_tried s node text at field is in
      let number = chain_number s node text at field is in
      let all = inside_at (λ (node : Node). list_all (leads_on s.graph branch) node.chain) branch s.graph.nodes field.node
      tried.node way.nodes (ap branch.inside number ∙ inside) tried.node_is in
      let block = all_pass_at (leads_on s.graph branch) tried.node.chain field.block tried.block all tried.block_is in
      record {
        tried = tried;
        goes = (and_parts (is_on_way tried.block.function) _ block).1;
        next = λ leads. ap branch.inside tried.next
            ∙ next_inside s branch tried.block tried.block.flags (drop tried.at tried.said) tried.at field.value
            tried.looked tried.end tried.accepts leads;
      }

  there_ahead : (branch : Branch) → IsWay s.graph table branch → (node at : ℕ) (fields : List FieldView)
      → branch.inside node ≡ true → Follow s text node at fields
      → ending.Done ≡ ending_of (chain_at s (node_after node fields) text (place_after at fields)).chain
      → IsThere s text branch fields
  there_ahead branch way node at [] inside follow ends =
      let it = done_of (chain_at s node text at).chain ends in
      absurd (no_end_inside branch way node inside (chain_ended s node text at it.0 it.1))
  there_ahead branch way node at (first ∷ fields) inside follow ends =
      by (is_role branch.role first.role) refl (step_of branch way node at first inside follow.0)
      (λ next. there_ahead branch way first.next first.end fields next follow.1 ends)
    where
      by : (passes : Bool) → is_role branch.role first.role ≡ passes → IsStep s text branch first
          → (branch.inside first.next ≡ true → IsThere s text branch fields) → IsThere s text branch (first ∷ fields)
      by true passes step later =
          let test = sym (ap (is_role branch.role) step.tried.role) ∙ passes in
          let read = chosen (is_role branch.role step.tried.block.role) (branch.reads step.tried.block) _ test
          step.goes in
          record { field = first; found = rw passes refl; of = record { tried = step.tried; read = read } }
      by false passes step later =
          let test = sym (ap (is_role branch.role) step.tried.role) ∙ passes in
          let leads = left (is_role branch.role step.tried.block.role) _
          (leads_to s.graph branch step.tried.block.function step.tried.block.next) test step.goes in
          let it = later (step.next leads) in
          record {
            field = it.field;
            found = found_after (is_role branch.role first.role) first (field_of branch.role fields) it.field passes
                it.found;
            of = it.of;
          }

  -- a line of such a command has the field
  pub there_after : (branch : Branch) → IsWay s.graph table branch → (fields : List FieldView) (verb : FieldView)
      → IsParse s start text fields ending.Done → field_of roles.Verb fields ≡ Some verb
      → branch.names (code verb.value) ≡ true → IsThere s text branch fields
  there_after branch way [] verb parse is named = cc
  there_after branch way (first ∷ fields) verb parse is named =
      let it = after branch way.none way.commands way.other first fields verb parse.follow is named in
      let ends = done_stands s.graph (first ∷ fields) _ parse.ending in
      let later = there_ahead branch way first.next first.end fields it.inside parse.follow.1 ends in
      record {
        field = later.field;
        found = found_after (is_role branch.role first.role) first (field_of branch.role fields) later.field it.other
            later.found;
        of = later.of;
      }
