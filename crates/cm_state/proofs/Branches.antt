-- What is after the keywords of some commands: by which blocks the fields of a role are read there.
-- What follows a verb is proved over any grammar. A program says where its lines begin (Begins), and gives an instance
-- of four refl for each thing that it needs. A Branch names verbs, the nodes after them, a role and a test on its
-- blocks. IsBranch says that such a block reads the field, also through keywords of other tables (leads_to). What a
-- block took is in cm_blocks: Fields, Places, Values.
use Rattle.std.proofs.Common.{◌≡◌, ◌⊎◌, inl, inr, ℕ, zero, suc, ◌<◌, ◌+◌, ◌||◌, ◌&&◌, ◌==◌, Bool, true, false, not, if◌then◌else◌, List, [], ◌∷◌, length, drop, Option, Some, None, is_some, slice_get, refl, ap, sym, subst, ◌∙◌, arith}
use Rattle.std.specs.List.{find, list_all}
use Rattle.std.proofs.lemmas.Bool.{and_parts}
use Rattle.cm_tables.specs.declared.entry.Entry.{Entry}
use Rattle.cm_tables.specs.Order.{table_fault}
use Rattle.cm_fields.specs.declared.trial.Try.TheVariants.{Accept}
use Rattle.cm_fields.specs.declared.value.Value.{Value}
use Rattle.cm_fields.specs.declared.value.Value.TheVariants as values
use Rattle.cm_files.specs.declared.flags.Flags.{Flags}
use Rattle.cm_blocks.specs.declared.field.Chain.TheVariants as chain
use Rattle.cm_blocks.specs.declared.function.Function.{Function}
use Rattle.cm_blocks.specs.declared.function.Function.TheVariants as functions
use Rattle.cm_blocks.specs.declared.function.Role.{Role}
use Rattle.cm_blocks.specs.declared.function.Role.TheVariants as roles
use Rattle.cm_blocks.specs.declared.node.Block.{Block}
use Rattle.cm_blocks.specs.declared.node.Node.{Node}
use Rattle.cm_blocks.specs.Chain.{chain_at}
use Rattle.cm_blocks.specs.FieldView.{FieldView}
use Rattle.cm_blocks.specs.Grammar.{Graph}
use Rattle.cm_blocks.specs.Keyword.{code_at}
use Rattle.cm_blocks.specs.Parse.{Follow}
use Rattle.cm_blocks.specs.Setting.{Setting}
use Rattle.cm_blocks.specs.Trial.{entry_next, keyword_next, next_of, table_of, trial}
use Rattle.cm_blocks.proofs.Fields.{IsTried, chain_number, chain_tried}
use Rattle.cm_blocks.proofs.Values.{IsKeyword, key_says, meant_within}
use Rattle.cm_state.specs.Roles.{field_of, is_role}

-- some commands by the codes of their keywords, the nodes after them, and the blocks that read the fields of a role
-- there
pub record Branch : Type 0 where
  pub names : ℕ → Bool
  pub inside : ℕ → Bool
  pub role : Role
  pub reads : Block → Bool

-- a table without fault, of which each entry leads to such a node
abbrev all_lead : Branch → List Entry → Bool
all_lead branch table =
    not (is_some (table_fault table)) && list_all (λ (entry : Entry). branch.inside entry.next) table

-- where a block leads: a keyword to the node of its entry, and anything else but a switch to the next of the block
abbrev pub leads_to : Graph → Branch → Function → ℕ → Bool
leads_to graph branch (functions.Key table) next = all_lead branch (table_of graph table)
leads_to graph branch (functions.Switch table) next = false
leads_to graph branch function next = branch.inside next

-- a block of such a node: it leads to another, and reads what it should
abbrev stays : Graph → Branch → Block → Bool
stays graph branch block =
    leads_to graph branch block.function block.next && (not (is_role branch.role block.role) || branch.reads block)

abbrev pub node_stays : Graph → Branch → ℕ → Node → Bool
node_stays graph branch number node = not (branch.inside number) || list_all (stays graph branch) node.chain

abbrev pub all_from : (ℕ → Node → Bool) → ℕ → List Node → Bool
all_from test number [] = true
all_from test number (node ∷ nodes) = test number node && all_from test (number + 1) nodes

-- after an end that leads to this node there is no verb
abbrev pub after_end : ℕ → Branch
after_end next = record {
  names = λ (code : ℕ). false;
  inside = λ (node : ℕ). node == next;
  role = roles.Verb;
  reads = λ (block : Block). false;
}

-- a node of two blocks, where a line ends, or begins with a keyword of a table, its verb
pub record Begins (graph : Graph) (start table : ℕ) : Type 0 where
  pub end : Block
  pub keyword : Block
  pub node : Node
  pub node_is : slice_get graph.nodes start ≡ Some node
  pub chain_is : node.chain ≡ end ∷ keyword ∷ []
  pub end_function : end.function ≡ functions.Confirm
  pub end_role : end.role ≡ roles.None
  pub key_function : keyword.function ≡ functions.Key table
  pub key_role : keyword.role ≡ roles.Verb
  pub one_verb : all_from (node_stays graph (after_end end.next)) 0 graph.nodes ≡ true

-- such a command leads to such a node
abbrev pub leads : Branch → Entry → Bool
leads branch entry = not (branch.names entry.code) || branch.inside entry.next

-- so it is in a grammar, of which this table has the verbs
pub record IsBranch (graph : Graph) (table : ℕ) (branch : Branch) : Type 0 where
  pub none : branch.names 0 ≡ false
  pub nodes : all_from (node_stays graph branch) 0 graph.nodes ≡ true
  pub commands : list_all (leads branch) (table_of graph table) ≡ true
  pub other : is_role branch.role roles.Verb ≡ false

-- what all elements pass each passes
pub all_pass_at : {A : Type 0} (test : A → Bool) (all : List A) (place : ℕ) (it : A) → list_all test all ≡ true
    → slice_get all place ≡ Some it → test it ≡ true
all_pass_at test [] place it passes is = cc
all_pass_at {A} test (first ∷ more) zero it passes is =
    let same : first ≡ it = cc in ap test (sym same) ∙ (and_parts (test first) (list_all test more) passes).0
all_pass_at test (first ∷ more) (suc place) it passes is =
    all_pass_at test more place it (and_parts (test first) (list_all test more) passes).1 is

pub all_from_at : (test : ℕ → Node → Bool) (from : ℕ) (nodes : List Node) (place : ℕ) (node : Node) → all_from test from nodes ≡ true
    → slice_get nodes place ≡ Some node → test (from + place) node ≡ true
all_from_at test from [] place node all is = cc
all_from_at test from (first ∷ nodes) zero node all is =
    let same : first ≡ node = cc in
    let here : from + 0 ≡ from = omega arith in
    ap (λ (n : ℕ). test n node) here ∙ ap (test from) (sym same) ∙ (and_parts (test from first) _ all).0
all_from_at test from (first ∷ nodes) (suc place) node all is =
    let here : from + suc place ≡ from + 1 + place = omega arith in
    ap (λ (n : ℕ). test n node) here ∙ all_from_at test (from + 1) nodes place node (and_parts (test from first) _ all).1 is

pub or_right : (a b : Bool) → a ≡ false → (a || b) ≡ true → b ≡ true
or_right true b is either = cc
or_right false b is either = either

-- what holds of all nodes inside holds of one of them
pub inside_at : (test : Node → Bool) (branch : Branch) (nodes : List Node) (number : ℕ) (node : Node)
    → all_from (λ (n : ℕ) (node : Node). not (branch.inside n) || test node) 0 nodes ≡ true → branch.inside number ≡ true
    → slice_get nodes number ≡ Some node → test node ≡ true
inside_at test branch nodes number node all inside is =
    let here : 0 + number ≡ number = omega arith in
    let at = all_from_at (λ (n : ℕ) (node : Node). not (branch.inside n) || test node) 0 nodes number node all is in
    let passes : (not (branch.inside number) || test node) ≡ true =
    ap (λ (n : ℕ). not (branch.inside n) || test node) (sym here) ∙ at in
    or_right (not (branch.inside number)) (test node) (ap not inside) passes

-- the node that such a code leads to
pub entry_leads : (branch : Branch) → branch.names 0 ≡ false → (table : List Entry) (place : ℕ)
    → list_all (leads branch) table ≡ true → branch.names (code_at table place) ≡ true
    → branch.inside (entry_next table place) ≡ true
entry_leads branch none [] place all named = cc
entry_leads branch none (entry ∷ more) zero all named =
    or_right (not (branch.names entry.code)) (branch.inside entry.next) (ap not named)
    (and_parts (leads branch entry) (list_all (leads branch) more) all).0
entry_leads branch none (entry ∷ more) (suc place) all named =
    entry_leads branch none more place (and_parts (leads branch entry) (list_all (leads branch) more) all).1 named

-- the node that follows where the function is no keyword and no switch
pub next_as : (graph : Graph) (function : Function) (block : Block) (value : Value) → block.function ≡ function
    → ((place : ℕ) → keyword_next graph function block.next place ≡ block.next) → next_of graph block value ≡ block.next
next_as graph function block value same plain = by value
  where
    keys : (place : ℕ) → keyword_next graph block.function block.next place ≡ block.next
    keys place = ap (λ (it : Function). keyword_next graph it block.next place) same ∙ plain place

    by : (value : Value) → next_of graph block value ≡ block.next
    by (values.Key entry code) = keys entry
    by (values.Switch entry code) = keys entry
    by value = refl

entry_inside : (branch : Branch) (table : List Entry) (place : ℕ)
    → list_all (λ (entry : Entry). branch.inside entry.next) table ≡ true → place < length table
    → branch.inside (entry_next table place) ≡ true
entry_inside branch [] place all within = absurd (omega arith)
entry_inside branch (entry ∷ more) zero all within =
    (and_parts (branch.inside entry.next) (list_all (λ (entry : Entry). branch.inside entry.next) more) all).0
entry_inside branch (entry ∷ more) (suc place) all within =
    entry_inside branch more place
    (and_parts (branch.inside entry.next) (list_all (λ (entry : Entry). branch.inside entry.next) more) all).1
    (omega arith)

none_of : {A : Type 0} (it : Option A) → not (is_some it) ≡ true → it ≡ None
none_of None is = refl
none_of (Some it) is = cc

-- what such a block accepts leads to such a node
pub next_inside : (s : Setting) (branch : Branch) (block : Block) (flags : Flags) (rest : List ℕ) (at : ℕ) (value : Value)
    (looked end : ℕ) → trial s block.function flags rest at ≡ Accept value looked end
    → leads_to s.graph branch block.function block.next ≡ true → branch.inside (next_of s.graph block value) ≡ true
next_inside s branch block flags rest at value looked end = by block.function refl
  where
    plain : (function : Function) → block.function ≡ function
        → ((place : ℕ) → keyword_next s.graph function block.next place ≡ block.next) → branch.inside block.next ≡ true
        → branch.inside (next_of s.graph block value) ≡ true
    plain function same next leads = ap branch.inside (next_as s.graph function block value same next) ∙ leads

    by : (function : Function) → block.function ≡ function
        → trial s function flags rest at ≡ Accept value looked end
        → leads_to s.graph branch function block.next ≡ true → branch.inside (next_of s.graph block value) ≡ true
    by (functions.Key table) same accepts leads =
        let key = key_says s flags table rest at value looked end accepts in
        let both = and_parts (not (is_some (table_fault (table_of s.graph table)))) _ leads in
        let within = meant_within (table_of s.graph table) key.run key.place (none_of _ both.0) key.meant in
        ap (λ (value : Value). branch.inside (next_of s.graph block value)) key.value_is
        ∙ ap (λ (function : Function). branch.inside (keyword_next s.graph function block.next key.place)) same
        ∙ entry_inside branch (table_of s.graph table) key.place both.1 within
    by (functions.Switch table) same accepts leads = cc
    by function same accepts leads = plain function same (λ place. refl) leads

-- a field of such a node
record IsInside (s : Setting) (branch : Branch) (text : List ℕ) (field : FieldView) : Type 0 where
  tried : IsTried s text field
  read : (not (is_role branch.role tried.block.role) || branch.reads tried.block) ≡ true
  next : branch.inside field.next ≡ true

stay_of : (s : Setting) (branch : Branch) → all_from (node_stays s.graph branch) 0 s.graph.nodes ≡ true → (text : List ℕ)
    (node at : ℕ) (field : FieldView) → branch.inside node ≡ true → (chain_at s node text at).chain ≡ chain.Field field
    → IsInside s branch text field
stay_of s branch nodes text node at field inside is =
    let tried = chain_tried s node text at field is in
    let number = chain_number s node text at field is in
    let chain = inside_at (λ (node : Node). list_all (stays s.graph branch) node.chain) branch s.graph.nodes field.node
    tried.node nodes (ap branch.inside number ∙ inside) tried.node_is in
    let block = all_pass_at (stays s.graph branch) tried.node.chain field.block tried.block chain tried.block_is in
    let both = and_parts (leads_to s.graph branch tried.block.function tried.block.next)
    (not (is_role branch.role tried.block.role) || branch.reads tried.block) block in
    record {
      tried = tried;
      read = both.1;
      next = ap branch.inside tried.next
          ∙ next_inside s branch tried.block tried.block.flags (drop tried.at tried.said) tried.at field.value tried.looked
          tried.end tried.accepts both.0;
    }

-- a field whose block passes a test
pub record IsOf (s : Setting) (text : List ℕ) (reads : Block → Bool) (field : FieldView) : Type 0 where
  pub tried : IsTried s text field
  pub read : reads tried.block ≡ true

-- the first field of the role, from such a node on
pub found_inside : (s : Setting) (branch : Branch) → all_from (node_stays s.graph branch) 0 s.graph.nodes ≡ true
    → (text : List ℕ) (node at : ℕ) (fields : List FieldView) (field : FieldView) → branch.inside node ≡ true
    → Follow s text node at fields → field_of branch.role fields ≡ Some field → IsOf s text branch.reads field
found_inside s branch nodes text node at [] field inside follow is = cc
found_inside s branch nodes text node at (first ∷ fields) field inside follow is =
    let stay = stay_of s branch nodes text node at first inside follow.0 in
    by (is_role branch.role first.role) refl is stay
    (found_inside s branch nodes text first.next first.end fields field stay.next follow.1)
  where
    by : (passes : Bool) → is_role branch.role first.role ≡ passes
        → (if passes then Some first else field_of branch.role fields) ≡ Some field → IsInside s branch text first
        → (field_of branch.role fields ≡ Some field → IsOf s text branch.reads field) → IsOf s text branch.reads field
    by true passes is stay later =
        let same : first ≡ field = cc in
        let of_role : is_role branch.role stay.tried.block.role ≡ true =
        sym (ap (is_role branch.role) stay.tried.role) ∙ passes in
        let tried = stay.tried in
        let other = not (is_role branch.role tried.block.role) in
        let read = or_right other (branch.reads tried.block) (ap not of_role) stay.read in
        subst (IsOf s text branch.reads) same (record { tried = tried; read = read })
    by false passes is stay later = later is

-- what the first field of a line is: the end's, or a keyword
pub record IsFirst (s : Setting) (start table : ℕ) (begins : Begins s.graph start table) (field : FieldView) : Type 0 where
  pub block : Block
  pub role : field.role ≡ block.role
  pub next : field.next ≡ next_of s.graph block field.value
  pub one : (block ≡ begins.end) ⊎ ((block ≡ begins.keyword) × IsKeyword s.graph table field.value)

pub first_field : (s : Setting) (start table : ℕ) (begins : Begins s.graph start table) (text : List ℕ) (at : ℕ) (field : FieldView)
    → (chain_at s start text at).chain ≡ chain.Field field → IsFirst s start table begins field
first_field s start table begins text at field is =
    let tried = chain_tried s start text at field is in
    let number = chain_number s start text at field is in
    let first : Some tried.node ≡ Some begins.node =
    sym tried.node_is ∙ ap (λ (n : ℕ). slice_get s.graph.nodes n) number ∙ begins.node_is in
    let same : tried.node ≡ begins.node = cc in
    let found : slice_get (begins.end ∷ begins.keyword ∷ []) field.block ≡ Some tried.block =
    ap (λ (blocks : List Block). slice_get blocks field.block) (sym begins.chain_is)
    ∙ ap (λ (node : Node). slice_get node.chain field.block) (sym same) ∙ tried.block_is in
    record {
      block = tried.block;
      role = tried.role;
      next = tried.next;
      one = by field.block tried.block tried.block.flags (drop tried.at tried.said) tried.at tried.looked tried.end found
          tried.accepts;
    }
  where
    by : (place : ℕ) (block : Block) (flags : Flags) (rest : List ℕ) (at looked end : ℕ)
        → slice_get (begins.end ∷ begins.keyword ∷ []) place ≡ Some block
        → trial s block.function flags rest at ≡ Accept field.value looked end
        → (block ≡ begins.end) ⊎ ((block ≡ begins.keyword) × IsKeyword s.graph table field.value)
    by zero block flags rest at looked end found accepts = let same : begins.end ≡ block = cc in inl (sym same)
    by (suc zero) block flags rest at looked end found accepts =
        let same : begins.keyword ≡ block = cc in
        let key : trial s (functions.Key table) flags rest at ≡ Accept field.value looked end =
        ap (λ (it : Function). trial s it flags rest at)
        (sym begins.key_function ∙ ap (λ (it : Block). it.function) same) ∙ accepts in
        inr (sym same, key_says s flags table rest at field.value looked end key)
    by (suc (suc place)) block flags rest at looked end found accepts = cc

-- what finds none of the first field goes on after it
pub after_first : (test : FieldView → Bool) (first : FieldView) (fields : List FieldView) (found : Option FieldView) → test first ≡ false
    → find test (first ∷ fields) ≡ found → find test fields ≡ found
after_first test first fields found other is = rw other at is
