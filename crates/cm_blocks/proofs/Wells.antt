-- What an accepted grammar is: as many nodes as there may be, each of them well.
use Rattle.std.proofs.Common.{◌≡◌, ℕ, zero, suc, ◌+◌, ◌≤◌, ◌<◌, Bool, true, false, not, ◌&&◌, ◌==◌, if◌then◌else◌, nat_lt, nat_le, List, [], ◌∷◌, length, get_or, Option, Some, None, slice_get, refl, arith}
use Rattle.std.proofs.lemmas.Bool.{and_parts}
use Rattle.std.specs.List.{list_all}
use Rattle.std.specs.Option.{option_map_or}
use Rattle.std.proofs.lemmas.Bool.Decides.{nat_tests}
use Rattle.std.proofs.lemmas.List.Sums.{AllPass-from_list_all}
use Rattle.std.proofs.lemmas.Option.{slice_get_read}
use Rattle.cm_text.specs.Bytes.{is_shown}
use Rattle.cm_tables.specs.declared.entry.Entry.{Entry}
use Rattle.cm_blocks.specs.declared.fault.TheConstants.{BLOCK_LIMIT, NODE_LIMIT}
use Rattle.cm_blocks.specs.declared.grammar.GrammarFault.{GrammarFault}
use Rattle.cm_blocks.specs.declared.node.Node.{Node}
use Rattle.cm_blocks.specs.Fault.{grammar_fault, has_bytes, has_flags, has_node_texts, has_numbers, has_phrase, has_size, has_texts, leads_within, names_table, node_fault, nodes_fault, or_fault}
use Rattle.cm_blocks.specs.Grammar.{Graph}
use Rattle.cm_blocks.specs.Well.{IsWell}

-- a test that gives no fault is passed, and what comes after it gives none
record Passes (test : Bool) (rest : Option GrammarFault) : Type 0 where
  passed : test ≡ true
  none : rest ≡ None

passes : (test : Bool) (fault : GrammarFault) (rest : Option GrammarFault)
    → (if not test then Some fault else rest) ≡ None → Passes test rest
passes true fault rest none = record { passed = refl; none = none }
passes false fault rest none = cc

-- a test that gives a fault is not passed
record Fails (test : Bool) (rest : Option GrammarFault) : Type 0 where
  failed : test ≡ false
  none : rest ≡ None

fails : (test : Bool) (fault : GrammarFault) (rest : Option GrammarFault)
    → (if test then Some fault else rest) ≡ None → Fails test rest
fails false fault rest none = record { failed = refl; none = none }
fails true fault rest none = cc

record Both (first later : Option GrammarFault) : Type 0 where
  first_none : first ≡ None
  later_none : later ≡ None

both : (first later : Option GrammarFault) → or_fault first later ≡ None → Both first later
both None later none = record { first_none = refl; later_none = none }
both (Some fault) later none = cc

-- there are as many nodes and tables as there may be
pub sizes : (graph : Graph) → grammar_fault graph ≡ None → has_size graph ≡ true
unfolding grammar_fault
sizes graph none = (passes (has_size graph) _ _ none).passed

pub nodes_few : (graph : Graph) → grammar_fault graph ≡ None → length graph.nodes ≤ NODE_LIMIT
nodes_few graph none =
    let sized = and_parts (nat_lt 0 (length graph.nodes) && nat_le (length graph.nodes) NODE_LIMIT) _ (sizes graph none) in
    let few = and_parts (nat_lt 0 (length graph.nodes)) _ sized.0 in
    grind (arith, nat_tests)

-- no node has a fault
all_none : (graph : Graph) → grammar_fault graph ≡ None
    → nodes_fault graph.tables (length graph.nodes) 0 graph.nodes ≡ None
unfolding grammar_fault
all_none graph none = (both _ _ (passes (has_size graph) _ _ none).none).first_none

node_none : (tables : List (List Entry)) (count number : ℕ) (nodes : List Node) (place : ℕ) (node : Node)
    → nodes_fault tables count number nodes ≡ None → slice_get nodes place ≡ Some node
    → (at : ℕ) × (node_fault tables count at node ≡ None)
node_none tables count number [] place node none found = cc
node_none tables count number (first ∷ more) zero node none found =
    let parts = both (node_fault tables count number first) _ none in
    let same : first ≡ node = cc in
    (number, rw (← same) parts.first_none)
node_none tables count number (first ∷ more) (suc place) node none found =
    let parts = both (node_fault tables count number first) _ none in
    node_none tables count (number + 1) more place node parts.later_none found

-- the tests that a node passes which has no fault
record Tests (tables : List (List Entry)) (count : ℕ) (node : Node) : Type 0 where
  some : (length node.chain == 0) ≡ false
  few : nat_lt BLOCK_LIMIT (length node.chain) ≡ false
  have_tables : list_all (names_table tables) node.chain ≡ true
  lead : list_all (leads_within tables count) node.chain ≡ true
  texts : (has_node_texts node && list_all has_texts node.chain) ≡ true
  bytes : list_all has_bytes node.chain ≡ true
  numbers : list_all has_numbers node.chain ≡ true
  flags : list_all has_flags node.chain ≡ true

tests : (tables : List (List Entry)) (count number : ℕ) (node : Node) → node_fault tables count number node ≡ None
    → Tests tables count node
tests tables count number node none =
    let first = fails (length node.chain == 0) _ _ none in
    let second = fails (nat_lt BLOCK_LIMIT (length node.chain)) _ _ first.none in
    let third = passes (list_all (names_table tables) node.chain) _ _ second.none in
    let fourth = passes (list_all (leads_within tables count) node.chain) _ _ third.none in
    let fifth = passes (has_node_texts node && list_all has_texts node.chain) _ _ fourth.none in
    let sixth = passes (list_all has_bytes node.chain) _ _ fifth.none in
    let seventh = passes (list_all has_numbers node.chain) _ _ sixth.none in
    let eighth = passes (list_all has_flags node.chain) _ _ seventh.none in
    record {
      some = first.failed;
      few = second.failed;
      have_tables = third.passed;
      lead = fourth.passed;
      texts = fifth.passed;
      bytes = sixth.passed;
      numbers = seventh.passed;
      flags = eighth.passed;
    }

-- each node of an accepted grammar is well
pub well_node : (graph : Graph) (place : ℕ) (node : Node) → grammar_fault graph ≡ None
    → slice_get graph.nodes place ≡ Some node → IsWell graph node
well_node graph place node none found =
    let at = node_none graph.tables (length graph.nodes) 0 graph.nodes place node (all_none graph none) found in
    let passed = tests graph.tables (length graph.nodes) at.0 node at.1 in
    let texts = and_parts (has_node_texts node) _ passed.texts in
    let is_some = passed.some in
    let is_few = passed.few in
    record {
      some = grind (arith, nat_tests);
      few = grind (arith, nat_tests);
      blocks = λ k d below. record {
        table = AllPass-from_list_all _ node.chain passed.have_tables k d below;
        leads = AllPass-from_list_all _ node.chain passed.lead k d below;
        phrase = (and_parts (has_phrase (get_or node.chain k d).function) _
            (AllPass-from_list_all has_texts node.chain texts.1 k d below)).0;
        bytes = AllPass-from_list_all has_bytes node.chain passed.bytes k d below;
      };
    }

-- the same of a node that was read at its place
pub well_read : (graph : Graph) (place : ℕ) (node : Node) → grammar_fault graph ≡ None → place < length graph.nodes
    → node ≡ get_or graph.nodes place node → IsWell graph node
well_read graph place node none below read =
    well_node graph place node none (slice_get_read graph.nodes (length graph.nodes) place node refl below read)

-- and its default is printed whole
pub default_shown : (graph : Graph) (place : ℕ) (node : Node) → grammar_fault graph ≡ None
    → slice_get graph.nodes place ≡ Some node → option_map_or is_shown node.default true ≡ true
default_shown graph place node none found =
    let at = node_none graph.tables (length graph.nodes) 0 graph.nodes place node (all_none graph none) found in
    let passed = tests graph.tables (length graph.nodes) at.0 node at.1 in
    (and_parts (option_map_or is_shown node.default true) _ (and_parts (has_node_texts node) _ passed.texts).0).0

-- all generations come with wildcards alone in each of its blocks
pub flags_agree : (graph : Graph) (place : ℕ) (node : Node) → grammar_fault graph ≡ None
    → slice_get graph.nodes place ≡ Some node → list_all has_flags node.chain ≡ true
flags_agree graph place node none found =
    let at = node_none graph.tables (length graph.nodes) 0 graph.nodes place node (all_none graph none) found in
    (tests graph.tables (length graph.nodes) at.0 node at.1).flags
