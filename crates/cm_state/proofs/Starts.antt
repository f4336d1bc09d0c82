-- What a session holds that is ready for a key, and which fields a parse of the new text begins with.
-- IsReady is one word, which new and begin ensure over all settings, and key and whole of the one handed in. The loop
-- of a program has it as its invariant, and no answer.
use Rattle.std.proofs.Common.{◌≡◌, ℕ, ◌<◌, ◌==◌, ◌&&◌, nat_le, nat_lt, Bool, true, false, if◌then◌else◌, List, [], length, Option, None, refl, ap, sym, subst, arith}
use Rattle.std.proofs.lemmas.Bool.{and_parts}
use Rattle.std.proofs.lemmas.Bool.Decides.{nat_tests}
use Rattle.std.proofs.lemmas.List.Sums.{common_prefix_len-le}
use Rattle.cm_blocks.specs.declared.fault.TheConstants.{NODE_LIMIT, TABLE_LIMIT}
use Rattle.cm_blocks.specs.Fault.{grammar_fault}
use Rattle.cm_blocks.specs.Grammar.{Graph}
use Rattle.cm_blocks.specs.KeptParse.{cost, cost_after, decided_within, kept}
use Rattle.cm_blocks.specs.Parse.{IsParse, Parse, open_at, parse_of}
use Rattle.cm_blocks.specs.Setting.{Setting}
use Rattle.cm_blocks.specs.FieldView.{FieldView}
use Rattle.cm_blocks.proofs.Parses.{parse_of_parses, start_is_open}
use Rattle.cm_blocks.proofs.KeptFields.{kept_goes_on}
use Rattle.cm_blocks.proofs.Wells.{sizes}
use Rattle.cm_state.specs.SessionState.{SessionState, IsReady, at_start, line_before}
use Rattle.cm_state.specs.Stack.{Starts}
use Rattle.cm_state.specs.declared.prompt.Prompt.{Prompt}

-- the empty line has the parse of a start
pub start_parses : (s : Setting) → grammar_fault s.graph ≡ None → (node : ℕ) → node < length s.graph.nodes
    → IsParse s node [] [] (open_at node 0)
start_parses s none node below =
    subst (λ (parse : Parse). IsParse s node [] parse.fields parse.ending) (start_is_open s none node below)
    (parse_of_parses s node [])

pub start_is_ready : (s : Setting) → grammar_fault s.graph ≡ None → (node : ℕ) → node < length s.graph.nodes
    → (prompt : Prompt) → (recall : Option (List ℕ)) → IsReady s (at_start node prompt recall)
start_is_ready s none node below prompt recall =
    record { node = below; parse = λ unfinished. sym (start_is_open s none node below) }

-- a grammar has a node
some_node : (graph : Graph) → grammar_fault graph ≡ None → 0 < length graph.nodes
some_node graph none =
    let all = and_parts (nat_lt 0 (length graph.nodes) && nat_le (length graph.nodes) NODE_LIMIT)
    (nat_le (length graph.tables) TABLE_LIMIT) (sizes graph none) in
    let first = and_parts (nat_lt 0 (length graph.nodes)) (nat_le (length graph.nodes) NODE_LIMIT) all.0 in
    let test = first.0 in
    grind (arith, nat_tests)

-- so is what holds no more than a start
pub started_is_ready : (s : Setting) → grammar_fault s.graph ≡ None → (node : ℕ) → node < length s.graph.nodes
    → (prompt : Prompt) → (recall : Option (List ℕ)) → (held : SessionState)
    → held ≡ at_start node prompt recall → IsReady s held
started_is_ready s none node below prompt recall held is =
    subst (IsReady s) (sym is) (start_is_ready s none node below prompt recall)

pub new_is_ready : (s : Setting) → grammar_fault s.graph ≡ None → (prompt : Prompt) → (recall : Option (List ℕ))
    → (held : SessionState)
    → held ≡ at_start 0 prompt recall → IsReady s held
new_is_ready s none prompt recall held is =
    started_is_ready s none 0 (some_node s.graph none) prompt recall held is

-- the fields that a key finds are those of the line that it meets
pub met_fields : (s : Setting) (held : SessionState) → grammar_fault s.graph ≡ None → IsReady s held
    → (if held.is_finished then [] else held.fields) ≡ (parse_of s held.node (line_before held)).fields
met_fields s held none ready = by held.is_finished refl
  where
    by : (finished : Bool) → held.is_finished ≡ finished
        → (if finished then [] else held.fields) ≡ (parse_of s held.node (if finished then [] else held.line)).fields
    by true is = ap (λ (parse : Parse). parse.fields) (sym (start_is_open s none held.node ready.node))
    by false is = ap (λ (parse : Parse). parse.fields) (ready.parse is)

-- and so is the ending
pub met_ending : (s : Setting) (held : SessionState) → grammar_fault s.graph ≡ None → IsReady s held
    → (if held.is_finished then open_at held.node 0 else held.ending) ≡ (parse_of s held.node (line_before held)).ending
met_ending s held none ready = by held.is_finished refl
  where
    by : (finished : Bool) → held.is_finished ≡ finished
        → (if finished then open_at held.node 0 else held.ending)
        ≡ (parse_of s held.node (if finished then [] else held.line)).ending
    by true is = ap (λ (parse : Parse). parse.ending) (sym (start_is_open s none held.node ready.node))
    by false is = ap (λ (parse : Parse). parse.ending) (ready.parse is)

-- the parse of a text begins with what is kept of another
pub kept_starts : (s : Setting) → grammar_fault s.graph ≡ None → (node : ℕ) → node < length s.graph.nodes
    → (old new : List ℕ)
    → Starts s node new (kept s node old new)
unfolding parse_of
kept_starts s none node below old new =
    let on = kept_goes_on s none node old new in
    let most = common_prefix_len-le (λ byte other. byte == other) old new in
    record { few = on.few; node = on.leads below; place = omega (arith, on.place, most.1); parse = on.parse }

-- nothing is kept of the empty line
none_kept : (s : Setting) → grammar_fault s.graph ≡ None → (node : ℕ) → node < length s.graph.nodes → (new : List ℕ)
    → kept s node [] new ≡ []
unfolding kept
none_kept s none node below new =
    ap (λ (parse : Parse). decided_within 0 parse.fields) (start_is_open s none node below)

pub none_starts : (s : Setting) → grammar_fault s.graph ≡ None → (node : ℕ) → node < length s.graph.nodes
    → (new : List ℕ)
    → Starts s node new []
none_starts s none node below new =
    subst (Starts s node new) (none_kept s none node below new) (kept_starts s none node below [] new)

pub none_costs : (s : Setting) → grammar_fault s.graph ≡ None → (node : ℕ) → node < length s.graph.nodes
    → (new : List ℕ)
    → cost s node [] new ≡ cost_after s node new []
unfolding cost
none_costs s none node below new =
    ap (λ (fields : List FieldView). cost_after s node new fields) (none_kept s none node below new)
