-- Where a field that a chain takes ends and leads.
use Rattle.std.proofs.Common.{◌≡◌, ℕ, zero, suc, ◌+◌, ◌<◌, ◌≤◌, max, Bool, true, false, if◌then◌else◌, nat_lt, List, [], ◌∷◌, length, drop, Option, Some, None, slice_get, refl, arith, length-drop}
use Rattle.std.proofs.lemmas.Bool.{and_parts}
use Rattle.std.specs.List.{All, list_all}
use Rattle.std.proofs.lemmas.Bool.Decides.{nat_tests}
use Rattle.cm_lists.proofs.Bools.{cond_each}
use Rattle.cm_text.specs.Bytes.{is_word}
use Rattle.cm_text.specs.ByteSets.{has_byte}
use Rattle.cm_tables.specs.declared.entry.Entry.{Entry}
use Rattle.cm_dates.specs.Date.{date_of}
use Rattle.cm_fields.specs.declared.code.Code.{Code}
use Rattle.cm_fields.specs.declared.code.Code.TheVariants.{NotConfirmed}
use Rattle.cm_fields.specs.declared.trial.Try.{Try}
use Rattle.cm_fields.specs.declared.trial.Try.TheVariants.{Accept, Refuse, More}
use Rattle.cm_fields.specs.declared.value.FileKind.TheVariants.{In, Out, Any}
use Rattle.cm_fields.specs.declared.value.Value.{Value}
use Rattle.cm_fields.specs.declared.value.Value.TheVariants as values
use Rattle.cm_fields.specs.Numeral.{numeral_of}
use Rattle.cm_fields.specs.Run.{number_of, run_of, word_of}
use Rattle.cm_fields.specs.Skip.{skip}
use Rattle.cm_fields.specs.Text.{is_inside, text_of}
use Rattle.cm_fields.proofs.Trials.{Reaches}
use Rattle.cm_fields.proofs.Marks.{comma_reaches, confirm_reaches}
use Rattle.cm_fields.proofs.Phrases.{noise_reaches, token_reaches}
use Rattle.cm_fields.proofs.QuotedTexts.{long_quoted_reaches, quoted_reaches}
use Rattle.cm_fields.proofs.Runs.{run_reaches}
use Rattle.cm_fields.proofs.Skips.{skip_within}
use Rattle.cm_files.specs.Catalogue.{Catalogue}
use Rattle.cm_files.specs.declared.flags.Flags.{Flags}
use Rattle.cm_files.proofs.Trials.{directory_reaches, file_reaches, user_reaches}
use Rattle.cm_hooks.specs.Field.{hook_of}
use Rattle.cm_hooks.specs.Meanings.{Meanings}
use Rattle.cm_blocks.specs.declared.chain.Walk.{Walk}
use Rattle.cm_blocks.specs.declared.chain.Walk.TheVariants.{Takes, Wants, Fails}
use Rattle.cm_blocks.specs.declared.field.Chain.{Chain}
use Rattle.cm_blocks.specs.declared.function.Function.{Function}
use Rattle.cm_blocks.specs.declared.function.Function.TheVariants.{Key, Switch, Noise, Number, Numeral, Word, Run, Quoted, LongQuoted, Token, Date, User, Directory, InFile, OutFile, AnyFile, Text, Comma, Confirm, Hook}
use Rattle.cm_blocks.specs.declared.node.Block.{Block}
use Rattle.cm_blocks.specs.declared.node.Node.{Node}
use Rattle.cm_blocks.specs.Chain.{ChainLeads, Counted, answered, at_node, by_default, chain_at, default_place, default_rest, defaulted, is_confirm, is_line_end, or_later, past_skip, typed, walk}
use Rattle.cm_blocks.specs.Fault.{entries_of, grammar_fault, has_phrase, leads_within}
use Rattle.cm_blocks.specs.Grammar.{Graph}
use Rattle.cm_blocks.specs.Keyword.{entry_position, key_value}
use Rattle.cm_blocks.specs.Setting.{Setting, setting}
use Rattle.cm_blocks.specs.Trial.{entry_next, keyword_next, looked_of, next_of, table_of, trial}
use Rattle.cm_blocks.specs.Well.{IsWell, IsWellBlock}
use Rattle.cm_blocks.proofs.Switches.{switch_reaches}
use Rattle.cm_blocks.proofs.Wells.{well_node}

-- where an accepted field of any function ends
pub trial_reaches : (s : Setting) (function : Function) (flags : Flags) (rest : List ℕ) (at : ℕ) (value : Value) (looked end : ℕ)
    → has_phrase function ≡ true → trial s function flags rest at ≡ Accept value looked end
    → Reaches at (length rest) looked end
unfolding trial
trial_reaches s (Key table) flags rest at value looked end phrase is =
    run_reaches is_word (λ run. key_value (table_of s.graph table) (entry_position (table_of s.graph table) run)) rest at value looked end is
trial_reaches s (Switch table) flags rest at value looked end phrase is = switch_reaches (table_of s.graph table) rest at value looked end is
trial_reaches s (Noise text) flags rest at value looked end phrase is = noise_reaches text rest at value looked end is
trial_reaches s Number flags rest at value looked end phrase is = run_reaches is_word number_of rest at value looked end is
trial_reaches s (Numeral numbers) flags rest at value looked end phrase is = run_reaches is_word (numeral_of numbers) rest at value looked end is
trial_reaches s Word flags rest at value looked end phrase is = run_reaches is_word (word_of at) rest at value looked end is
trial_reaches s (Run set) flags rest at value looked end phrase is = run_reaches (has_byte set) (run_of at) rest at value looked end is
trial_reaches s Quoted flags rest at value looked end phrase is = quoted_reaches rest at value looked end is
trial_reaches s LongQuoted flags rest at value looked end phrase is = long_quoted_reaches rest at value looked end is
trial_reaches s (Token text) flags rest at value looked end phrase is =
    let some = and_parts (nat_lt 0 (length text)) _ phrase in
    token_reaches text rest at value looked end (let test = some.0 in grind (arith, nat_tests)) is
trial_reaches s Date flags rest at value looked end phrase is = run_reaches is_word date_of rest at value looked end is
trial_reaches s User flags rest at value looked end phrase is = user_reaches s.catalogue rest at value looked end is
trial_reaches s Directory flags rest at value looked end phrase is = directory_reaches flags.new s.catalogue rest at value looked end is
trial_reaches s InFile flags rest at value looked end phrase is = file_reaches s.catalogue In flags rest at value looked end is
trial_reaches s OutFile flags rest at value looked end phrase is = file_reaches s.catalogue Out flags rest at value looked end is
trial_reaches s AnyFile flags rest at value looked end phrase is = file_reaches s.catalogue Any flags rest at value looked end is
trial_reaches s Text flags rest at value looked end phrase is = run_reaches is_inside (text_of at) rest at value looked end is
trial_reaches s Comma flags rest at value looked end phrase is = comma_reaches rest at value looked end is
trial_reaches s Confirm flags rest at value looked end phrase is = confirm_reaches rest at value looked end is
trial_reaches s (Hook id) flags rest at value looked end phrase is =
    run_reaches (s.meanings.bytes id).test (hook_of s.meanings.verdict id) rest at value looked end is

-- the node that follows an entry is there
entry_next_below : (count : ℕ) (table : List Entry) (position : ℕ) → 0 < count
    → list_all (λ (entry : Entry). nat_lt entry.next count) table ≡ true → entry_next table position < count
entry_next_below count [] position some all = some
entry_next_below count (entry ∷ more) zero some all =
    let here = and_parts (nat_lt entry.next count) _ all in let test = here.0 in grind (arith, nat_tests)
entry_next_below count (entry ∷ more) (suc position) some all =
    let here = and_parts (nat_lt entry.next count) _ all in entry_next_below count more position some here.1

-- the node that follows a field of a block is there
keyword_next_below : (graph : Graph) (count : ℕ) (function : Function) (next position : ℕ) → 0 < count → next < count
    → list_all (λ (entry : Entry). nat_lt entry.next count) (entries_of graph.tables function) ≡ true
    → keyword_next graph function next position < count
keyword_next_below graph count (Key table) next position some below all = entry_next_below count (table_of graph table) position some all
keyword_next_below graph count (Switch table) next position some below all = entry_next_below count (table_of graph table) position some all
keyword_next_below graph count function next position some below all = below

next_below : (graph : Graph) (count : ℕ) (block : Block) (value : Value) → 0 < count
    → leads_within graph.tables count block ≡ true → next_of graph block value < count
next_below graph count block value some leads = by value
  where
    parts : (block.next < count) × (list_all (λ (entry : Entry). nat_lt entry.next count) (entries_of graph.tables block.function) ≡ true)
    parts = let both = and_parts (nat_lt block.next count) _ leads in let test = both.0 in ((grind (arith, nat_tests)), both.1)

    by : (value : Value) → next_of graph block value < count
    by (values.Key entry code) = keyword_next_below graph count block.function block.next entry some parts.0 parts.1
    by (values.Switch entry code) = keyword_next_below graph count block.function block.next entry some parts.0 parts.1
    by other = parts.0

-- what a walk takes ends in the text, and leads to a node
abbrev pub WalkLeads : ℕ → ℕ → ℕ → Walk → Type 0
WalkLeads nodes at most (Takes block role next value looked end) = (next < nodes) × Reaches at most looked end
WalkLeads nodes at most (Wants block) = Unit {0}
WalkLeads nodes at most (Fails code) = Unit {0}

-- so does what a block accepts
abbrev AcceptLeads : Graph → ℕ → ℕ → ℕ → ℕ → Block → Try → Type 0
AcceptLeads graph nodes at most looked block (Accept value seen end) = (next_of graph block value < nodes) × Reaches at most looked end
AcceptLeads graph nodes at most looked block (Refuse code seen) = Unit {0}
AcceptLeads graph nodes at most looked block More = Unit {0}

accept_leads : (s : Setting) (block : Block) (rest : List ℕ) (at looked : ℕ) → IsWellBlock s.graph block
    → 0 < length s.graph.nodes
    → AcceptLeads s.graph (length s.graph.nodes) at (length rest) (max looked (looked_of (length rest) (trial s block.function block.flags rest at)))
    block (trial s block.function block.flags rest at)
accept_leads s block rest at looked well some = by (trial s block.function block.flags rest at) refl
  where
    by : (answer : Try) → trial s block.function block.flags rest at ≡ answer
        → AcceptLeads s.graph (length s.graph.nodes) at (length rest) (max looked (looked_of (length rest) answer)) block answer
    by (Accept value seen end) is =
        let reached = trial_reaches s block.function block.flags rest at value seen end well.phrase is in (
          next_below s.graph (length s.graph.nodes) block value some well.leads,
          record { some = omega arith; begins = reached.begins; seen = omega arith; within = reached.within },
        )
    by (Refuse code seen) is = tt
    by More is = tt

or_later_leads : (graph : Graph) (nodes at most number looked : ℕ) (block : Block) (answer : Try) (later : Walk)
    → AcceptLeads graph nodes at most looked block answer → WalkLeads nodes at most later
    → WalkLeads nodes at most (or_later graph number looked block answer later)
or_later_leads graph nodes at most number looked block (Accept value seen end) later here there = here
or_later_leads graph nodes at most number looked block (Refuse code seen) later here there = there
or_later_leads graph nodes at most number looked block More later here there = tt

pub walk_leads : (s : Setting) (rest : List ℕ) (at number looked : ℕ) (code : Code) (blocks : List Block)
    → All (IsWellBlock s.graph) blocks → 0 < length s.graph.nodes
    → WalkLeads (length s.graph.nodes) at (length rest) (walk s rest at number looked code blocks)
walk_leads s rest at number looked code [] well some = tt
walk_leads s rest at number looked code (block ∷ more) well some =
    or_later_leads s.graph _ at (length rest) number _ block (trial s block.function block.flags rest at) _
    (accept_leads s block rest at looked (well 0 block (omega arith)) some)
    (walk_leads s rest at (number + 1) _ _ more (λ k d below. well (suc k) d (omega arith)) some)

-- what a chain takes from the text, or from the default, leads on
pub typed_leads : (nodes at size number start most : ℕ) (walked : Walk) → at ≤ start → start + most ≤ size
    → WalkLeads nodes start most walked → ChainLeads nodes at size (typed number start walked)
typed_leads nodes at size number start most (Takes block role next value looked end) after within leads =
    let reached = leads.1 in
    cond_each (ChainLeads nodes at size) (is_confirm value) _ _ tt
    (record { next = leads.0; start = after; end = reached.begins; within = omega arith; need = omega arith; covered = reached.seen })
typed_leads nodes at size number start most (Wants block) after within leads = tt
typed_leads nodes at size number start most (Fails code) after within leads = tt

pub defaulted_leads : (nodes at size number start from most : ℕ) (walked : Walk) → at ≤ start → start ≤ size
    → WalkLeads nodes from most walked → ChainLeads nodes at size (defaulted number start walked)
defaulted_leads nodes at size number start from most (Takes block role next value looked end) after within leads =
    cond_each (ChainLeads nodes at size) (is_confirm value) _ _ tt
    (record { next = leads.0; start = after; end = omega arith; within = within; need = omega arith; covered = omega arith })
defaulted_leads nodes at size number start from most (Wants block) after within leads = tt
defaulted_leads nodes at size number start from most (Fails code) after within leads = tt

-- where a walk from a place of the text leads
pub text_leads : (s : Setting) (number : ℕ) (node : Node) (text : List ℕ) (at start : ℕ) → IsWell s.graph node
    → 0 < length s.graph.nodes → at ≤ start → start ≤ length text → (looked : ℕ) (code : Code)
    → ChainLeads (length s.graph.nodes) at (length text)
    (typed number start (walk s (drop start text) start 0 looked code node.chain))
text_leads s number node text at start well some after within looked code =
    let size = length-drop start text in
    typed_leads _ at (length text) number start (length (drop start text)) _ after (omega arith)
    (walk_leads s (drop start text) start 0 looked code node.chain well.blocks some)

-- where a walk over the default leads, at a place where the line ends
pub default_leads : (s : Setting) (number : ℕ) (node : Node) (at start size : ℕ) (text : List ℕ) → IsWell s.graph node
    → 0 < length s.graph.nodes → at ≤ start → start ≤ size → (looked : ℕ) (code : Code)
    → ChainLeads (length s.graph.nodes) at size
    (defaulted number start (walk s (default_rest node.raw text) (default_place node.raw text) 0 looked code node.chain))
default_leads s number node at start size text well some after within looked code =
    defaulted_leads _ at size number start (default_place node.raw text) (length (default_rest node.raw text)) _ after within
    (walk_leads s (default_rest node.raw text) (default_place node.raw text) 0 looked code node.chain well.blocks some)

-- a grammar has a node
pub some_node : (graph : Graph) (place : ℕ) (node : Node) → slice_get graph.nodes place ≡ Some node → 0 < length graph.nodes
some_node graph place node found = by graph.nodes found
  where
    by : (nodes : List Node) → slice_get nodes place ≡ Some node → 0 < length nodes
    by [] found = cc
    by (first ∷ more) found = omega arith

-- where a chain leads from a place past the blanks
pub choice_leads : (s : Setting) (number : ℕ) (node : Node) (text : List ℕ) (at start : ℕ) (default : Option (List ℕ))
    → IsWell s.graph node → 0 < length s.graph.nodes → at ≤ start → start ≤ length text
    → ChainLeads (length s.graph.nodes) at (length text) (by_default s number node (drop start text) start default).chain
choice_leads s number node text at start None well some after within = text_leads s number node text at start well some after within 0 _
choice_leads s number node text at start (Some default) well some after within =
    cond_each (λ (counted : Counted). ChainLeads (length s.graph.nodes) at (length text) counted.chain) (is_line_end (drop start text)) _ _
    (default_leads s number node at start (length text) default well some after within 0 _)
    (text_leads s number node text at start well some after within 0 _)

node_leads : (s : Setting) (number : ℕ) (node : Node) (text : List ℕ) (at : ℕ) → IsWell s.graph node
    → 0 < length s.graph.nodes → at ≤ length text
    → ChainLeads (length s.graph.nodes) at (length text) (past_skip s number node text at (skip node.raw text at)).chain
node_leads s number node text at well some within = by (skip node.raw text at) refl
  where
    by : (found : Option ℕ) → skip node.raw text at ≡ found
        → ChainLeads (length s.graph.nodes) at (length text) (past_skip s number node text at found).chain
    by None is = tt
    by (Some start) is =
        let reached = skip_within node.raw text at start within is in
        choice_leads s number node text at start node.default well some reached.0 reached.1

-- what a chain takes leads on
pub chain_leads : (s : Setting) (number : ℕ) (text : List ℕ) (at : ℕ) → grammar_fault s.graph ≡ None → at ≤ length text
    → ChainLeads (length s.graph.nodes) at (length text) (chain_at s number text at).chain
unfolding chain_at
chain_leads s number text at none within = by (slice_get s.graph.nodes number) refl
  where
    by : (found : Option Node) → slice_get s.graph.nodes number ≡ found
        → ChainLeads (length s.graph.nodes) at (length text) (at_node s number text at found).chain
    by None is = tt
    by (Some node) is =
        node_leads s number node text at (well_node s.graph number node none is) (some_node s.graph number node is) within

-- what the blocks answer leads on, on the default, where that is chosen, as on the text
pub tries_lead : (graph : Graph) (catalogue : Catalogue) (meanings : Meanings) (number : ℕ) (text line tried : List ℕ)
    (at start place from : ℕ) (chosen : Bool) (blocks : List Block) (walked : Walk) (answer : Chain)
    → answer ≡ answered chosen number start walked
    → walked ≡ walk (setting graph catalogue meanings) (drop place tried) place 0 0 NotConfirmed blocks
    → tried ≡ (if chosen then line else text) → place ≡ (if chosen then from else start)
    → All (IsWellBlock graph) blocks → 0 < length graph.nodes → at ≤ start → start ≤ length text
    → ChainLeads (length graph.nodes) at (length text) answer
tries_lead graph catalogue meanings number text line tried at start place from chosen blocks walked answer
    is walks tried_is place_is well some after within =
    rw (is, walks) (by chosen tried_is place_is)
  where
    s : Setting
    s = setting graph catalogue meanings

    by : (chosen : Bool) → tried ≡ (if chosen then line else text) → place ≡ (if chosen then from else start)
        → ChainLeads (length graph.nodes) at (length text)
        (answered chosen number start (walk s (drop place tried) place 0 0 NotConfirmed blocks))
    by true tried_is place_is =
        defaulted_leads _ at (length text) number start place (length (drop place tried)) _ after within
        (walk_leads s (drop place tried) place 0 0 NotConfirmed blocks well some)
    by false tried_is place_is =
        let size = length-drop start text in
        rw (tried_is, place_is)
        (typed_leads _ at (length text) number start (length (drop start text)) _ after (omega arith)
        (walk_leads s (drop start text) start 0 0 NotConfirmed blocks well some))
