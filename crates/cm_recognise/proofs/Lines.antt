-- With what is put into it a line is a line again.
-- That a line with what goes in is a line is this one lemma. That an entry for another has a target is the premise
-- AreTables, from Grammar::has_tables.
use Rattle.std.proofs.Common.{◌≡◌, ℕ, ◌+◌, ◌≤◌, ◌==◌, ◌&&◌, Bool, true, false, not, nat_lt, nat_le, List, [], ◌∷◌, ◌++◌, length, drop, Option, Some, None, slice_get, refl, suc, arith, length-append, length-drop}
use Rattle.std.specs.List.{All, flat_map, list_any}
use Rattle.std.specs.Option.{option_map_or}
use Rattle.std.proofs.lemmas.Bool.{and_parts, cond_both}
use Rattle.std.proofs.lemmas.Bool.Decides.{nat_tests}
use Rattle.std.proofs.lemmas.List.Elements.{All-drop}
use Rattle.cm_lists.proofs.Bools.{cond_each}
use Rattle.cm_text.specs.Bytes.{is_shown}
use Rattle.cm_text.specs.Case.{begins_with}
use Rattle.cm_text.specs.ScreenBytes.{shown_byte}
use Rattle.cm_text.specs.Text.{IsLine}
use Rattle.cm_text.specs.declared.text.TheConstants.{LINE_LIMIT}
use Rattle.cm_tables.specs.declared.entry.Entry.{Entry}
use Rattle.cm_tables.specs.declared.table.Look.{Look}
use Rattle.cm_tables.specs.declared.table.Look.TheVariants as looks
use Rattle.cm_fields.specs.declared.trial.Try.{Try}
use Rattle.cm_fields.specs.declared.trial.Try.TheVariants.{Accept, Refuse, More}
use Rattle.cm_files.specs.declared.flags.Flags.{Flags}
use Rattle.cm_files.specs.Catalogue.{IsCatalogue}
use Rattle.cm_hooks.specs.declared.answer.Answer.{Answer}
use Rattle.cm_hooks.specs.declared.answer.Tail.{Tail}
use Rattle.cm_hooks.specs.declared.answer.Tail.TheVariants as tails
use Rattle.cm_hooks.specs.FieldBytes.{FieldBytes, graphic_shown}
use Rattle.cm_hooks.specs.Meanings.{Completes, IsLawful}
use Rattle.cm_blocks.specs.declared.field.Ending.{Ending}
use Rattle.cm_blocks.specs.declared.field.Ending.TheVariants as ending
use Rattle.cm_blocks.specs.declared.function.Function.{Function}
use Rattle.cm_blocks.specs.declared.function.Function.TheVariants.{Key, Switch, Noise, Number, Numeral, Word, Run, Quoted, LongQuoted, Token, Date, User, Directory, InFile, OutFile, AnyFile, Text, Comma, Confirm, Hook}
use Rattle.cm_blocks.specs.declared.node.Block.{Block}
use Rattle.cm_blocks.specs.declared.node.Node.{Node}
use Rattle.cm_blocks.specs.Fault.{grammar_fault, has_phrase, is_parenthesis, is_phrase}
use Rattle.cm_blocks.specs.FieldView.{FieldView}
use Rattle.cm_blocks.specs.Grammar.{Graph}
use Rattle.cm_blocks.specs.Setting.{Setting}
use Rattle.cm_blocks.specs.Trial.{trial}
use Rattle.cm_blocks.specs.Well.{AreTables, IsWell, IsWellBlock}
use Rattle.cm_blocks.proofs.Wells.{default_shown, well_node}
use Rattle.cm_recognise.specs.declared.insertion.Insertion.{Insertion}
use Rattle.cm_recognise.specs.declared.insertion.Mode.{Mode}
use Rattle.cm_recognise.specs.declared.insertion.Mode.TheVariants as modes
use Rattle.cm_recognise.specs.declared.outcome.Outcome.{Outcome}
use Rattle.cm_recognise.specs.declared.outcome.Outcome.TheVariants.{Nothing, Part, Piece, Whole}
use Rattle.cm_recognise.specs.Insertion.{asked, at_block, after, block_put, default_put, first_put, fitted, guide_after, guide_of, insertion, is_asked, or_put, put_in, bell_only}
use Rattle.cm_recognise.specs.Candidates.{missing}
use Rattle.cm_recognise.specs.Capitals.{in_case}
use Rattle.cm_recognise.specs.Outcome.{by_function, entry_outcome, guide, hook_outcome, keyword_outcome, look_outcome, outcome, phrase_outcome, plain_outcome, shared_outcome, switch_outcome}
use Rattle.cm_recognise.specs.Remaining.{common_among, has_text_among, look_among, remains}
use Rattle.cm_recognise.proofs.Capitals.{case_shown}
use Rattle.cm_recognise.proofs.ShownBytes.{IsShown, directory_outcome_shown, file_shown, user_shown}
use Rattle.cm_recognise.proofs.Texts.{AreKeywords, AreShown, AreTyped, among_shown, keywords_of, phrase_shown, screen_of_shown, shown_append, shown_drop, shown_of_all, table_none, test_of_shown, typed_of_shown, line_append, text_at_shown, line_of_shown}

entry_shown : (colon : Bool) (table : List Entry) (atom : List ℕ) (position : ℕ) → AreKeywords table
    → IsShown (entry_outcome colon table atom position)
entry_shown true table atom position all =
    shown_append _ (58 ∷ []) (case_shown atom _ (shown_drop (length atom) _ (text_at_shown table position all))) (refl, tt)
entry_shown false table atom position all = case_shown atom _ (shown_drop (length atom) _ (text_at_shown table position all))

look_shown : (switch : Bool) (table : List Entry) (atom shared : List ℕ) (has : Bool) (found : Look) → AreKeywords table
    → AreShown shared → IsShown (look_outcome switch table atom (shared_outcome has atom shared) found)
look_shown switch table atom shared has looks.None all shown = tt
look_shown switch table atom shared has looks.Ambiguous all shown =
    cond_each IsShown has Nothing (Part (in_case atom shared)) tt (case_shown atom shared shown)
look_shown switch table atom shared has (looks.Abbrev position) all shown = entry_shown _ table atom position all
look_shown switch table atom shared has (looks.Exact position) all shown = entry_shown _ table atom position all

keyword_shown : (switch : Bool) (left : ℕ × Entry → Bool) (table : List Entry) (atom : List ℕ) → AreKeywords table
    → IsShown (keyword_outcome switch left table atom)
keyword_shown switch left table atom all =
    look_shown switch table atom (common_among left table atom) (has_text_among left table atom) (look_among left table atom) all
    (among_shown left table atom all)

switch_shown : (left : ℕ × Entry → Bool) (table : List Entry) (atom : List ℕ) → AreKeywords table
    → IsShown (switch_outcome left table atom)
switch_shown left table [] all = tt
switch_shown left table (byte ∷ atom) all =
    cond_each IsShown (byte == 47) _ Nothing (keyword_shown true left table atom all) tt

rest_shown : (text : List ℕ) (next : ℕ) (atom : List ℕ) → AreShown text → IsShown (phrase_outcome text next atom)
rest_shown text next atom all =
    cond_each IsShown (begins_with text atom) (Whole (missing text atom) next) Nothing (shown_drop (length atom) text all) tt

guide_shown : (text : List ℕ) → AreShown text → AreShown (guide text)
guide_shown text all = (refl, shown_append text (41 ∷ []) all (refl, tt))

plain_shown : (next : ℕ) (answer : Try) → IsShown (plain_outcome next answer)
plain_shown next (Accept value looked end) = tt
plain_shown next (Refuse code looked) = tt
plain_shown next More = tt

hook_shown : (next : ℕ) (plain : Outcome) (bytes : FieldBytes) (verdict : List ℕ → Answer) (atom : List ℕ) (tail : Tail)
    → IsShown plain → Completes bytes.test verdict atom tail → IsShown (hook_outcome next plain tail)
hook_shown next plain bytes verdict atom tails.None own completes = own
hook_shown next plain bytes verdict atom (tails.Part text) own completes =
    shown_of_all bytes.test (graphic_shown bytes) text completes
hook_shown next plain bytes verdict atom (tails.Whole text) own completes =
    shown_of_all bytes.test (graphic_shown bytes) text completes.0

-- the text of a guide word or a token
noise_shown : (text : List ℕ) → has_phrase (Noise text) ≡ true → AreShown text
noise_shown text has =
    let phrase = and_parts (is_phrase text) (not (list_any is_parenthesis text)) has in
    phrase_shown text (and_parts (nat_lt 0 (length text)) (is_shown text) phrase.0).1

token_shown : (text : List ℕ) → has_phrase (Token text) ≡ true → AreShown text
token_shown text has = phrase_shown text (and_parts (nat_lt 0 (length text)) (is_shown text) has).1

function_shown : (s : Setting) (mode : Mode) (left : ℕ × Entry → Bool) (function : Function) (flags : Flags) (next : ℕ) (atom : List ℕ) (plain : Outcome)
    → IsCatalogue s.catalogue → AreTables s.graph.tables → IsLawful s.meanings → has_phrase function ≡ true
    → length atom ≤ LINE_LIMIT → IsShown plain → IsShown (by_function s mode left function flags next atom plain)
function_shown s mode left (Key table) flags next atom plain named tables lawful has short own =
    keyword_shown false left _ atom (keywords_of _ (table_none s.graph table tables))
function_shown s mode left (Switch table) flags next atom plain named tables lawful has short own =
    switch_shown left _ atom (keywords_of _ (table_none s.graph table tables))
function_shown s mode left (Noise text) flags next atom plain named tables lawful has short own =
    rest_shown (guide text) next atom (guide_shown text (noise_shown text has))
function_shown s mode left (Token text) flags next atom plain named tables lawful has short own =
    cond_each IsShown (length atom == 0) Nothing _ tt (rest_shown text next atom (token_shown text has))
function_shown s mode left Date flags next atom plain named tables lawful has short own = own
function_shown s mode left User flags next atom plain named tables lawful has short own = user_shown s.catalogue named next atom
function_shown s mode left Directory flags next atom plain named tables lawful has short own =
    directory_outcome_shown s.catalogue named flags.new next atom plain own
function_shown s mode left InFile flags next atom plain named tables lawful has short own =
    file_shown s.catalogue named _ atom plain own
function_shown s mode left AnyFile flags next atom plain named tables lawful has short own =
    file_shown s.catalogue named _ atom plain own
function_shown s mode left (Hook id) flags next atom plain named tables lawful has short own =
    cond_each IsShown (length atom == 0) Nothing _ tt
    (hook_shown next plain (s.meanings.bytes id) (s.meanings.verdict id) atom (s.meanings.completion id atom) own
    (lawful.completes id atom short))
function_shown s mode left Number flags next atom plain named tables lawful has short own = own
function_shown s mode left (Numeral numbers) flags next atom plain named tables lawful has short own = own
function_shown s mode left Word flags next atom plain named tables lawful has short own = own
function_shown s mode left (Run set) flags next atom plain named tables lawful has short own = own
function_shown s mode left Quoted flags next atom plain named tables lawful has short own = own
function_shown s mode left LongQuoted flags next atom plain named tables lawful has short own = own
function_shown s mode left OutFile flags next atom plain named tables lawful has short own = own
function_shown s mode left Text flags next atom plain named tables lawful has short own = own
function_shown s mode left Comma flags next atom plain named tables lawful has short own = own
function_shown s mode left Confirm flags next atom plain named tables lawful has short own = own

pub outcome_shown : (s : Setting) (fields : List FieldView) (mode : Mode) (block : Block) (atom : List ℕ) (at : ℕ) → IsCatalogue s.catalogue
    → AreTables s.graph.tables → IsLawful s.meanings → has_phrase block.function ≡ true → length atom ≤ LINE_LIMIT
    → IsShown (outcome s fields mode block atom at)
unfolding outcome
outcome_shown s fields mode block atom at named tables lawful has short =
    function_shown s mode (remains s.graph fields block) block.function block.flags block.next atom _ named tables lawful has short
    (plain_shown block.next (trial s block.function block.flags (atom ++ 32 ∷ []) at))

-- what is after a field that is whole
guide_after_shown : (function : Function) → has_phrase function ≡ true → AreShown (guide_after function)
guide_after_shown (Noise text) has = shown_append (guide text) (32 ∷ []) (guide_shown text (noise_shown text has)) (refl, tt)
guide_after_shown function has = tt

first_guide_shown : (graph : Graph) (blocks : List Block) → All (IsWellBlock graph) blocks
    → AreShown (option_map_or (λ (block : Block). guide_after block.function) (slice_get blocks 0) [])
first_guide_shown graph [] well = tt
first_guide_shown graph (block ∷ more) well = guide_after_shown block.function (well 0 block (omega arith)).phrase

pub after_shown : (graph : Graph) (next : ℕ) → grammar_fault graph ≡ None → AreShown (after graph next)
after_shown graph next none = (refl, by (slice_get graph.nodes next) refl)
  where
    by : (found : Option Node) → slice_get graph.nodes next ≡ found → AreShown (guide_of found)
    by None is = tt
    by (Some node) is = first_guide_shown graph node.chain (well_node graph next node none is).blocks

-- the bytes that are put in, where any are
abbrev PutShown : Option Insertion → Type 0
PutShown None = Unit {0}
PutShown (Some insertion) = AreShown insertion.bytes

put_in_shown : (graph : Graph) (outcome : Outcome) → grammar_fault graph ≡ None → IsShown outcome → PutShown (put_in graph outcome)
put_in_shown graph Nothing none all = tt
put_in_shown graph (Part bytes) none all = cond_each PutShown (length bytes == 0) None _ tt all
put_in_shown graph (Piece bytes) none all = all
put_in_shown graph (Whole bytes next) none all = shown_append bytes (after graph next) all (after_shown graph next none)

or_put_shown : (first later : Option Insertion) → PutShown first → PutShown later → PutShown (or_put first later)
or_put_shown None later here there = there
or_put_shown (Some insertion) later here there = here

block_put_shown : (s : Setting) (fields : List FieldView) (mode : Mode) (atom : List ℕ) (at : ℕ) (block : Block) → grammar_fault s.graph ≡ None
    → IsCatalogue s.catalogue → AreTables s.graph.tables → IsLawful s.meanings → length atom ≤ LINE_LIMIT
    → IsWellBlock s.graph block → PutShown (block_put s fields mode atom at block)
block_put_shown s fields mode atom at block none named tables lawful short well =
    cond_each PutShown (is_asked mode block.function) (put_in s.graph (outcome s fields mode block atom at)) None
    (put_in_shown s.graph _ none (outcome_shown s fields mode block atom at named tables lawful well.phrase short)) tt

first_put_shown : (s : Setting) (fields : List FieldView) (mode : Mode) (atom : List ℕ) (at : ℕ) (blocks : List Block) → grammar_fault s.graph ≡ None
    → IsCatalogue s.catalogue → AreTables s.graph.tables → IsLawful s.meanings → length atom ≤ LINE_LIMIT
    → All (IsWellBlock s.graph) blocks → PutShown (first_put s fields mode atom at blocks)
first_put_shown s fields mode atom at [] none named tables lawful short well = tt
first_put_shown s fields mode atom at (block ∷ more) none named tables lawful short well =
    or_put_shown (block_put s fields mode atom at block) _
    (block_put_shown s fields mode atom at block none named tables lawful short (well 0 block (omega arith)))
    (first_put_shown s fields mode atom at more none named tables lawful short (λ k d below. well (suc k) d (omega arith)))

default_put_shown : (atom : List ℕ) (default : Option (List ℕ)) → option_map_or is_shown default true ≡ true
    → PutShown (default_put atom default)
default_put_shown atom None shown = tt
default_put_shown atom (Some text) shown =
    cond_each PutShown (length atom == 0) _ None (shown_append text (32 ∷ []) (phrase_shown text shown) (refl, tt)) tt

asked_shown : (s : Setting) (fields : List FieldView) (mode : Mode) (node : Node) (block : ℕ) (atom : List ℕ) (at : ℕ) → grammar_fault s.graph ≡ None
    → IsCatalogue s.catalogue → AreTables s.graph.tables → IsLawful s.meanings → length atom ≤ LINE_LIMIT
    → IsWell s.graph node → option_map_or is_shown node.default true ≡ true → PutShown (asked s fields mode node block atom at)
asked_shown s fields modes.Escape node block atom at none named tables lawful short well shown =
    or_put_shown (default_put atom node.default) _ (default_put_shown atom node.default shown)
    (first_put_shown s fields modes.Escape atom at (drop block node.chain) none named tables lawful short
    (All-drop (IsWellBlock s.graph) block node.chain well.blocks))
asked_shown s fields modes.Part node block atom at none named tables lawful short well shown =
    first_put_shown s fields modes.Part atom at (drop block node.chain) none named tables lawful short
    (All-drop (IsWellBlock s.graph) block node.chain well.blocks)

at_block_shown : (s : Setting) (fields : List FieldView) (mode : Mode) (line : List ℕ) (at : ℕ) (block : Option ℕ) (number : ℕ) → grammar_fault s.graph ≡ None
    → IsCatalogue s.catalogue → AreTables s.graph.tables → IsLawful s.meanings → length (drop at line) ≤ LINE_LIMIT
    → PutShown (at_block s fields mode line at block (slice_get s.graph.nodes number))
at_block_shown s fields mode line at block number none named tables lawful short = by block (slice_get s.graph.nodes number) refl
  where
    by : (block : Option ℕ) (found : Option Node) → slice_get s.graph.nodes number ≡ found
        → PutShown (at_block s fields mode line at block found)
    by None found is = tt
    by (Some block) None is = tt
    by (Some block) (Some node) is =
        asked_shown s fields mode node block (drop at line) at none named tables lawful short (well_node s.graph number node none is)
        (default_shown s.graph number node none is)

-- what is put in fits
abbrev Fits : ℕ → Insertion → Type 0
Fits size insertion = size + length insertion.bytes ≤ LINE_LIMIT

bell_only_fits : (size : ℕ) → size ≤ LINE_LIMIT → Fits size bell_only
bell_only_fits size within = omega arith

fitted_fits : (size : ℕ) (put : Option Insertion) → size ≤ LINE_LIMIT → Fits size (fitted size put)
fitted_fits size None within = bell_only_fits size within
fitted_fits size (Some insertion) within =
    cond_both (nat_le (size + length insertion.bytes) LINE_LIMIT) insertion bell_only (Fits size) (λ fits. grind (arith, nat_tests)) (λ full. bell_only_fits size within)

insertion_fits : (s : Setting) (fields : List FieldView) (ends : Ending) (line : List ℕ) (mode : Mode) → length line ≤ LINE_LIMIT
    → Fits (length line) (insertion s fields ends line mode)
unfolding insertion
insertion_fits s fields (ending.Open place) line mode within =
    cond_each (Fits (length line)) (nat_lt (length line) LINE_LIMIT && nat_le place.at (length line)) _ bell_only
    (fitted_fits (length line) (at_block s fields mode line place.at place.block (slice_get s.graph.nodes place.node)) within)
    (bell_only_fits (length line) within)
insertion_fits s fields ending.Done line mode within = bell_only_fits (length line) within
insertion_fits s fields (ending.Fault fault) line mode within = bell_only_fits (length line) within

-- and is shown as it is
abbrev IsShownPut : Insertion → Type 0
IsShownPut insertion = AreShown insertion.bytes

fitted_shown : (size : ℕ) (put : Option Insertion) → PutShown put → IsShownPut (fitted size put)
fitted_shown size None all = tt
fitted_shown size (Some insertion) all =
    cond_each IsShownPut (nat_le (size + length insertion.bytes) LINE_LIMIT) insertion bell_only all tt

pub insertion_shown : (s : Setting) (fields : List FieldView) (ends : Ending) (line : List ℕ) (mode : Mode) → grammar_fault s.graph ≡ None
    → IsCatalogue s.catalogue → AreTables s.graph.tables → IsLawful s.meanings
    → AreShown (insertion s fields ends line mode).bytes
unfolding insertion
insertion_shown s fields (ending.Open place) line mode none named tables lawful =
    cond_both (nat_lt (length line) LINE_LIMIT && nat_le place.at (length line)) _ bell_only IsShownPut (λ room.
    let size = length-drop place.at line in
    let short : length (drop place.at line) ≤ LINE_LIMIT = grind (arith, nat_tests) in
    fitted_shown (length line) (at_block s fields mode line place.at place.block (slice_get s.graph.nodes place.node))
    (at_block_shown s fields mode line place.at place.block place.node none named tables lawful short)) (λ full. tt)
insertion_shown s fields ending.Done line mode none named tables lawful = tt
insertion_shown s fields (ending.Fault fault) line mode none named tables lawful = tt

pub insertion_is_shown : (s : Setting) → grammar_fault s.graph ≡ None → IsCatalogue s.catalogue
    → AreTables s.graph.tables → IsLawful s.meanings → (fields : List FieldView) (ends : Ending) (line : List ℕ) (mode : Mode)
    → is_shown (insertion s fields ends line mode).bytes ≡ true
insertion_is_shown s none named tables lawful fields ends line mode =
    test_of_shown (insertion s fields ends line mode).bytes (insertion_shown s fields ends line mode none named tables lawful)

pub insertion_on_screen : (s : Setting) → grammar_fault s.graph ≡ None → IsCatalogue s.catalogue
    → AreTables s.graph.tables → IsLawful s.meanings → (fields : List FieldView) (ends : Ending) (line : List ℕ) (mode : Mode)
    → flat_map shown_byte (insertion s fields ends line mode).bytes ≡ (insertion s fields ends line mode).bytes
insertion_on_screen s none named tables lawful fields ends line mode =
    screen_of_shown (insertion s fields ends line mode).bytes (insertion_shown s fields ends line mode none named tables lawful)

-- and may be typed
pub insertion_is_typed : (s : Setting) → grammar_fault s.graph ≡ None → IsCatalogue s.catalogue
    → AreTables s.graph.tables → IsLawful s.meanings → (fields : List FieldView) (ends : Ending) (line : List ℕ) (mode : Mode)
    → AreTyped (insertion s fields ends line mode).bytes
insertion_is_typed s none named tables lawful fields ends line mode =
    typed_of_shown (insertion s fields ends line mode).bytes (insertion_shown s fields ends line mode none named tables lawful)

pub line_goes_on : (s : Setting) (fields : List FieldView) (ends : Ending) (line : List ℕ) (mode : Mode) → grammar_fault s.graph ≡ None
    → IsCatalogue s.catalogue → AreTables s.graph.tables → IsLawful s.meanings → IsLine line
    → IsLine (line ++ (insertion s fields ends line mode).bytes)
line_goes_on s fields ends line mode none named tables lawful is =
    let put = (insertion s fields ends line mode).bytes in
    let size = length-append line put in
    let most = insertion_fits s fields ends line mode is.short in
    let shown = insertion_shown s fields ends line mode none named tables lawful in
    record { short = omega arith; plain = line_append line put is.plain (line_of_shown put shown) }
