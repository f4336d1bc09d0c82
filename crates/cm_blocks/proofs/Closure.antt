-- The parse of a finished text is decided.
use Rattle.std.proofs.Common.{◌≡◌, ℕ, zero, suc, ◌+◌, ◌<◌, ◌≤◌, Bool, true, false, not, ◌==◌, ◌&&◌, nat_le, List, [], ◌∷◌, length, drop, take, Option, Some, None, unwrap_or, slice_get, Result, Ok, Err, refl, ap, sym, subst, ◌++◌, ◌∙◌, arith, length-drop}
use Rattle.std.proofs.lemmas.Bool.{and_parts, cond_both, not-true}
use Rattle.std.specs.List.{All, prefix_len}
use Rattle.std.proofs.lemmas.Bool.Decides.{nat_tests}
use Rattle.std.proofs.lemmas.List.{drop-append-le}
use Rattle.cm_lists.proofs.Bools.{cond_each}
use Rattle.cm_text.specs.Bytes.{is_shown, is_shown_byte, is_word}
use Rattle.cm_text.specs.ByteSets.{has_byte, is_empty}
use Rattle.cm_text.specs.Text.{finished}
use Rattle.cm_text.specs.declared.text.TheConstants.{JOIN}
use Rattle.cm_tables.specs.declared.entry.Entry.{Entry}
use Rattle.cm_dates.specs.Date.{date_of}
use Rattle.cm_fields.specs.declared.code.Code.{Code}
use Rattle.cm_fields.specs.declared.code.Code.TheVariants.{NotConfirmed}
use Rattle.cm_fields.specs.declared.trial.Try.{Try}
use Rattle.cm_fields.specs.declared.trial.Try.TheVariants.{Accept, Refuse, More}
use Rattle.cm_fields.specs.declared.value.FileKind.TheVariants.{In, Out, Any}
use Rattle.cm_fields.specs.Finish.{Decides, DecidesFinished, has_no_end}
use Rattle.cm_fields.specs.Numeral.{numeral_of}
use Rattle.cm_fields.specs.Phrase.{same_letter}
use Rattle.cm_fields.specs.Run.{may_be_field, number_of, run_of, word_of}
use Rattle.cm_fields.specs.Text.{is_inside, text_of}
use Rattle.cm_fields.proofs.LineEnds.{comma_decides, confirm_decides, long_quoted_decides, mark_inside, noise_decides, not_all, quoted_decides, run_decides, run_finishes, token_decides}
use Rattle.cm_fields.proofs.Skips.{skip_finds}
use Rattle.cm_files.specs.declared.flags.Flags.{Flags}
use Rattle.cm_files.proofs.Trials.{directory_decides, file_decides, user_decides}
use Rattle.cm_hooks.specs.Field.{hook_of}
use Rattle.cm_hooks.specs.FieldBytes.{not_graphic}
use Rattle.cm_blocks.specs.declared.chain.Walk.{Walk}
use Rattle.cm_blocks.specs.declared.chain.Walk.TheVariants.{Takes, Wants, Fails}
use Rattle.cm_blocks.specs.declared.field.Chain.{Chain}
use Rattle.cm_blocks.specs.declared.field.Chain.TheVariants as chain
use Rattle.cm_blocks.specs.declared.field.TheConstants.{FIELD_LIMIT}
use Rattle.cm_blocks.specs.declared.function.Function.{Function}
use Rattle.cm_blocks.specs.declared.function.Function.TheVariants.{Key, Switch, Noise, Number, Numeral, Word, Run, Quoted, LongQuoted, Token, Date, User, Directory, InFile, OutFile, AnyFile, Text, Comma, Confirm, Hook}
use Rattle.cm_blocks.specs.declared.node.Block.{Block}
use Rattle.cm_blocks.specs.declared.node.Node.{Node}
use Rattle.cm_blocks.specs.Chain.{Counted, at_node, by_default, chain_at, default_place, default_rest, defaulted, is_confirm, is_line_end, on_default, on_text, or_later, past_skip, typed, walk}
use Rattle.cm_blocks.specs.Fault.{grammar_fault, has_phrase, may_read}
use Rattle.cm_blocks.specs.Grammar.{Graph}
use Rattle.cm_blocks.specs.Keyword.{after_slash, entry_position, has_colon, key_value, named_switch, switch}
use Rattle.cm_blocks.specs.Once.{repeats, unless_repeated}
use Rattle.cm_blocks.specs.Parse.{IsClosed, Parse, after_chain, answer_at, ending_of, parse_from, parse_of}
use Rattle.cm_blocks.specs.Setting.{Setting}
use Rattle.cm_blocks.specs.FieldView.{FieldView}
use Rattle.cm_blocks.specs.Trial.{table_of, trial}
use Rattle.cm_blocks.specs.Well.{IsWell, IsWellBlock}
use Rattle.cm_blocks.proofs.Wells.{well_node}

-- the name of a switch ends before the end of the line
named_decides : (table : List Entry) (at size most : ℕ) (colon : Bool) (found : Result ℕ Code) → size ≤ most
    → (colon ≡ true → size < most) → Decides at (1 + most) (named_switch table at size colon found)
named_decides table at size most colon (Err code) within inside = tt
named_decides table at size most colon (Ok position) within inside =
    cond_both (has_colon table position) _ _ (Decides at (1 + most)) (λ _. cond_both colon _ _ (Decides at (1 + most)) (λ is. let before = inside is in omega arith) (λ _. tt)) (λ _. omega arith)

slash_decides : (table : List Entry) (line : List ℕ) (at : ℕ) → Decides at (1 + length line) (after_slash table (finished line) at)
unfolding is_word
slash_decides table line at =
    let size = prefix_len is_word (finished line) in
    let within = run_finishes is_word refl line in
    cond_both (size == length (finished line)) _ _ (Decides at (1 + length line)) (λ equal. absurd (not_all size line within equal)) (λ _. named_decides table at size (length line) _ (entry_position table (take size (finished line))) within
    (mark_inside 58 refl line size within))

switch_decides : (table : List Entry) → DecidesFinished (switch table)
switch_decides table [] at = tt
switch_decides table (byte ∷ line) at =
    let size : 1 + length line ≡ length (byte ∷ line) = omega arith in
    let after = slash_decides table line at in
    cond_both (byte == 47) _ _ (Decides at (length (byte ∷ line))) (λ _. rw (← size) after) (λ _. tt)

-- a printing byte is not the end of the line, in either case
shown_differs : (byte : ℕ) → is_shown_byte byte ≡ true → not (same_letter byte 13) ≡ true
shown_differs byte shown =
    let both = and_parts (nat_le 32 byte && nat_le byte 126) _ shown in
    let first = and_parts (nat_le 32 byte) _ both.0 in
    let least = first.0 in
    grind (arith, nat_tests)

shown_has_no_end : (phrase : List ℕ) → is_shown phrase ≡ true → has_no_end phrase ≡ true
shown_has_no_end [] shown = refl
shown_has_no_end (byte ∷ phrase) shown =
    let both = and_parts (is_shown_byte byte) _ shown in
    rw (shown_differs byte both.0) (shown_has_no_end phrase both.1)

-- what a field may have is not the end of the line
has_no_cr : (set : ℕ) → may_be_field set ≡ true → has_byte set 13 ≡ false
has_no_cr set may = not-true _ (and_parts _ (not (has_byte set JOIN)) (and_parts _ (not (has_byte set 63)) may).0).0

trial_decides : (s : Setting) (function : Function) (flags : Flags) → has_phrase function ≡ true
    → may_read function ≡ true → DecidesFinished (trial s function flags)
unfolding trial is_word
trial_decides s (Key table) flags phrase bytes =
    run_decides is_word (λ at run. key_value (table_of s.graph table) (entry_position (table_of s.graph table) run)) refl
trial_decides s (Switch table) flags phrase bytes = switch_decides (table_of s.graph table)
trial_decides s (Noise text) flags phrase bytes = noise_decides text
trial_decides s Number flags phrase bytes = run_decides is_word (λ at. number_of) refl
trial_decides s (Numeral numbers) flags phrase bytes = run_decides is_word (λ at. numeral_of numbers) refl
trial_decides s Word flags phrase bytes = run_decides is_word word_of refl
trial_decides s (Run set) flags phrase bytes = run_decides (has_byte set) run_of (has_no_cr set (and_parts (not (is_empty set)) _ bytes).1)
trial_decides s Quoted flags phrase bytes = quoted_decides
trial_decides s LongQuoted flags phrase bytes = long_quoted_decides
trial_decides s (Token text) flags phrase bytes = token_decides text (shown_has_no_end text (and_parts _ (is_shown text) phrase).1)
trial_decides s Date flags phrase bytes = run_decides is_word (λ at. date_of) refl
trial_decides s User flags phrase bytes = user_decides s.catalogue
trial_decides s Directory flags phrase bytes = directory_decides flags.new s.catalogue
trial_decides s InFile flags phrase bytes = file_decides s.catalogue In flags
trial_decides s OutFile flags phrase bytes = file_decides s.catalogue Out flags
trial_decides s AnyFile flags phrase bytes = file_decides s.catalogue Any flags
trial_decides s Text flags phrase bytes = run_decides is_inside text_of refl
trial_decides s Comma flags phrase bytes = comma_decides
trial_decides s Confirm flags phrase bytes = confirm_decides
trial_decides s (Hook id) flags phrase bytes =
    run_decides (s.meanings.bytes id).test (λ at. hook_of s.meanings.verdict id) (not_graphic (s.meanings.bytes id) 13 refl)

-- a walk over a finished text wants no more
abbrev WalkDecides : ℕ → ℕ → Walk → Type 0
WalkDecides at most (Takes block role next value looked end) = end ≤ at + most
WalkDecides at most (Wants block) = ⊥
WalkDecides at most (Fails code) = Unit {0}

or_later_decides : (graph : Graph) (at most number looked : ℕ) (block : Block) (answer : Try) (later : Walk)
    → Decides at most answer → WalkDecides at most later → WalkDecides at most (or_later graph number looked block answer later)
or_later_decides graph at most number looked block (Accept value seen end) later here there = here
or_later_decides graph at most number looked block (Refuse code seen) later here there = there
or_later_decides graph at most number looked block More later here there = absurd here

walk_decides : (s : Setting) (line : List ℕ) (at number looked : ℕ) (code : Code) (blocks : List Block)
    → All (IsWellBlock s.graph) blocks → WalkDecides at (length line) (walk s (finished line) at number looked code blocks)
walk_decides s line at number looked code [] well = tt
walk_decides s line at number looked code (block ∷ more) well =
    or_later_decides s.graph at (length line) number _ block (trial s block.function block.flags (finished line) at) _
    (trial_decides s block.function block.flags (well 0 block (omega arith)).phrase (well 0 block (omega arith)).bytes line at)
    (walk_decides s line at (number + 1) _ _ more (λ k d below. well (suc k) d (omega arith)))

-- the chain of a node decides on a finished text, and its field does not pass the line
abbrev ChainDecides : ℕ → Chain → Type 0
ChainDecides most (chain.Field field) = field.end ≤ most
ChainDecides most (chain.Done place) = Unit {0}
ChainDecides most (chain.Fault fault) = Unit {0}
ChainDecides most (chain.Open place) = ⊥

typed_decides : (number start most size : ℕ) (walked : Walk) → start + most ≤ size → WalkDecides start most walked
    → ChainDecides size (typed number start walked)
typed_decides number start most size (Takes block role next value looked end) within decided =
    cond_each (ChainDecides size) (is_confirm value) _ _ tt (omega arith)
typed_decides number start most size (Wants block) within decided = decided
typed_decides number start most size (Fails code) within decided = tt

defaulted_decides : (number start from most size : ℕ) (walked : Walk) → start ≤ size → WalkDecides from most walked
    → ChainDecides size (defaulted number start walked)
defaulted_decides number start from most size (Takes block role next value looked end) within decided =
    cond_each (ChainDecides size) (is_confirm value) _ _ tt within
defaulted_decides number start from most size (Wants block) within decided = decided
defaulted_decides number start from most size (Fails code) within decided = tt

text_decides : (s : Setting) (number : ℕ) (node : Node) (line : List ℕ) (start : ℕ) → IsWell s.graph node → start ≤ length line
    → ChainDecides (length line) (on_text s number node (drop start (finished line)) start).chain
text_decides s number node line start well within =
    let size = length-drop start line in
    let rest = drop-append-le start line (13 ∷ []) within in
    subst (λ (text : List ℕ). ChainDecides (length line) (on_text s number node text start).chain) (sym rest)
    (typed_decides number start (length (drop start line)) (length line) _ (omega arith)
    (walk_decides s (drop start line) start 0 0 NotConfirmed node.chain well.blocks))

default_decides : (s : Setting) (number : ℕ) (node : Node) (start size : ℕ) (text : List ℕ) → IsWell s.graph node → start ≤ size
    → ChainDecides size (on_default s number node start text).chain
default_decides s number node start size text well within =
    let found = skip_finds node.raw text 0 (omega arith) in
    let place : default_place node.raw text ≡ found.place = ap (λ (place : Option ℕ). unwrap_or place 0) found.is in
    let rest : default_rest node.raw text ≡ finished (drop found.place text) =
    ap (λ (at : ℕ). drop at (finished text)) place ∙ drop-append-le found.place text (13 ∷ []) found.within in
    defaulted_decides number start (default_place node.raw text) (length (drop found.place text)) size _ within
    (subst (λ (line : List ℕ). WalkDecides (default_place node.raw text) (length (drop found.place text))
    (walk s line (default_place node.raw text) 0 0 NotConfirmed node.chain)) (sym rest)
    (walk_decides s (drop found.place text) (default_place node.raw text) 0 0 NotConfirmed node.chain well.blocks))

choice_decides : (s : Setting) (number : ℕ) (node : Node) (line : List ℕ) (start : ℕ) (default : Option (List ℕ)) → IsWell s.graph node
    → start ≤ length line → ChainDecides (length line) (by_default s number node (drop start (finished line)) start default).chain
choice_decides s number node line start None well within = text_decides s number node line start well within
choice_decides s number node line start (Some text) well within =
    cond_each (λ (counted : Counted). ChainDecides (length line) counted.chain) (is_line_end (drop start (finished line))) _ _
    (default_decides s number node start (length line) text well within) (text_decides s number node line start well within)

chain_decides : (s : Setting) (number : ℕ) (line : List ℕ) (at : ℕ) → grammar_fault s.graph ≡ None → at ≤ length line
    → ChainDecides (length line) (chain_at s number (finished line) at).chain
unfolding chain_at
chain_decides s number line at none within = by (slice_get s.graph.nodes number) refl
  where
    by : (found : Option Node) → slice_get s.graph.nodes number ≡ found
        → ChainDecides (length line) (at_node s number (finished line) at found).chain
    by None is = tt
    by (Some node) is =
        let found = skip_finds node.raw line at within in
        subst (λ (place : Option ℕ). ChainDecides (length line) (past_skip s number node (finished line) at place).chain) (sym found.is)
        (choice_decides s number node line found.place node.default (well_node s.graph number node none is) found.within)

-- so the parse of a finished text does not end open
ending_decides : (size : ℕ) (answer : Chain) → ChainDecides size answer → IsClosed (ending_of answer)
ending_decides size (chain.Field field) decided = tt
ending_decides size (chain.Done place) decided = tt
ending_decides size (chain.Fault fault) decided = tt
ending_decides size (chain.Open place) decided = decided

unless_decides : (size : ℕ) (graph : Graph) (before : List FieldView) (answer : Chain) → ChainDecides size answer
    → ChainDecides size (unless_repeated graph before answer)
unless_decides size graph before (chain.Field field) decided =
    cond_each (ChainDecides size) (repeats graph before field) _ _ tt decided
unless_decides size graph before (chain.Done place) decided = tt
unless_decides size graph before (chain.Fault fault) decided = tt
unless_decides size graph before (chain.Open place) decided = decided

closed_from : (s : Setting) → grammar_fault s.graph ≡ None → (line : List ℕ) (before : List FieldView) (room node at : ℕ)
    → at ≤ length line → IsClosed (parse_from s (finished line) before room node at).ending
closed_from s none line before zero node at within =
    ending_decides (length line) _
    (unless_decides (length line) s.graph before _ (chain_decides s node line at none within))
closed_from s none line before (suc room) node at within =
    by (answer_at s (finished line) before node at)
    (unless_decides (length line) s.graph before _ (chain_decides s node line at none within))
    (λ field near. closed_from s none line (before ++ field ∷ []) room field.next field.end near)
  where
    after : FieldView → Parse
    after field = parse_from s (finished line) (before ++ field ∷ []) room field.next field.end

    by : (answer : Chain) → ChainDecides (length line) answer
        → ((field : FieldView) → field.end ≤ length line → IsClosed (after field).ending) → IsClosed (after_chain after answer).ending
    by (chain.Field field) decided later = later field decided
    by (chain.Done place) decided later = tt
    by (chain.Fault fault) decided later = tt
    by (chain.Open place) decided later = decided

pub finished_closes : (s : Setting) → grammar_fault s.graph ≡ None → (node : ℕ) (line : List ℕ)
    → IsClosed (parse_of s node (finished line)).ending
unfolding parse_of
finished_closes s none node line = closed_from s none line [] FIELD_LIMIT node 0 (omega arith)
