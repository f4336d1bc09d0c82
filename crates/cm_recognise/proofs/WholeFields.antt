-- What a function takes whose field is completed whole.
-- That a completion is taken has a chain half (Continuations, with skip_goes_on) and a fact for each function
-- (Keywords, Guides, Plains). A premise with data (Waits) names node and block once.
use Rattle.std.proofs.Common.{◌≡◌, ℕ, zero, suc, ◌+◌, ◌≤◌, Bool, true, false, not, ◌==◌, nat_lt, if◌then◌else◌, List, [], ◌∷◌, ◌++◌, length, drop, None, Some, slice_get, Ok, refl, ap, sym, subst, ◌∙◌, arith, length-append, length-drop, append_assoc, append-nil}
use Rattle.std.specs.List.{list_all, list_any}
use Rattle.std.proofs.lemmas.Bool.{and_parts, not-true}
use Rattle.std.proofs.lemmas.Bool.Decides.{nat_tests}
use Rattle.std.proofs.lemmas.List.{drop_all}
use Rattle.std.proofs.lemmas.Option.{get_or_from_slice_get, slice_get_within}
use Rattle.cm_lists.proofs.Prefixes.{prefix_len_both, prefix_len_drop}
use Rattle.cm_text.specs.Bytes.{is_blank, is_name, is_shown, is_word}
use Rattle.cm_text.specs.ByteSets.{has_byte}
use Rattle.cm_text.specs.Text.{IsLine}
use Rattle.cm_text.specs.declared.text.TheConstants.{LINE_LIMIT}
use Rattle.cm_tables.specs.declared.entry.Entry.{Entry}
use Rattle.cm_fields.specs.declared.trial.Try.{Try}
use Rattle.cm_fields.specs.declared.trial.Try.TheVariants.{Accept, Refuse, More}
use Rattle.cm_fields.specs.declared.value.FileKind.TheVariants.{In, Out, Any}
use Rattle.cm_fields.specs.declared.value.Value.{Value}
use Rattle.cm_fields.specs.declared.value.Value.TheVariants as values
use Rattle.cm_fields.specs.Local.{Stays}
use Rattle.cm_fields.specs.BeforeField.{BeginsOther}
use Rattle.cm_fields.specs.Numeral.{numeral_of}
use Rattle.cm_fields.specs.Run.{number_of, run_field, run_of, word_of}
use Rattle.cm_files.specs.declared.flags.Flags.{Flags}
use Rattle.cm_files.specs.Catalogue.{Catalogue, IsCatalogue}
use Rattle.cm_files.specs.Fields.{directory, directory_of, file_of}
use Rattle.cm_hooks.specs.declared.answer.Answer.{Answer}
use Rattle.cm_hooks.specs.declared.answer.Answer.TheVariants.{Yes, No, NoBecause}
use Rattle.cm_hooks.specs.declared.answer.Tail.{Tail}
use Rattle.cm_hooks.specs.declared.answer.Tail.TheVariants as tails
use Rattle.cm_hooks.specs.Field.{hook, hook_of, judged}
use Rattle.cm_hooks.specs.Meanings.{Completes, IsLawful, IsYes, Meanings}
use Rattle.cm_blocks.specs.declared.function.Function.{Function}
use Rattle.cm_blocks.specs.declared.function.Function.TheVariants.{Key, Switch, Noise, Number, Numeral, Word, Run, Quoted, LongQuoted, Token, Date, User, Directory, InFile, OutFile, AnyFile, Text, Comma, Confirm, Hook}
use Rattle.cm_blocks.specs.declared.node.Block.{Block}
use Rattle.cm_blocks.specs.Chain.{chain_at, is_confirm}
use Rattle.cm_blocks.specs.Fault.{grammar_fault, has_flags, has_phrase, is_parenthesis, is_phrase}
use Rattle.cm_blocks.specs.FieldView.{FieldView}
use Rattle.cm_blocks.specs.Grammar.{Graph}
use Rattle.cm_blocks.specs.Keyword.{code_at}
use Rattle.cm_blocks.specs.Setting.{Setting}
use Rattle.cm_blocks.specs.Trial.{next_of, table_of, trial}
use Rattle.cm_blocks.specs.Well.{AreTables, IsWellBlock}
use Rattle.cm_blocks.proofs.Trials.{trial_is_local}
use Rattle.cm_blocks.proofs.Wells.{flags_agree, well_node}
use Rattle.cm_recognise.specs.declared.file_outcome.Request.{Request}
use Rattle.cm_recognise.specs.declared.insertion.Mode.{Mode}
use Rattle.cm_recognise.specs.declared.outcome.Outcome.{Outcome}
use Rattle.cm_recognise.specs.declared.outcome.Outcome.TheVariants.{Nothing, Whole}
use Rattle.cm_recognise.specs.FileOutcome.{directory_outcome, file_outcome}
use Rattle.cm_recognise.specs.Insertion.{after, guide_of}
use Rattle.cm_recognise.specs.Outcome.{by_function, guide, hook_outcome, outcome, plain_outcome}
use Rattle.cm_recognise.specs.Remaining.{remains}
use Rattle.cm_recognise.specs.Sound.{HasDevice, TakesField, Waits}
use Rattle.cm_recognise.proofs.Directories.{directory_sound, user_begins, user_sound}
use Rattle.cm_recognise.proofs.Files.{file_sound}
use Rattle.cm_recognise.proofs.Continuations.{chain_goes_on}
use Rattle.cm_recognise.proofs.Guides.{noise_bytes, noise_takes, phrase_completes, token_takes}
use Rattle.cm_recognise.proofs.Keywords.{key_begins, key_takes, keyword_completes, switch_takes}
use Rattle.cm_recognise.proofs.Lines.{after_shown, outcome_shown}
use Rattle.cm_recognise.proofs.Ranges.{numeral_ends}
use Rattle.cm_recognise.proofs.Plains.{EndsAt, IsOwn, comma_ends, confirm_ends, date_ends, date_of_nothing, file_ends, hook_ends, long_quoted_closes, number_ends, quoted_closes, run_wants, run_whole, set_ends, space_outside, text_ends, word_ends}
use Rattle.cm_recognise.proofs.ShownBytes.{IsShown}
use Rattle.cm_recognise.proofs.Texts.{shown_append, table_none, line_of_shown}

-- on what is typed, completed, and on a space and more after it, the function takes a field that ends with the
-- completion and leads on
pub record TakesWhole (s : Setting) (block : Block) (atom bytes more : List ℕ) (at next : ℕ) : Type 0 where
  pub value : Value
  pub seen : ℕ
  pub accepts : trial s block.function block.flags (atom ++ (bytes ++ 32 ∷ more)) at ≡ Accept value seen (at + length (atom ++ bytes))
  pub field : is_confirm value ≡ false
  pub leads : next_of s.graph block value ≡ next

own_field : (value : Value) → IsOwn value → is_confirm value ≡ false
own_field values.Confirm own = absurd own
own_field value own = refl

own_leads : (graph : Graph) (block : Block) (value : Value) → IsOwn value → next_of graph block value ≡ block.next
own_leads graph block (values.Key entry code) own = absurd own
own_leads graph block (values.Switch entry code) own = absurd own
own_leads graph block value own = refl

-- what the function takes of what is typed and a space it takes however the text goes on
plain_takes : (s : Setting) (block : Block) (atom bytes more : List ℕ) (at next : ℕ)
    → EndsAt (at + length atom) (trial s block.function block.flags (atom ++ 32 ∷ []) at)
    → plain_outcome block.next (trial s block.function block.flags (atom ++ 32 ∷ []) at) ≡ Whole bytes next
    → TakesWhole s block atom bytes more at next
plain_takes s block atom bytes more at next ends is = by (trial s block.function block.flags (atom ++ 32 ∷ []) at) refl ends is
  where
    by : (answer : Try) → trial s block.function block.flags (atom ++ 32 ∷ []) at ≡ answer → EndsAt (at + length atom) answer
        → plain_outcome block.next answer ≡ Whole bytes next → TakesWhole s block atom bytes more at next
    by (Refuse code looked) tried ends is = cc
    by More tried ends is = cc
    by (Accept value looked end) tried ends is =
        let none : [] ≡ bytes = cc in
        let same : block.next ≡ next = cc in
        let stays : trial s block.function block.flags ((atom ++ 32 ∷ []) ++ more) at ≡ Accept value looked end =
        subst (λ (answer : Try). Stays answer (trial s block.function block.flags ((atom ++ 32 ∷ []) ++ more) at)) tried
        ((trial_is_local s block.function block.flags).stays (atom ++ 32 ∷ []) more at) in
        let text : (atom ++ 32 ∷ []) ++ more ≡ atom ++ 32 ∷ more = append_assoc atom (32 ∷ []) more in
        let place : end ≡ at + length (atom ++ []) = ends.0 ∙ ap (λ (text : List ℕ). at + length text) (sym (append-nil atom)) in
        let plain : TakesWhole s block atom [] more at block.next = record {
          value = value;
          seen = looked;
          accepts = ap (λ (text : List ℕ). trial s block.function block.flags text at) (sym text) ∙ stays ∙ ap (Accept value looked) place;
          field = own_field value ends.1;
          leads = own_leads s.graph block value ends.1;
        } in
        subst (λ (next : ℕ). TakesWhole s block atom bytes more at next) same
        (subst (λ (bytes : List ℕ). TakesWhole s block atom bytes more at block.next) none plain)

-- an outcome where something is typed
some_typed : (test : Bool) (other : Outcome) (bytes : List ℕ) (next : ℕ) → (if test then Nothing else other) ≡ Whole bytes next
    → (test ≡ false) × (other ≡ Whole bytes next)
some_typed true other bytes next is = cc
some_typed false other bytes next is = (refl, is)

yes_judged : (id : ℕ) (answer : Answer) → IsYes answer → (value : ℕ) × (judged id answer ≡ Ok (values.Hook id value))
yes_judged id (Yes value) accepted = (value, refl)
yes_judged id No accepted = absurd accepted
yes_judged id (NoBecause reason) accepted = absurd accepted

hook_takes : (meanings : Meanings) (id : ℕ) (atom bytes more : List ℕ) (at : ℕ) → (length atom == 0) ≡ false
    → hook meanings id atom at ≡ More → list_all (meanings.bytes id).test bytes ≡ true
    → IsYes (meanings.verdict id (atom ++ bytes))
    → (value : ℕ) × (hook meanings id (atom ++ (bytes ++ 32 ∷ more)) at
    ≡ Accept (values.Hook id value) (length (atom ++ bytes) + 1) (at + length (atom ++ bytes)))
unfolding hook_of
hook_takes meanings id atom bytes more at some wants inside accepted =
    let test = (meanings.bytes id).test in
    let decide = hook_of meanings.verdict id in
    let typed = run_wants test decide atom at wants in
    let rest = prefix_len_drop test test (λ byte is. is) 0 bytes inside in
    let whole = prefix_len_both test atom bytes typed rest in
    let taken = run_whole test decide (atom ++ bytes) 32 more at whole (space_outside (meanings.bytes id)) in
    let judged_is = yes_judged id (meanings.verdict id (atom ++ bytes)) accepted in
    let full : (length (atom ++ bytes) == 0) ≡ false = (let size = length-append atom bytes in grind (arith, nat_tests)) in
    let value_is = judged_is.1 in
    (judged_is.0, rw (← append_assoc atom bytes (32 ∷ more)) (rw taken (rw (full, value_is) refl)))

-- a value of a user, a directory or a file leads where the block does
named_takes : (s : Setting) (block : Block) (atom bytes more : List ℕ) (at next : ℕ) (value : Value) (seen : ℕ) → IsOwn value
    → trial s block.function block.flags (atom ++ (bytes ++ 32 ∷ more)) at ≡ Accept value seen (at + length (atom ++ bytes))
    → block.next ≡ next → TakesWhole s block atom bytes more at next
named_takes s block atom bytes more at next value seen own accepts leads =
    record {
      value = value;
      seen = seen;
      accepts = accepts;
      field = own_field value own;
      leads = own_leads s.graph block value own ∙ leads;
    }

pub function_takes : (s : Setting) (mode : Mode) (left : ℕ × Entry → Bool) (block : Block) (function : Function) (atom bytes more : List ℕ) (at next : ℕ)
    → IsCatalogue s.catalogue → HasDevice s function atom → has_flags block ≡ true → AreTables s.graph.tables
    → IsLawful s.meanings → has_phrase function ≡ true → length atom ≤ LINE_LIMIT → trial s function block.flags atom at ≡ More
    → by_function s mode left function block.flags block.next atom
    (plain_outcome block.next (trial s function block.flags (atom ++ 32 ∷ []) at)) ≡ Whole bytes next
    → TakesWhole s (record block { function = function }) atom bytes more at next
unfolding trial
function_takes s mode left block (Key table) atom bytes more at next named device flags tables lawful has short wants is =
    let entries = table_of s.graph table in
    let none = table_none s.graph table tables in
    let c = keyword_completes false left entries atom bytes next none is in
    record {
      value = values.Key c.position (code_at entries c.position);
      seen = _;
      accepts = key_takes left entries atom bytes more at next none wants c;
      field = refl;
      leads = c.next_is;
    }
function_takes s mode left block (Switch table) atom bytes more at next named device flags tables lawful has short wants is =
    let entries = table_of s.graph table in
    let taken = switch_takes left entries atom bytes more at next (table_none s.graph table tables) wants is in
    record {
      value = values.Switch taken.0 (code_at entries taken.0);
      seen = _;
      accepts = taken.2;
      field = refl;
      leads = taken.1;
    }
function_takes s mode left block (Noise text) atom bytes more at next named device flags tables lawful has short wants is =
    let phrase = and_parts (is_phrase text) (not (list_any is_parenthesis text)) has in
    let shown = (and_parts (nat_lt 0 (length text)) (is_shown text) phrase.0).1 in
    let c = phrase_completes (guide text) block.next atom bytes next is in
    record {
      value = values.Noise true;
      seen = _;
      accepts = noise_takes text atom bytes more at (noise_bytes text shown (not-true _ phrase.1)) wants c.0;
      field = refl;
      leads = c.1;
    }
function_takes s mode left block (Token text) atom bytes more at next named device flags tables lawful has short wants is =
    let typed = some_typed (length atom == 0) _ bytes next is in
    let c = phrase_completes text block.next atom bytes next typed.1 in
    record { value = values.Token; seen = _; accepts = token_takes text atom bytes more at c.0; field = refl; leads = c.1 }
function_takes s mode left block (Hook id) atom bytes more at next named device flags tables lawful has short wants is =
    let typed = some_typed (length atom == 0) _ bytes next is in
    by (s.meanings.completion id atom) (lawful.completes id atom short) typed.0 typed.1
  where
    by : (tail : Tail) → Completes (s.meanings.bytes id).test (s.meanings.verdict id) atom tail → (length atom == 0) ≡ false
        → hook_outcome block.next (plain_outcome block.next (trial s (Hook id) block.flags (atom ++ 32 ∷ []) at)) tail ≡ Whole bytes next
        → TakesWhole s (record block { function = Hook id }) atom bytes more at next
    by tails.None completes some is =
        plain_takes s (record block { function = Hook id }) atom bytes more at next (hook_ends s.meanings id atom at wants) is
    by (tails.Part text) completes some is = cc
    by (tails.Whole text) completes some is =
        let same : text ≡ bytes = cc in
        let inside = subst (λ (text : List ℕ). list_all (s.meanings.bytes id).test text ≡ true) same completes.0 in
        let accepted = subst (λ (text : List ℕ). IsYes (s.meanings.verdict id (atom ++ text))) same completes.1.taken in
        let taken = hook_takes s.meanings id atom bytes more at some wants inside accepted in
        record { value = values.Hook id taken.0; seen = _; accepts = taken.1; field = refl; leads = cc }
function_takes s mode left block Number atom bytes more at next named device flags tables lawful has short wants is =
    plain_takes s (record block { function = Number }) atom bytes more at next (number_ends atom at wants) is
function_takes s mode left block (Numeral numbers) atom bytes more at next named device flags tables lawful has short wants is =
    plain_takes s (record block { function = Numeral numbers }) atom bytes more at next (numeral_ends numbers atom at wants) is
function_takes s mode left block Word atom bytes more at next named device flags tables lawful has short wants is =
    plain_takes s (record block { function = Word }) atom bytes more at next (word_ends atom at wants) is
function_takes s mode left block (Run set) atom bytes more at next named device flags tables lawful has short wants is =
    plain_takes s (record block { function = Run set }) atom bytes more at next (set_ends set atom at wants) is
function_takes s mode left block Quoted atom bytes more at next named device flags tables lawful has short wants is =
    plain_takes s (record block { function = Quoted }) atom bytes more at next (quoted_closes atom at wants) is
function_takes s mode left block LongQuoted atom bytes more at next named device flags tables lawful has short wants is =
    plain_takes s (record block { function = LongQuoted }) atom bytes more at next (long_quoted_closes atom at wants) is
function_takes s mode left block Date atom bytes more at next named device flags tables lawful has short wants is =
    plain_takes s (record block { function = Date }) atom bytes more at next (date_ends atom at wants) is
function_takes s mode left block User atom bytes more at next named device flags tables lawful has short wants is =
    let taken = user_sound s.catalogue named atom bytes more at block.next next is in
    named_takes s (record block { function = User }) atom bytes more at next taken.0.value taken.0.seen taken.0.own taken.0.accepts taken.1
function_takes s mode left block Directory atom bytes more at next named device flags tables lawful has short wants is =
    let taken = directory_sound s.catalogue named block.flags.new atom bytes more at block.next next device.0 device.1 wants is in
    named_takes s (record block { function = Directory }) atom bytes more at next taken.0.value taken.0.seen taken.0.own taken.0.accepts taken.1
function_takes s mode left block InFile atom bytes more at next named device flags tables lawful has short wants is =
    let request : Request = record { mode = mode; kind = In; flags = block.flags; next = block.next } in
    let taken = file_sound s.catalogue named request atom bytes more at next tt flags wants is in
    named_takes s (record block { function = InFile }) atom bytes more at next taken.0.value taken.0.seen taken.0.own taken.0.accepts taken.1
function_takes s mode left block AnyFile atom bytes more at next named device flags tables lawful has short wants is =
    let request : Request = record { mode = mode; kind = Any; flags = block.flags; next = block.next } in
    let taken = file_sound s.catalogue named request atom bytes more at next tt flags wants is in
    named_takes s (record block { function = AnyFile }) atom bytes more at next taken.0.value taken.0.seen taken.0.own taken.0.accepts taken.1
function_takes s mode left block OutFile atom bytes more at next named device flags tables lawful has short wants is =
    plain_takes s (record block { function = OutFile }) atom bytes more at next (file_ends s.catalogue Out block.flags atom at wants) is
function_takes s mode left block Text atom bytes more at next named device flags tables lawful has short wants is =
    plain_takes s (record block { function = Text }) atom bytes more at next (text_ends atom at wants) is
function_takes s mode left block Comma atom bytes more at next named device flags tables lawful has short wants is =
    plain_takes s (record block { function = Comma }) atom bytes more at next (comma_ends atom at wants) is
function_takes s mode left block Confirm atom bytes more at next named device flags tables lawful has short wants is =
    plain_takes s (record block { function = Confirm }) atom bytes more at next (confirm_ends atom at wants) is

-- where nothing is typed, a run is not whole
no_run_begins : (set follows : ℕ) (bytes : List ℕ) (at next : ℕ)
    → plain_outcome follows (run_field set (32 ∷ []) at) ≡ Whole bytes next → ⊥
unfolding run_of
no_run_begins set follows bytes at next is = by (has_byte set 32) refl
  where
    by : (test : Bool) → has_byte set 32 ≡ test → ⊥
    by true has = let never = rw has at is in cc
    by false has = let never = rw has at is in cc

-- where nothing is typed, what completes a field whole begins with nothing that is skipped
directory_begins : (c : Catalogue) (new raw : Bool) (follows : ℕ) (bytes more : List ℕ) (at next : ℕ)
    → directory_outcome c new follows [] (plain_outcome follows (directory new c (32 ∷ []) at)) ≡ Whole bytes next
    → BeginsOther raw (bytes ++ more)
unfolding directory_outcome directory_of is_name is_word
directory_begins c true raw follows bytes more at next is = cc
directory_begins c false raw follows bytes more at next is = cc

pub function_begins : (s : Setting) (mode : Mode) (left : ℕ × Entry → Bool) (function : Function) (flags : Flags) (follows : ℕ) (bytes more : List ℕ)
    (at next : ℕ) (raw : Bool) → IsCatalogue s.catalogue → AreTables s.graph.tables
    → by_function s mode left function flags follows [] (plain_outcome follows (trial s function flags (32 ∷ []) at)) ≡ Whole bytes next
    → BeginsOther raw (bytes ++ more)
unfolding trial is_name is_word is_blank number_of numeral_of word_of file_of file_outcome
function_begins s mode left (Key table) flags follows bytes more at next raw named tables is =
    key_begins raw left (table_of s.graph table) bytes more next (table_none s.graph table tables) is
function_begins s mode left (Switch table) flags follows bytes more at next raw named tables is = cc
function_begins s mode left (Noise text) flags follows bytes more at next raw named tables is =
    let c = phrase_completes (guide text) follows [] bytes next is in
    subst (λ (text : List ℕ). BeginsOther raw (text ++ more)) c.0.bytes_is
    (refl, λ plain. (λ (same : 40 ≡ 33). absurd (omega arith), λ (same : 40 ≡ 59). absurd (omega arith)))
function_begins s mode left (Token text) flags follows bytes more at next raw named tables is = cc
function_begins s mode left (Hook id) flags follows bytes more at next raw named tables is = cc
function_begins s mode left Number flags follows bytes more at next raw named tables is = cc
function_begins s mode left (Numeral numbers) flags follows bytes more at next raw named tables is = cc
function_begins s mode left Word flags follows bytes more at next raw named tables is = cc
function_begins s mode left (Run set) flags follows bytes more at next raw named tables is = absurd (no_run_begins set follows bytes at next is)
function_begins s mode left Quoted flags follows bytes more at next raw named tables is = cc
function_begins s mode left LongQuoted flags follows bytes more at next raw named tables is = cc
function_begins s mode left Date flags follows bytes more at next raw named tables is =
    let never = rw date_of_nothing at is in cc
function_begins s mode left User flags follows bytes more at next raw named tables is =
    user_begins s.catalogue named raw follows bytes more next is
function_begins s mode left Directory flags follows bytes more at next raw named tables is =
    directory_begins s.catalogue flags.new raw follows bytes more at next is
function_begins s mode left InFile flags follows bytes more at next raw named tables is = cc
function_begins s mode left OutFile flags follows bytes more at next raw named tables is = cc
function_begins s mode left AnyFile flags follows bytes more at next raw named tables is = cc
function_begins s mode left Text flags follows bytes more at next raw named tables is = cc
function_begins s mode left Comma flags follows bytes more at next raw named tables is = cc
function_begins s mode left Confirm flags follows bytes more at next raw named tables is = cc

-- the phrase of the block that a line waits at is one that it may read
waiting_phrase : (s : Setting) (number b : ℕ) (block : Block) (line : List ℕ) (at start : ℕ) → grammar_fault s.graph ≡ None
    → Waits s number b block line at start → has_phrase block.function ≡ true
waiting_phrase s number b block line at start none waits =
    let well = well_node s.graph number waits.node none waits.node_is in
    let here = well.blocks b block (slice_get_within waits.node.chain b block waits.block_is) in
    let same = get_or_from_slice_get waits.node.chain b block block waits.block_is in
    (subst (IsWellBlock s.graph) same here).phrase

-- all generations come with wildcards in it
waiting_flags : (s : Setting) (number b : ℕ) (block : Block) (line : List ℕ) (at start : ℕ) → grammar_fault s.graph ≡ None
    → Waits s number b block line at start → has_flags block ≡ true
waiting_flags s number b block line at start none waits =
    one waits.node.chain b waits.block_is (flags_agree s.graph number waits.node none waits.node_is)
  where
    one : (blocks : List Block) (b : ℕ) → slice_get blocks b ≡ Some block → list_all has_flags blocks ≡ true → has_flags block ≡ true
    one [] b found all = cc
    one (first ∷ more) zero found all =
        let same : first ≡ block = cc in
        subst (λ (block : Block). has_flags block ≡ true) same (and_parts (has_flags first) (list_all has_flags more) all).0
    one (first ∷ more) (suc b) found all = one more b found (and_parts (has_flags first) (list_all has_flags more) all).1

pub whole_is_taken : (s : Setting) → grammar_fault s.graph ≡ None → IsCatalogue s.catalogue → AreTables s.graph.tables
    → IsLawful s.meanings → (fields : List FieldView) → (line : List ℕ) → IsLine line → (number b at start : ℕ) (block : Block)
    → Waits s number b block line at start → HasDevice s block.function (drop start line) → (mode : Mode)
    → (bytes : List ℕ) (next : ℕ) → outcome s fields mode block (drop start line) start ≡ Whole bytes next
    → TakesField number b start (length line + length bytes) next
    (chain_at s number (line ++ (bytes ++ after s.graph next)) at).chain
unfolding outcome
whole_is_taken s none named tables lawful fields line is_line number b at start block waits device mode bytes next is =
    let has = waiting_phrase s number b block line at start none waits in
    let flags = waiting_flags s number b block line at start none waits in
    let most = is_line.short in
    let size = length-drop start line in
    let short : length (drop start line) ≤ LINE_LIMIT = omega arith in
    let shown = subst IsShown is (outcome_shown s fields mode block (drop start line) start named tables lawful has short) in
    let more = after s.graph next in
    let goes = chain_goes_on s number b block line (bytes ++ more) at start is_line.plain
    (line_of_shown (bytes ++ more) (shown_append bytes more shown (after_shown s.graph next none))) waits in
    let within = goes.within in
    let taken = function_takes s mode (remains s.graph fields block) block block.function (drop start line) bytes (guide_of (slice_get s.graph.nodes next)) start next
    named device flags tables lawful has short goes.wants is in
    let begins : (raw : Bool) → start ≡ length line → BeginsOther raw (bytes ++ more) =
    λ raw ends.
    let nothing : drop start line ≡ [] = drop_all start line (omega arith) in
    function_begins s mode (remains s.graph fields block) block.function block.flags block.next bytes more start next raw named tables
    (subst (λ (atom : List ℕ). outcome s fields mode block atom start ≡ Whole bytes next) nothing is) in
    let end : start + length (drop start line ++ bytes) ≡ length line + length bytes =
    (let both = length-append (drop start line) bytes in omega arith) in
    subst (λ (end : ℕ). TakesField number b start end next (chain_at s number (line ++ (bytes ++ more)) at).chain) end
    (goes.takes taken.value taken.seen (start + length (drop start line ++ bytes)) next taken.accepts taken.field taken.leads begins)
