-- A function that takes what is typed and a space takes it whole, and however the text goes on after the space.
use Rattle.std.proofs.Common.{◌≡◌, ℕ, ◌+◌, Bool, true, false, ◌==◌, ◌&&◌, nat_lt, nat_le, if◌then◌else◌, List, [], ◌∷◌, ◌++◌, length, take, Option, Some, None, Result, Ok, Err, refl, arith, length-append}
use Rattle.std.specs.Char.{is_ascii_digit}
use Rattle.std.specs.List.{list_all, prefix_len}
use Rattle.std.specs.Str.Parse.{digits_value}
use Rattle.std.proofs.lemmas.Bool.Decides.{nat_tests}
use Rattle.std.proofs.lemmas.List.Folds.{prefix_len-append}
use Rattle.std.proofs.Math.Seq.{take-append_seam}
use Rattle.cm_lists.proofs.Bools.{by_test, cond_each}
use Rattle.cm_text.specs.Bytes.{is_name, is_word}
use Rattle.cm_text.specs.ByteSets.{has_byte}
use Rattle.cm_text.specs.declared.name.TheConstants.{NAME_LIMIT}
use Rattle.cm_dates.specs.Date.{date, date_of, dated, month_of}
use Rattle.cm_dates.proofs.Values.{IsDateIfOk, run_is_date}
use Rattle.cm_fields.specs.declared.code.Code.{Code}
use Rattle.cm_fields.specs.declared.code.Code.TheVariants.{BadDate, BadNumber, NumberRange, NoField, FieldLong}
use Rattle.cm_fields.specs.declared.digits.TheConstants.{NUMBER_LIMIT}
use Rattle.cm_fields.specs.declared.trial.Try.{Try}
use Rattle.cm_fields.specs.declared.trial.Try.TheVariants.{Accept, Refuse, More}
use Rattle.cm_fields.specs.declared.value.FileKind.{FileKind}
use Rattle.cm_fields.specs.declared.value.Spec.{Spec}
use Rattle.cm_fields.specs.declared.value.Value.{Value}
use Rattle.cm_fields.specs.declared.value.Value.TheVariants as values
use Rattle.cm_fields.specs.Mark.{comma, confirm}
use Rattle.cm_fields.specs.Quoted.{long_quoted, quoted}
use Rattle.cm_fields.specs.Run.{number, number_of, run_field, run_of, word, word_of}
use Rattle.cm_fields.specs.Text.{is_inside, text_field, text_of}
use Rattle.cm_fields.specs.Try.{by_run, said, span}
use Rattle.cm_fields.proofs.QuotedTexts.{IsQuoted, QuotedAt, long_quoted_ends, quoted_ends}
use Rattle.cm_files.specs.declared.flags.Flags.{Flags}
use Rattle.cm_files.specs.declared.spec.SpecFault.{SpecFault}
use Rattle.cm_files.specs.Catalogue.{Catalogue}
use Rattle.cm_files.specs.Fields.{file, file_in, file_of, file_read, is_file}
use Rattle.cm_files.specs.Resolve.{resolve, then_in}
use Rattle.cm_files.specs.Spec.{read_spec}
use Rattle.cm_hooks.specs.declared.answer.Answer.{Answer}
use Rattle.cm_hooks.specs.declared.answer.Answer.TheVariants.{Yes, No, NoBecause}
use Rattle.cm_hooks.specs.Field.{hook, hook_of, judged}
use Rattle.cm_hooks.specs.FieldBytes.{FieldBytes, not_graphic}
use Rattle.cm_hooks.specs.Meanings.{Meanings}

-- a value that neither an entry of a table nor the end of the line gives
abbrev pub IsOwn : Value → Type 0
IsOwn (values.Key entry code) = ⊥
IsOwn (values.Switch entry code) = ⊥
IsOwn values.Confirm = ⊥
IsOwn value = Unit {0}

-- a field, where there is one, is such a value and ends at this place
abbrev pub EndsAt : ℕ → Try → Type 0
EndsAt place (Accept value looked end) = (end ≡ place) × IsOwn value
EndsAt place (Refuse code looked) = Unit {0}
EndsAt place More = Unit {0}

abbrev pub IsOwnIfOk : Result Value Code → Type 0
IsOwnIfOk (Ok value) = IsOwn value
IsOwnIfOk (Err code) = Unit {0}

said_ends : (at size looked : ℕ) (decision : Result Value Code) → IsOwnIfOk decision → EndsAt (at + size) (said at size looked decision)
said_ends at size looked (Ok value) own = (refl, own)
said_ends at size looked (Err code) own = tt

said_not_more : (at size looked : ℕ) (decision : Result Value Code) → said at size looked decision ≡ More → ⊥
said_not_more at size looked (Ok value) is = cc
said_not_more at size looked (Err code) is = cc

-- a run that wants more is the whole text
pub run_wants : (is_part : ℕ → Bool) (decide : List ℕ → Result Value Code) (rest : List ℕ) (at : ℕ)
    → by_run is_part decide rest at ≡ More → prefix_len is_part rest ≡ length rest
run_wants is_part decide rest at is = by (prefix_len is_part rest == length rest) refl is
  where
    by : (test : Bool) → (prefix_len is_part rest == length rest) ≡ test
        → (if test then More else said at (prefix_len is_part rest) (prefix_len is_part rest + 1) (decide (take (prefix_len is_part rest) rest))) ≡ More
        → prefix_len is_part rest ≡ length rest
    by true ends is = grind (arith, nat_tests)
    by false ends is = absurd (said_not_more at _ _ (decide (take (prefix_len is_part rest) rest)) is)

-- a whole run that a byte ends is decided
pub run_whole : (is_part : ℕ → Bool) (decide : List ℕ → Result Value Code) (whole : List ℕ) (byte : ℕ) (more : List ℕ) (at : ℕ)
    → prefix_len is_part whole ≡ length whole → is_part byte ≡ false
    → by_run is_part decide (whole ++ byte ∷ more) at ≡ said at (length whole) (length whole + 1) (decide whole)
run_whole is_part decide whole byte more at all outside =
    let after : prefix_len is_part (byte ∷ more) ≡ 0 = rw outside refl in
    let run : prefix_len is_part (whole ++ byte ∷ more) ≡ length whole =
    (let both = prefix_len-append is_part whole (byte ∷ more) in grind (arith, nat_tests)) in
    let other : (length whole == length (whole ++ byte ∷ more)) ≡ false =
    (let size = length-append whole (byte ∷ more) in grind (arith, nat_tests)) in
    let same : take (length whole) (whole ++ byte ∷ more) ≡ whole = take-append_seam whole (byte ∷ more) in
    rw (run, other, same)

pub run_ends : (is_part : ℕ → Bool) (decide : List ℕ → Result Value Code) (rest : List ℕ) (at : ℕ) → is_part 32 ≡ false
    → IsOwnIfOk (decide rest) → by_run is_part decide rest at ≡ More
    → EndsAt (at + length rest) (by_run is_part decide (rest ++ 32 ∷ []) at)
run_ends is_part decide rest at outside own is =
    rw (run_whole is_part decide rest 32 [] at (run_wants is_part decide rest at is) outside)
    (said_ends at (length rest) (length rest + 1) (decide rest) own)

number_own : (run : List ℕ) → IsOwnIfOk (number_of run)
unfolding number_of
number_own run =
    cond_each IsOwnIfOk (nat_lt 0 (length run) && list_all is_ascii_digit run) _ (Err BadNumber)
    (cond_each IsOwnIfOk (nat_le (digits_value 10 run) NUMBER_LIMIT) (Ok (values.Number (digits_value 10 run))) (Err NumberRange) tt tt) tt

word_own : (at : ℕ) (run : List ℕ) → IsOwnIfOk (word_of at run)
unfolding word_of
word_own at run =
    cond_each IsOwnIfOk (length run == 0) (Err NoField) _ tt
    (cond_each IsOwnIfOk (nat_le (length run) NAME_LIMIT) (Ok (values.Word (span at (length run)))) (Err FieldLong) tt tt)

date_own : (run : List ℕ) → IsOwnIfOk (date_of run)
date_own run = by (date_of run) (run_is_date run)
  where
    by : (decision : Result Value Code) → IsDateIfOk decision → IsOwnIfOk decision
    by (Ok (values.Date day)) is = tt
    by (Ok value) is = absurd is
    by (Err code) is = tt

-- no bytes are no date
no_date : (month : Option ℕ) → dated [] month [] ≡ Err BadDate
no_date None = refl
no_date (Some month) = refl

pub date_of_nothing : date_of [] ≡ Err BadDate
unfolding date_of
date_of_nothing = no_date (month_of [])

judged_own : (id : ℕ) (answer : Answer) → IsOwnIfOk (judged id answer)
judged_own id (Yes value) = tt
judged_own id No = tt
judged_own id (NoBecause reason) = tt

hook_own : (verdict : ℕ → List ℕ → Answer) (id : ℕ) (run : List ℕ) → IsOwnIfOk (hook_of verdict id run)
unfolding hook_of
hook_own verdict id run = cond_each IsOwnIfOk (length run == 0) (Err NoField) _ tt (judged_own id (verdict id run))

pub space_no_word : is_word 32 ≡ false
unfolding is_word
space_no_word = refl

-- a space is no byte of a hook's field
pub space_outside : (bytes : FieldBytes) → bytes.test 32 ≡ false
space_outside bytes = not_graphic bytes 32 refl

pub number_ends : (rest : List ℕ) (at : ℕ) → number rest at ≡ More → EndsAt (at + length rest) (number (rest ++ 32 ∷ []) at)
number_ends rest at is = run_ends is_word number_of rest at space_no_word (number_own rest) is

pub word_ends : (rest : List ℕ) (at : ℕ) → word rest at ≡ More → EndsAt (at + length rest) (word (rest ++ 32 ∷ []) at)
word_ends rest at is = run_ends is_word (word_of at) rest at space_no_word (word_own at rest) is

pub date_ends : (rest : List ℕ) (at : ℕ) → date rest at ≡ More → EndsAt (at + length rest) (date (rest ++ 32 ∷ []) at)
date_ends rest at is = run_ends is_word date_of rest at space_no_word (date_own rest) is

pub hook_ends : (meanings : Meanings) (id : ℕ) (rest : List ℕ) (at : ℕ) → hook meanings id rest at ≡ More
    → EndsAt (at + length rest) (hook meanings id (rest ++ 32 ∷ []) at)
hook_ends meanings id rest at is =
    run_ends (meanings.bytes id).test (hook_of meanings.verdict id) rest at (space_outside (meanings.bytes id))
    (hook_own meanings.verdict id rest) is

-- a space does not end a run that may have spaces
run_goes_on : (is_part : ℕ → Bool) (decide : List ℕ → Result Value Code) (rest : List ℕ) (at : ℕ) → is_part 32 ≡ true
    → by_run is_part decide rest at ≡ More → EndsAt (at + length rest) (by_run is_part decide (rest ++ 32 ∷ []) at)
run_goes_on is_part decide rest at inside is =
    let run = run_wants is_part decide rest at is in
    let both = prefix_len-append is_part rest (32 ∷ []) in
    let size = length-append rest (32 ∷ []) in
    let one : prefix_len is_part (32 ∷ []) ≡ 1 = rw inside refl in
    let all : prefix_len is_part (rest ++ 32 ∷ []) ≡ length (rest ++ 32 ∷ []) = grind (arith, nat_tests) in
    let test : (prefix_len is_part (rest ++ 32 ∷ []) == length (rest ++ 32 ∷ [])) ≡ true = grind (arith, nat_tests) in
    rw test tt

-- so it is of the rest of the line
pub text_ends : (rest : List ℕ) (at : ℕ) → text_field rest at ≡ More → EndsAt (at + length rest) (text_field (rest ++ 32 ∷ []) at)
text_ends rest at is = run_goes_on is_inside (text_of at) rest at refl is

set_own : (at : ℕ) (run : List ℕ) → IsOwnIfOk (run_of at run)
unfolding run_of
set_own at run = cond_each IsOwnIfOk (length run == 0) (Err NoField) (Ok (values.Word (span at (length run)))) tt tt

-- a run of the bytes of a set may have spaces, or none
pub set_ends : (set : ℕ) (rest : List ℕ) (at : ℕ) → run_field set rest at ≡ More
    → EndsAt (at + length rest) (run_field set (rest ++ 32 ∷ []) at)
set_ends set rest at is =
    by_test _ (has_byte set 32) (λ inside. run_goes_on (has_byte set) (run_of at) rest at inside is)
    (λ outside. run_ends (has_byte set) (run_of at) rest at outside (set_own at rest) is)

-- a comma and the end of the line are decided by what is typed
pub comma_ends : (rest : List ℕ) (at : ℕ) → comma rest at ≡ More → EndsAt (at + length rest) (comma (rest ++ 32 ∷ []) at)
comma_ends [] at is = tt
comma_ends (byte ∷ rest) at is = by_test _ (byte == 44) (λ test. let never = rw test at is in cc) (λ test. let never = rw test at is in cc)

pub confirm_ends : (rest : List ℕ) (at : ℕ) → confirm rest at ≡ More → EndsAt (at + length rest) (confirm (rest ++ 32 ∷ []) at)
confirm_ends [] at is = tt
confirm_ends (byte ∷ rest) at is = by_test _ (byte == 13) (λ test. let never = rw test at is in cc) (λ test. let never = rw test at is in cc)

file_in_own : (kind : FileKind) (at : ℕ) (spec : Spec) (found : Result ℕ Code) → IsOwnIfOk (then_in found (file_in kind at spec))
file_in_own kind at spec (Ok directory) = tt
file_in_own kind at spec (Err code) = tt

file_read_own : (c : Catalogue) (kind : FileKind) (flags : Flags) (at : ℕ) (run : List ℕ) (read : Result Spec SpecFault)
    → IsOwnIfOk (file_read c kind flags at run read)
file_read_own c kind flags at run (Ok spec) = file_in_own kind at spec (resolve c kind flags run spec)
file_read_own c kind flags at run (Err fault) = tt

file_own : (c : Catalogue) (kind : FileKind) (flags : Flags) (at : ℕ) (run : List ℕ) → IsOwnIfOk (file_of c kind flags at run)
unfolding file_of
file_own c kind flags at run = file_read_own c kind flags at run (read_spec run)

pub space_no_file : is_file 32 ≡ false
unfolding is_name is_word
space_no_file = refl

pub file_ends : (c : Catalogue) (kind : FileKind) (flags : Flags) (rest : List ℕ) (at : ℕ) → file c kind flags rest at ≡ More
    → EndsAt (at + length rest) (file c kind flags (rest ++ 32 ∷ []) at)
file_ends c kind flags rest at is = run_ends is_file (file_of c kind flags at) rest at space_no_file (file_own c kind flags at rest) is

quoted_own : (value : Value) → IsQuoted value → IsOwn value
quoted_own (values.Quoted part) is = tt
quoted_own value is = absurd is

quote_ends : (place : ℕ) (answer : Try) → QuotedAt place answer → EndsAt place answer
quote_ends place (Accept value looked end) ends = (ends.0, quoted_own value ends.1)
quote_ends place (Refuse code looked) ends = tt
quote_ends place More ends = tt

pub quoted_closes : (rest : List ℕ) (at : ℕ) → quoted rest at ≡ More → EndsAt (at + length rest) (quoted (rest ++ 32 ∷ []) at)
quoted_closes rest at is = quote_ends (at + length rest) (quoted (rest ++ 32 ∷ []) at) (quoted_ends rest at is)

pub long_quoted_closes : (rest : List ℕ) (at : ℕ) → long_quoted rest at ≡ More
    → EndsAt (at + length rest) (long_quoted (rest ++ 32 ∷ []) at)
long_quoted_closes rest at is =
    quote_ends (at + length rest) (long_quoted (rest ++ 32 ∷ []) at) (long_quoted_ends rest at is)
