-- What the fields of switches and their values, and what the EXEC's rules judge, can be.
-- What a value can be is one lemma for each function (PlainIfAccept).
use Rattle.std.proofs.Common.{◌≡◌, ℕ, ◌<◌, ◌+◌, ◌≤◌, ◌&&◌, ◌==◌, Bool, true, false, nat_le, nat_lt, if◌then◌else◌, List, [], ◌∷◌, length, take, slice_get, Result, Ok, Err, refl, ap, sym, subst, ◌∙◌, arith}
use Rattle.std.specs.Char.{is_ascii_digit}
use Rattle.std.specs.Str.{all_ascii_digits}
use Rattle.std.specs.Str.Parse.{digits_value}
use Rattle.std.specs.List.{enumerate_from, list_all, prefix_len}
use Rattle.std.specs.Option.{option_map_or}
use Rattle.std.proofs.lemmas.Bool.{and_parts, cond_both}
use Rattle.std.proofs.lemmas.Bool.Decides.{nat_tests}
use Rattle.cm_lists.proofs.Bools.{cond_each}
use Rattle.cm_lists.proofs.Quantifiers.{all_filter}
use Rattle.cm_text.specs.Bytes.{is_word}
use Rattle.cm_text.specs.declared.name.TheConstants.{NAME_LIMIT}
use Rattle.cm_tables.specs.declared.entry.Entry.{Entry}
use Rattle.cm_fields.specs.declared.code.Code.{Code}
use Rattle.cm_fields.specs.declared.code.Code.TheVariants.{BadNumber, FieldLong, NeedColon, NoField, NotQuoted, NotSwitch, NumberRange}
use Rattle.cm_fields.specs.declared.digits.TheConstants.{NUMBER_LIMIT}
use Rattle.cm_fields.specs.declared.trial.Try.{Try}
use Rattle.cm_fields.specs.declared.trial.Try.TheVariants.{Accept, More, Refuse}
use Rattle.cm_fields.specs.declared.value.Value.{Value}
use Rattle.cm_fields.specs.declared.value.Value.TheVariants as values
use Rattle.cm_fields.specs.Quoted.{by_closing, closing, is_cut, quoted}
use Rattle.cm_fields.specs.Run.{number_of, word_of}
use Rattle.cm_fields.specs.Try.{by_run, said, span}
use Rattle.cm_dates.specs.Date.{date_of}
use Rattle.cm_dates.proofs.Values.{IsDateIfOk, run_is_date}
use Rattle.cm_files.specs.LogicalName.{is_logical_name}
use Rattle.cm_files.proofs.LogicalNames.{short_name}
use Rattle.cm_hooks.specs.Among.{has_name, is_under, only, under, verdict_among}
use Rattle.cm_hooks.specs.declared.answer.Answer.{Answer}
use Rattle.cm_hooks.specs.declared.answer.Answer.TheVariants.{Yes, No, NoBecause}
use Rattle.cm_hooks.specs.Field.{hook_of, judged}
use Rattle.cm_blocks.specs.Keyword.{after_slash, code_at, entry_position, has_colon, named_switch, switch}
use Rattle.ex_grammar.specs.ExecRules.{forms, logical_verdict, rule_verdict}
use Rattle.ex_grammar.specs.RetentionCount.{retention_verdict}
use Rattle.ex_store.specs.declared.limits.TheConstants.{FORMS, RETENTION_LIMIT}
use Rattle.ex_commands.specs.declared.commands.print.TheConstants.{FORM_RULE}
use Rattle.ex_commands.specs.NameParts.{IsRuled, IsSaid}
use Rattle.ex_commands.proofs.Dates.{IsDayIfOk, date_is}

-- the value of a switch, or one that a switch may have and no rule judged
abbrev pub IsPlain : Value → Type 0
IsPlain (values.Switch entry code) = Unit {0}
IsPlain (values.Number number) = Unit {0}
IsPlain (values.Date day) = IsSaid (values.Date day)
IsPlain (values.Quoted place) = Unit {0}
IsPlain (values.Word place) = IsSaid (values.Word place)
IsPlain value = ⊥

abbrev PlainIfOk : Result Value Code → Type 0
PlainIfOk (Ok value) = IsPlain value
PlainIfOk (Err code) = Unit {0}

abbrev pub PlainIfAccept : Try → Type 0
PlainIfAccept (Accept value looked end) = IsPlain value
PlainIfAccept (Refuse code looked) = Unit {0}
PlainIfAccept More = Unit {0}

said_plain : (at size looked : ℕ) (decision : Result Value Code) → PlainIfOk decision → PlainIfAccept (said at size looked decision)
said_plain at size looked (Ok value) plain = plain
said_plain at size looked (Err code) plain = tt

run_plain : (is_part : ℕ → Bool) (decide : List ℕ → Result Value Code) (rest : List ℕ) (at : ℕ)
    → ((run : List ℕ) → PlainIfOk (decide run)) → PlainIfAccept (by_run is_part decide rest at)
run_plain is_part decide rest at plain =
    cond_each PlainIfAccept (prefix_len is_part rest == length rest) More _ tt
    (said_plain at (prefix_len is_part rest) (prefix_len is_part rest + 1) (decide (take (prefix_len is_part rest) rest))
    (plain (take (prefix_len is_part rest) rest)))

number_plain : (run : List ℕ) → PlainIfOk (number_of run)
unfolding number_of
number_plain run =
    cond_each PlainIfOk (nat_lt 0 (length run) && list_all is_ascii_digit run) _ (Err BadNumber)
    (cond_each PlainIfOk (nat_le (digits_value 10 run) NUMBER_LIMIT) (Ok (values.Number (digits_value 10 run))) (Err NumberRange) tt tt) tt

word_plain : (at : ℕ) (run : List ℕ) → PlainIfOk (word_of at run)
unfolding word_of
word_plain at run =
    cond_each PlainIfOk (length run == 0) (Err NoField) _ tt
    (cond_both (nat_le (length run) NAME_LIMIT) (Ok (values.Word (span at (length run)))) (Err FieldLong) PlainIfOk (λ short. grind (arith, nat_tests)) (λ long. tt))

date_plain : (run : List ℕ) → PlainIfOk (date_of run)
date_plain run = by (date_of run) (run_is_date run) (date_is run)
  where
    by : (decision : Result Value Code) → IsDateIfOk decision → IsDayIfOk decision → PlainIfOk decision
    by (Ok (values.Date day)) is day_is = day_is
    by (Ok value) is day_is = absurd is
    by (Err code) is day_is = tt

-- what is after the opening quote
closing_plain : (at size written : ℕ) (rest : List ℕ) → PlainIfAccept (by_closing at (closing size written rest))
closing_plain at size written [] = tt
closing_plain at size written (byte ∷ []) = cond_each (λ found. PlainIfAccept (by_closing at found)) (is_cut byte) _ _ tt tt
closing_plain at size written (byte ∷ next ∷ more) =
    cond_each (λ found. PlainIfAccept (by_closing at found)) (is_cut byte) _ _ tt
    (cond_each (λ found. PlainIfAccept (by_closing at found)) (byte == 34) _ _
    (cond_each (λ found. PlainIfAccept (by_closing at found)) (next == 34) _ _
    (closing_plain at (size + 2) (written + 1) more)
    (cond_each PlainIfAccept (nat_le written NAME_LIMIT) _ _ tt tt))
    (closing_plain at (size + 1) (written + 1) (next ∷ more)))

pub quoted_plain : (rest : List ℕ) (at : ℕ) → PlainIfAccept (quoted rest at)
quoted_plain [] at = tt
quoted_plain (byte ∷ rest) at =
    cond_each PlainIfAccept (byte == 34) (by_closing at (closing 0 0 rest)) (Refuse NotQuoted 1) (closing_plain at 0 0 rest) tt

named_plain : (table : List Entry) (at size : ℕ) (colon : Bool) (found : Result ℕ Code) → PlainIfAccept (named_switch table at size colon found)
named_plain table at size colon (Ok position) =
    cond_each PlainIfAccept (has_colon table position) _ (Accept (values.Switch position (code_at table position)) (size + 2) (at + (size + 1)))
    (cond_each PlainIfAccept colon (Accept (values.Switch position (code_at table position)) (size + 2) (at + (size + 2)))
    (Refuse NeedColon (size + 2)) tt tt) tt
named_plain table at size colon (Err code) = tt

pub switch_plain : (table : List Entry) (rest : List ℕ) (at : ℕ) → PlainIfAccept (switch table rest at)
switch_plain table [] at = tt
switch_plain table (byte ∷ rest) at =
    cond_each PlainIfAccept (byte == 47) (after_slash table rest at) (Refuse NotSwitch 1)
    (cond_each PlainIfAccept (prefix_len is_word rest == length rest) More _ tt
    (named_plain table at (prefix_len is_word rest) (option_map_or (λ byte. byte == 58) (slice_get rest (prefix_len is_word rest)) false)
    (entry_position table (take (prefix_len is_word rest) rest)))) tt

pub number_is_plain : (rest : List ℕ) (at : ℕ) → PlainIfAccept (by_run is_word number_of rest at)
number_is_plain rest at = run_plain is_word number_of rest at number_plain

pub word_is_plain : (rest : List ℕ) (at : ℕ) → PlainIfAccept (by_run is_word (word_of at) rest at)
word_is_plain rest at = run_plain is_word (word_of at) rest at (word_plain at)

pub date_is_plain : (rest : List ℕ) (at : ℕ) → PlainIfAccept (by_run is_word date_of rest at)
date_is_plain rest at = run_plain is_word date_of rest at date_plain

-- an accepted value is one
pub accepted_plain : (answer : Try) (value : Value) (looked end : ℕ) → PlainIfAccept answer → answer ≡ Accept value looked end → IsPlain value
accepted_plain answer value looked end plain is = subst PlainIfAccept is plain

pub plain_said : (value : Value) → IsPlain value → IsSaid value
plain_said (values.Switch entry code) plain = tt
plain_said (values.Number number) plain = tt
plain_said (values.Date day) plain = plain
plain_said (values.Quoted place) plain = tt
plain_said (values.Word place) plain = plain
plain_said value plain = absurd plain

-- a rule takes no more than this
abbrev AtMost : ℕ → Answer → Type 0
AtMost most (Yes value) = value ≤ most
AtMost most No = Unit {0}
AtMost most (NoBecause reason) = Unit {0}

less_than_all : (most more : ℕ) (answer : Answer) → most ≤ more → AtMost most answer → AtMost more answer
less_than_all most more (Yes value) few is = omega arith
less_than_all most more No few is = tt
less_than_all most more (NoBecause reason) few is = tt

logical_few : (atom : List ℕ) → AtMost NAME_LIMIT (logical_verdict atom)
logical_few atom =
    cond_both (is_logical_name atom) (Yes (length atom)) No (AtMost NAME_LIMIT) (λ is. short_name atom is) (λ other. tt)

abbrev is_form_number : ℕ × List ℕ → Bool
is_form_number name = nat_le name.0 2

only_few : (names : List (ℕ × List ℕ)) → list_all is_form_number names ≡ true → AtMost 2 (only names)
only_few [] few = tt
only_few (name ∷ []) few =
    let first = (and_parts (is_form_number name) true few).0 in grind (arith, nat_tests)
only_few (name ∷ other ∷ more) few = tt

forms_few : list_all is_form_number (enumerate_from 0 forms) ≡ true
forms_few = refl

pub form_few : (atom : List ℕ) → AtMost 2 (verdict_among forms atom)
unfolding verdict_among
form_few atom =
    cond_each (AtMost 2) (length atom == 0) No (only (under forms atom)) tt
    (only_few (under forms atom)
    (all_filter is_form_number (λ (name : ℕ × List ℕ). is_under (has_name forms atom) atom name.1) (enumerate_from 0 forms) forms_few))

retention_few : (atom : List ℕ) → AtMost RETENTION_LIMIT (retention_verdict atom)
unfolding retention_verdict
retention_few atom =
    cond_both (nat_lt 0 (length atom) && all_ascii_digits atom && nat_le (digits_value 10 atom) 63) (Yes (digits_value 10 atom)) No (AtMost RETENTION_LIMIT) (λ is. (let last = (and_parts (nat_lt 0 (length atom) && all_ascii_digits atom) _ is).1 in grind (arith, nat_tests))) (λ other. tt)

rule_few : (id : ℕ) (atom : List ℕ) → AtMost RETENTION_LIMIT (rule_verdict id atom)
rule_few id atom =
    cond_each (AtMost RETENTION_LIMIT) (id == 0) (logical_verdict atom) _
    (less_than_all NAME_LIMIT RETENTION_LIMIT (logical_verdict atom) (omega arith) (logical_few atom))
    (cond_each (AtMost RETENTION_LIMIT) (id == 1) (verdict_among forms atom) (retention_verdict atom)
    (less_than_all 2 RETENTION_LIMIT (verdict_among forms atom) (omega arith) (form_few atom)) (retention_few atom))

-- so what it takes is in range
abbrev RuledBy : ℕ → Answer → Type 0
RuledBy id (Yes value) = IsRuled id value
RuledBy id No = Unit {0}
RuledBy id (NoBecause reason) = Unit {0}

form_value : (id value : ℕ) (atom : List ℕ) → rule_verdict id atom ≡ Yes value → (id == FORM_RULE) ≡ true → value < FORMS
form_value id value atom is named =
    let one : id ≡ 1 = grind (arith, nat_tests) in
    let known : verdict_among forms atom ≡ Yes value = ap (λ (n : ℕ). rule_verdict n atom) (sym one) ∙ is in
    let few : value ≤ 2 = subst (AtMost 2) known (form_few atom) in
    omega arith

ruled : (id : ℕ) (atom : List ℕ) → RuledBy id (rule_verdict id atom)
ruled id atom = by (rule_verdict id atom) refl (rule_few id atom)
  where
    by : (answer : Answer) → rule_verdict id atom ≡ answer → AtMost RETENTION_LIMIT answer → RuledBy id answer
    by (Yes value) is few = record { few = few; form = form_value id value atom is }
    by No is few = tt
    by (NoBecause reason) is few = tt

judged_said : (id : ℕ) (answer : Answer) (value : Value) → RuledBy id answer → judged id answer ≡ Ok value → IsSaid value
judged_said id (Yes number) value is_ruled is =
    let same : values.Hook id number ≡ value = cc in subst IsSaid same is_ruled
judged_said id No value is_ruled is = cc
judged_said id (NoBecause reason) value is_ruled is = cc

pub hook_said : (id : ℕ) (run : List ℕ) (value : Value) → hook_of rule_verdict id run ≡ Ok value → IsSaid value
unfolding hook_of
hook_said id run value is = by (length run == 0) is
  where
    by : (none : Bool) → (if none then Err NoField else judged id (rule_verdict id run)) ≡ Ok value → IsSaid value
    by true is = cc
    by false is = judged_said id (rule_verdict id run) value (ruled id run) is
