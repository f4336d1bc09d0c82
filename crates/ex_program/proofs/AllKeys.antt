-- A generated run takes all its keys.
use Rattle.std.proofs.Common.{◌≡◌, ℕ, zero, suc, ◌+◌, ◌<◌, ◌≤◌, ◌==◌, ◌^◌, Bool, true, false, List, [], ◌∷◌, ◌++◌, length, Option, Some, None, inl, refl, ap, ◌∙◌, arith, rules}
use Rattle.std.specs.Char.{is_ascii_digit}
use Rattle.std.specs.Fmt.{decimal}
use Rattle.std.specs.List.{list_all}
use Rattle.std.specs.Option.{option_and_then}
use Rattle.std.specs.Str.Parse.{digits_value}
use Rattle.std.proofs.lemmas.Bool.{and_parts}
use Rattle.std.proofs.lemmas.Bool.Decides.{nat_tests}
use Rattle.std.proofs.lemmas.Fmt.{digits_decimal}
use Rattle.std.proofs.lemmas.Grind.{flat_map-append}
use Rattle.std.proofs.lemmas.Str.Parse.{IsNumeralModel, numerals_by_value}
use Rattle.cm_lists.proofs.Bools.{cond_each}
use Rattle.cm_text.specs.Bytes.{is_text}
use Rattle.cm_run.specs.Event.{event_key, keys_of}
use Rattle.cm_run.specs.Trace.{RunState, is_ended, key_trace, keys_trace, run_trace, starting, step, unless}
use Rattle.cm_run.proofs.Prefixes.{keys_of_key}
use Rattle.ex_store.specs.State.{first_state}
use Rattle.ex_take.specs.Exec.{exec_semantics}
use Rattle.ex_take.specs.ExecState.{ExecState, exec_start}
use Rattle.ex_program.specs.GeneratedKeys.{copy_end, copy_keys, copy_middle, copy_start, delete_start, expunge_keys, file_of, generated_keys, keys_after, keys_by, kind_of, line_keys, list_end, list_start, name_end, next_number, tell_keys, undelete_start}
use Rattle.ex_program.specs.Summary.{generated_trace, summary_of}
use Rattle.ex_program.specs.declared.progress.TheConstants.{GENERATED_LINES}
use Rattle.ex_program.proofs.KnownRuns.{ended_where}
use Rattle.ex_program.proofs.KeySteps.{Holds, step_holds}
use Rattle.ex_program.proofs.LineKeys.{Where, Fresh, Far, Lined, go}

-- where keys lead in a line
abbrev goes : Where → List ℕ → Option Where
goes w [] = Some w
goes w (key ∷ keys) = option_and_then (λ (v : Where). goes v keys) (go w key)

goes_both : (first more : List ℕ) (w v u : Where) → goes w first ≡ Some v → goes v more ≡ Some u → goes w (first ++ more) ≡ Some u
goes_both [] more w v u is then = let same : w ≡ v = cc in ap (λ (w : Where). goes w more) same ∙ then
goes_both (key ∷ first) more w v u is then = by (go w key) is (λ next later. goes_both first more next v u later then) where
  by : (to : Option Where) → option_and_then (λ (v : Where). goes v first) to ≡ Some v
      → ((next : Where) → goes next first ≡ Some v → goes next (first ++ more) ≡ Some u)
      → option_and_then (λ (v : Where). goes v (first ++ more)) to ≡ Some u
  by None is again = absurd (cc)
  by (Some next) is again = again next is

-- digits
other_key : (digit n : ℕ) → is_ascii_digit digit ≡ true → (n < 48) → (digit == n) ≡ false
other_key digit n is below = grind (arith, nat_tests, is)

above_key : (digit n : ℕ) → is_ascii_digit digit ≡ true → (57 < n) → (digit == n) ≡ false
above_key digit n is above = grind (arith, nat_tests, is)

digit_text : (digit : ℕ) → is_ascii_digit digit ≡ true → is_text digit ≡ true
unfolding is_text
digit_text digit is = grind (arith, nat_tests, is)

digit_far : (digit : ℕ) → is_ascii_digit digit ≡ true → go Far digit ≡ Some Far
digit_far digit is =
    rw (
      other_key digit 13 is (omega arith),
      other_key digit 27 is (omega arith),
      above_key digit 127 is (omega arith),
      other_key digit 23 is (omega arith),
      digit_text digit is,
    ) refl

digit_lined : (digit : ℕ) → is_ascii_digit digit ≡ true → go Lined digit ≡ Some Lined
digit_lined digit is =
    rw (other_key digit 13 is (omega arith), digit_text digit is, other_key digit 45 is (omega arith)) refl

digits_go : (w : Where) → ((digit : ℕ) → is_ascii_digit digit ≡ true → go w digit ≡ Some w) → (digits : List ℕ)
    → list_all is_ascii_digit digits ≡ true → goes w digits ≡ Some w
digits_go w each [] all = refl
digits_go w each (digit ∷ digits) all =
    let parts = and_parts (is_ascii_digit digit) (list_all is_ascii_digit digits) all in
    ap (λ (to : Option Where). option_and_then (λ (v : Where). goes v digits) to) (each digit parts.0) ∙ digits_go w each digits parts.1

numerals : IsNumeralModel (λ digits. list_all is_ascii_digit digits ≡ true) (digits_value 10)
numerals = numerals_by_value (λ digits. list_all is_ascii_digit digits ≡ true) (search rules)

number_goes : (w : Where) → ((digit : ℕ) → is_ascii_digit digit ≡ true → go w digit ≡ Some w) → (n : ℕ) → n < 2 ^ 64 → goes w (decimal n) ≡ Some w
number_goes w each n below = digits_go w each (decimal n) (digits_decimal numerals n below)

-- a line that names a file
named : (start end : List ℕ) (n : ℕ) → n < 2 ^ 64 → goes Fresh start ≡ Some Far → goes Far end ≡ Some Fresh
    → goes Fresh (start ++ (decimal n ++ end)) ≡ Some Fresh
named start end n below begins ends =
    goes_both start (decimal n ++ end) Fresh Far Fresh begins
    (goes_both (decimal n) end Far Far Fresh (number_goes Far digit_far n below) ends)

copy_goes : (position file : ℕ) → position < 2 ^ 64 → file < 2 ^ 64 → goes Fresh (copy_keys position file) ≡ Some Fresh
unfolding copy_keys copy_start copy_middle copy_end is_text
copy_goes position file few small =
    goes_both copy_start (decimal file ++ (copy_middle ++ (decimal position ++ copy_end))) Fresh Far Fresh refl
    (goes_both (decimal file) (copy_middle ++ (decimal position ++ copy_end)) Far Far Fresh (number_goes Far digit_far file small)
    (goes_both copy_middle (decimal position ++ copy_end) Far Lined Fresh refl
    (goes_both (decimal position) copy_end Lined Lined Fresh (number_goes Lined digit_lined position few) refl)))

file_small : (number : ℕ) → file_of number < 2 ^ 64
file_small number = omega arith

line_goes : (position number : ℕ) → position < 2 ^ 64 → goes Fresh (line_keys position number) ≡ Some Fresh
unfolding line_keys keys_by list_start list_end delete_start undelete_start name_end expunge_keys tell_keys is_text
line_goes position number few =
    let small = file_small number in
    let P : List ℕ → Type 0 = λ keys. goes Fresh keys ≡ Some Fresh in
    cond_each P (kind_of number == 0) _ _ (copy_goes position (file_of number) few small)
    (cond_each P (kind_of number == 1) _ _ (named list_start list_end (file_of number) small refl refl)
    (cond_each P (kind_of number == 2) _ _ (named delete_start name_end (file_of number) small refl refl)
    (cond_each P (kind_of number == 3) _ _ (named undelete_start name_end (file_of number) small refl refl)
    (cond_each P (kind_of number == 4) _ _ refl refl))))

lines_go : (lines position number : ℕ) → position + lines < 2 ^ 64 → goes Fresh (keys_after position number lines) ≡ Some Fresh
unfolding keys_after
lines_go zero position number few = refl
lines_go (suc lines) position number few =
    goes_both (line_keys (position + 1) (next_number number)) (keys_after (position + 1) (next_number number) lines) Fresh Fresh Fresh
    (line_goes (position + 1) (next_number number) (omega (arith, few))) (lines_go lines (position + 1) (next_number number) (omega (arith, few)))

-- such keys are taken
taken : (keys : List ℕ) (w v : Where) (at : RunState ExecState) → goes w keys ≡ Some v → Holds w at → keys_of (keys_trace exec_semantics false at keys) ≡ keys
taken [] w v at is holds = refl
taken (key ∷ keys) w v at is holds =
    by (go w key) refl is (λ u later on. taken keys u v (step exec_semantics at key) later on) where
      by : (to : Option Where) → go w key ≡ to → option_and_then (λ (u : Where). goes u keys) to ≡ Some v
          → ((u : Where) → goes u keys ≡ Some v → Holds u (step exec_semantics at key)
          → keys_of (keys_trace exec_semantics false (step exec_semantics at key) keys) ≡ keys)
          → keys_of (keys_trace exec_semantics false at (key ∷ keys)) ≡ key ∷ keys
      by None leads is again = absurd (cc)
      by (Some u) leads is again =
          let next = step exec_semantics at key in
          let on = step_holds w u at key leads holds in
          let going : is_ended (exec_semantics.mode_of next.state) ≡ false = ended_where next.state ∙ on.on in
          let first = key_trace exec_semantics false at key in
          let more = keys_trace exec_semantics false next keys in
          ap (λ (test : Bool). key ∷ keys_of (first ++ unless test more)) going
          ∙ ap (λ (it : List ℕ). key ∷ it) (flat_map-append event_key first more)
          ∙ ap (λ (it : List ℕ). key ∷ (it ++ keys_of more)) (keys_of_key exec_semantics false at key)
          ∙ ap (λ (it : List ℕ). key ∷ it) (again u is on)

begun : Holds Fresh (starting exec_semantics (exec_start first_state) [])
begun = record {
  quiet = record { files = refl; taken = refl; waits = tt };
  on = refl;
  node = λ line. refl;
  line = λ line. inl refl;
}

pub all_taken : (lines : ℕ) → lines ≤ GENERATED_LINES → keys_of (generated_trace lines) ≡ generated_keys lines
unfolding run_trace
all_taken lines few =
    taken (generated_keys lines) Fresh Fresh (starting exec_semantics (exec_start first_state) []) (lines_go lines 0 lines (omega (arith, few))) begun

pub all_counted : (lines : ℕ) → lines ≤ GENERATED_LINES → (summary_of lines).keys ≡ length (generated_keys lines)
all_counted lines few = ap length (all_taken lines few)
