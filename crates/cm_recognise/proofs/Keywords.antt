-- A keyword or a switch that is completed is taken.
use Rattle.std.proofs.Common.{◌≡◌, ℕ, zero, suc, ◌+◌, ◌<◌, Bool, true, false, ◌==◌, ◌&&◌, nat_lt, if◌then◌else◌, List, [], ◌∷◌, ◌++◌, length, drop, take, Option, Some, None, slice_get, Result, Ok, Err, refl, ap, sym, subst, ◌∙◌, arith, length-append, append_assoc}
use Rattle.std.specs.List.{list_all, prefix_len}
use Rattle.std.specs.Option.{option_map_or}
use Rattle.std.proofs.lemmas.Bool.{and_parts}
use Rattle.std.proofs.lemmas.Bool.Decides.{nat_tests}
use Rattle.std.proofs.lemmas.List.Folds.{prefix_len-append}
use Rattle.std.proofs.Math.Seq.{take-append_seam}
use Rattle.cm_lists.proofs.Prefixes.{prefix_len_both}
use Rattle.cm_text.specs.BeginLaws.{length-whole}
use Rattle.cm_text.specs.Bytes.{is_blank, is_word}
use Rattle.cm_text.specs.Case.{equals}
use Rattle.cm_tables.specs.declared.entry.Entry.{Entry}
use Rattle.cm_tables.specs.declared.table.Look.{Look}
use Rattle.cm_tables.specs.declared.table.Look.TheVariants as looks
use Rattle.cm_tables.specs.Look.{IsWithin, found_at, look}
use Rattle.cm_tables.specs.Order.{is_keyword, is_keyword_byte, table_fault}
use Rattle.cm_fields.specs.declared.code.Code.{Code}
use Rattle.cm_fields.specs.declared.code.Code.TheVariants.{NeedColon, NotSwitch}
use Rattle.cm_fields.specs.declared.trial.Try.TheVariants.{Accept, Refuse, More}
use Rattle.cm_fields.specs.declared.value.Value.TheVariants.{Key, Switch}
use Rattle.cm_fields.specs.BeforeField.{BeginsOther}
use Rattle.cm_blocks.specs.Keyword.{after_slash, code_at, entry_position, has_colon, key, key_value, named_switch, switch}
use Rattle.cm_blocks.specs.Trial.{entry_next}
use Rattle.cm_recognise.specs.declared.outcome.Outcome.TheVariants.{Nothing, Whole}
use Rattle.cm_recognise.specs.Candidates.{missing}
use Rattle.cm_recognise.specs.Capitals.{in_case}
use Rattle.cm_recognise.specs.Outcome.{entry_outcome, keyword_outcome, look_outcome, shared_outcome, switch_outcome, text_at}
use Rattle.cm_recognise.specs.Remaining.{common_among, has_text_among, look_among}
use Rattle.cm_recognise.proofs.Capitals.{case_length, case_same, case_words}
use Rattle.cm_recognise.proofs.Choices.{Finds, among_finds}
use Rattle.cm_recognise.proofs.Plains.{run_wants, run_whole, space_no_word}
use Rattle.cm_recognise.proofs.Texts.{AreKeywords, keywords_of}

-- the entry whose rest these bytes are
pub record Completes (switch : Bool) (table : List Entry) (atom : List ℕ) (found : Look) (bytes : List ℕ) (next : ℕ)
    : Type 0 where
  pub position : ℕ
  pub entry : Entry
  pub found_is : found_at found ≡ Some position
  pub entry_is : slice_get table position ≡ Some entry
  pub bytes_is : in_case atom (drop (length atom) entry.text) ≡ bytes
  pub next_is : entry_next table position ≡ next
  pub plain : (switch && has_colon table position) ≡ false

read_at : (table : List Entry) (position : ℕ) → position < length table → (entry : Entry) × (slice_get table position ≡ Some entry)
read_at [] position below = absurd (omega arith)
read_at (entry ∷ more) zero below = (entry, refl)
read_at (entry ∷ more) (suc position) below = read_at more position (omega arith)

entry_completes : (switch : Bool) (table : List Entry) (atom : List ℕ) (found : Look) (position : ℕ) (bytes : List ℕ) (next : ℕ)
    → found_at found ≡ Some position → position < length table
    → entry_outcome (switch && has_colon table position) table atom position ≡ Whole bytes next
    → Completes switch table atom found bytes next
entry_completes switch table atom found position bytes next found_is below is = by (switch && has_colon table position) refl is
  where
    read : (entry : Entry) × (slice_get table position ≡ Some entry)
    read = read_at table position below

    by : (colon : Bool) → (switch && has_colon table position) ≡ colon → entry_outcome colon table atom position ≡ Whole bytes next
        → Completes switch table atom found bytes next
    by true plain is = cc
    by false plain is =
        let text : text_at table position ≡ read.0.text =
        ap (λ (found : Option Entry). option_map_or (λ (entry : Entry). entry.text) found []) read.1 in
        let rest : in_case atom (missing (text_at table position) atom) ≡ bytes = cc in
        let leads : entry_next table position ≡ next = cc in
        record {
          position = position;
          entry = read.0;
          found_is = found_is;
          entry_is = read.1;
          bytes_is = sym (ap (λ (text : List ℕ). in_case atom (drop (length atom) text)) text) ∙ rest;
          next_is = leads;
          plain = plain;
        }

look_completes : (switch : Bool) (table : List Entry) (atom shared : List ℕ) (has : Bool) (found : Look) (bytes : List ℕ) (next : ℕ)
    → IsWithin found (length table) → look_outcome switch table atom (shared_outcome has atom shared) found ≡ Whole bytes next
    → Completes switch table atom found bytes next
look_completes switch table atom shared has looks.None bytes next within is = cc
look_completes switch table atom shared true looks.Ambiguous bytes next within is = cc
look_completes switch table atom shared false looks.Ambiguous bytes next within is = cc
look_completes switch table atom shared has (looks.Abbrev position) bytes next within is =
    entry_completes switch table atom (looks.Abbrev position) position bytes next refl within is
look_completes switch table atom shared has (looks.Exact position) bytes next within is =
    entry_completes switch table atom (looks.Exact position) position bytes next refl within is

pub keyword_completes : (switch : Bool) (left : ℕ × Entry → Bool) (table : List Entry) (atom bytes : List ℕ) (next : ℕ)
    → table_fault table ≡ None → keyword_outcome switch left table atom ≡ Whole bytes next
    → Completes switch table atom (look_among left table atom) bytes next
keyword_completes switch left table atom bytes next none is =
    look_completes switch table atom (common_among left table atom) (has_text_among left table atom) (look_among left table atom)
    bytes next (among_finds left table atom none).within is

keyword_at : (table : List Entry) (position : ℕ) (entry : Entry) → AreKeywords table → slice_get table position ≡ Some entry
    → is_keyword entry.text ≡ true
keyword_at [] position entry all is = cc
keyword_at (first ∷ more) zero entry all is =
    let same : first ≡ entry = cc in subst (λ (entry : Entry). is_keyword entry.text ≡ true) same all.0
keyword_at (first ∷ more) (suc position) entry all is = keyword_at more position entry all.1 is

-- the whole keyword is a run that means its entry
record IsEntry (table : List Entry) (whole : List ℕ) (position : ℕ) : Type 0 where
  words : prefix_len is_word whole ≡ length whole
  means : entry_position table whole ≡ Ok position

whole_is_entry : (switch : Bool) (table : List Entry) (atom bytes : List ℕ) (found : Look) (next : ℕ) → table_fault table ≡ None
    → Finds table atom found → prefix_len is_word atom ≡ length atom → (c : Completes switch table atom found bytes next)
    → IsEntry table (atom ++ bytes) c.position
unfolding entry_position
whole_is_entry switch table atom bytes found next none finds words c =
    let text = keyword_at table c.position c.entry (keywords_of table none) c.entry_is in
    let parts = and_parts (nat_lt 0 (length c.entry.text)) (list_all is_keyword_byte c.entry.text) text in
    let some = parts.0 in
    let begins = finds.begins c.position c.entry c.found_is c.entry_is in
    let missed = drop (length atom) c.entry.text in
    let tail : length bytes ≡ length missed = ap length (sym c.bytes_is) ∙ case_length atom missed in
    let size : length (atom ++ bytes) ≡ length c.entry.text =
    length-append atom bytes ∙ ap (λ (n : ℕ). length atom + n) tail ∙ sym (length-append atom missed)
    ∙ length-whole c.entry.text atom begins in
    let rest : prefix_len is_word bytes ≡ length bytes =
    subst (λ (rest : List ℕ). prefix_len is_word rest ≡ length rest) c.bytes_is
    (case_words atom c.entry.text (length atom) parts.1) in
    let same : equals missed bytes ≡ true =
    subst (λ (rest : List ℕ). equals missed rest ≡ true) c.bytes_is (case_same atom missed) in
    let exact : look table (atom ++ bytes) ≡ looks.Exact c.position =
    finds.whole c.position c.entry c.found_is c.entry_is bytes same in
    let test : (length (atom ++ bytes) == 0) ≡ false = grind (arith, nat_tests) in
    record { words = prefix_len_both is_word atom bytes words rest; means = rw (test, exact) }

-- a keyword that wants more, completed
pub key_takes : (left : ℕ × Entry → Bool) (table : List Entry) (atom bytes more : List ℕ) (at next : ℕ) → table_fault table ≡ None
    → key table atom at ≡ More → (c : Completes false table atom (look_among left table atom) bytes next)
    → key table (atom ++ (bytes ++ 32 ∷ more)) at
    ≡ Accept (Key c.position (code_at table c.position)) (length (atom ++ bytes) + 1) (at + length (atom ++ bytes))
key_takes left table atom bytes more at next none wants c =
    let words = run_wants is_word (λ run. key_value table (entry_position table run)) atom at wants in
    let entry = whole_is_entry false table atom bytes _ next none (among_finds left table atom none) words c in
    let means = entry.means in
    let taken = run_whole is_word (λ run. key_value table (entry_position table run)) (atom ++ bytes) 32 more at entry.words space_no_word in
    let text : atom ++ (bytes ++ 32 ∷ more) ≡ (atom ++ bytes) ++ 32 ∷ more = sym (append_assoc atom bytes (32 ∷ more)) in
    rw text (rw taken (rw means refl))

named_not_more : (table : List Entry) (at size : ℕ) (colon : Bool) (found : Result ℕ Code)
    → named_switch table at size colon found ≡ More → ⊥
named_not_more table at size colon (Err code) is = cc
named_not_more table at size colon (Ok position) is = by (has_colon table position) colon is
  where
    by : (wants colon : Bool) → (if wants then (if colon then Accept (Switch position (code_at table position)) (size + 2) (at + (size + 2))
        else Refuse NeedColon (size + 2)) else Accept (Switch position (code_at table position)) (size + 2) (at + (size + 1))) ≡ More → ⊥
    by true true is = cc
    by true false is = cc
    by false colon is = cc

slash_wants : (table : List Entry) (atom : List ℕ) (at : ℕ) → after_slash table atom at ≡ More → prefix_len is_word atom ≡ length atom
slash_wants table atom at is = by (prefix_len is_word atom == length atom) refl is
  where
    by : (test : Bool) → (prefix_len is_word atom == length atom) ≡ test
        → (if test then More else named_switch table at (prefix_len is_word atom)
        (option_map_or (λ byte. byte == 58) (slice_get atom (prefix_len is_word atom)) false)
        (entry_position table (take (prefix_len is_word atom) atom))) ≡ More
        → prefix_len is_word atom ≡ length atom
    by true ends is = grind (arith, nat_tests)
    by false ends is = absurd (named_not_more table at (prefix_len is_word atom) _ _ is)

slash_takes : (table : List Entry) (whole more : List ℕ) (at position : ℕ) → IsEntry table whole position → has_colon table position ≡ false
    → after_slash table (whole ++ 32 ∷ more) at
    ≡ Accept (Switch position (code_at table position)) (length whole + 2) (at + (length whole + 1))
unfolding is_word
slash_takes table whole more at position entry plain =
    let words = entry.words in
    let after : prefix_len is_word (32 ∷ more) ≡ 0 = refl in
    let run : prefix_len is_word (whole ++ 32 ∷ more) ≡ length whole =
    (let both = prefix_len-append is_word whole (32 ∷ more) in grind (arith, nat_tests)) in
    let other : (length whole == length (whole ++ 32 ∷ more)) ≡ false =
    (let size = length-append whole (32 ∷ more) in grind (arith, nat_tests)) in
    let same : take (length whole) (whole ++ 32 ∷ more) ≡ whole = take-append_seam whole (32 ∷ more) in
    let means = entry.means in
    rw (run, other, same, means, plain)

-- a switch that wants more, completed
pub switch_takes : (left : ℕ × Entry → Bool) (table : List Entry) (atom bytes more : List ℕ) (at next : ℕ) → table_fault table ≡ None
    → switch table atom at ≡ More → switch_outcome left table atom ≡ Whole bytes next
    → (position : ℕ) × (entry_next table position ≡ next)
    × (switch table (atom ++ (bytes ++ 32 ∷ more)) at
    ≡ Accept (Switch position (code_at table position)) (length (atom ++ bytes) + 1) (at + length (atom ++ bytes)))
switch_takes left table [] bytes more at next none wants is = cc
switch_takes left table (byte ∷ atom) bytes more at next none wants is = by (byte == 47) refl wants is
  where
    by : (test : Bool) → (byte == 47) ≡ test → (if test then after_slash table atom at else Refuse NotSwitch 1) ≡ More
        → (if test then keyword_outcome true left table atom else Nothing) ≡ Whole bytes next
        → (position : ℕ) × (entry_next table position ≡ next)
        × ((if byte == 47 then after_slash table (atom ++ (bytes ++ 32 ∷ more)) at else Refuse NotSwitch 1)
        ≡ Accept (Switch position (code_at table position)) (length (byte ∷ atom ++ bytes) + 1) (at + length (byte ∷ atom ++ bytes)))
    by false slash wants is = cc
    by true slash wants is =
        let words = slash_wants table atom at wants in
        let c = keyword_completes true left table atom bytes next none is in
        let entry = whole_is_entry true table atom bytes _ next none (among_finds left table atom none) words c in
        let taken = slash_takes table (atom ++ bytes) more at c.position entry c.plain in
        let text : atom ++ (bytes ++ 32 ∷ more) ≡ (atom ++ bytes) ++ 32 ∷ more = sym (append_assoc atom bytes (32 ∷ more)) in
        let size : length (byte ∷ atom ++ bytes) ≡ length (atom ++ bytes) + 1 = omega arith in
        (c.position, c.next_is, rw (slash, text) (taken ∙ rw size (ap (λ seen. Accept (Switch c.position (code_at table c.position)) seen (at + (length (atom ++ bytes) + 1))) (omega arith))))

-- a keyword begins with nothing that is skipped
keyword_begins : (raw : Bool) (byte : ℕ) (more : List ℕ) → is_keyword_byte byte ≡ true → BeginsOther raw (byte ∷ more)
unfolding is_blank
keyword_begins raw byte more is = (
  grind (arith, nat_tests),
  λ plain. (λ (same : byte ≡ 33). grind (arith, nat_tests), λ (same : byte ≡ 59). grind (arith, nat_tests)),
)

text_begins : (raw : Bool) (text more : List ℕ) → is_keyword text ≡ true → BeginsOther raw (text ++ more)
text_begins raw [] more is = cc
text_begins raw (byte ∷ text) more is =
    let parts = and_parts (nat_lt 0 (length (byte ∷ text))) (is_keyword_byte byte && list_all is_keyword_byte text) is in
    keyword_begins raw byte (text ++ more) (and_parts (is_keyword_byte byte) (list_all is_keyword_byte text) parts.1).0

-- so does what completes an atom of which nothing is typed
pub key_begins : (raw : Bool) (left : ℕ × Entry → Bool) (table : List Entry) (bytes more : List ℕ) (next : ℕ) → table_fault table ≡ None
    → keyword_outcome false left table [] ≡ Whole bytes next → BeginsOther raw (bytes ++ more)
key_begins raw left table bytes more next none is =
    let c = keyword_completes false left table [] bytes next none is in
    subst (λ (text : List ℕ). BeginsOther raw (text ++ more)) c.bytes_is
    (text_begins raw c.entry.text more (keyword_at table c.position c.entry (keywords_of table none) c.entry_is))
