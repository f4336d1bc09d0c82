-- Names that a line reads have their forms in upper case too.
-- A test on a name in capitals is one equation for each conjunct, and one rw (logical_up).
use Rattle.std.proofs.Common.{◌≡◌, ℕ, ◌+◌, ◌-◌, ◌<◌, ◌≤◌, ◌&&◌, ◌==◌, Bool, true, false, nat_le, nat_lt, if◌then◌else◌, List, [], ◌∷◌, codes, length, take, drop, Ok, Err, refl, ap, sym, subst, ◌∙◌, arith}
use Rattle.std.specs.Char.{to_ascii_uppercase}
use Rattle.std.specs.List.{list_all, prefix_len}
use Rattle.std.proofs.lemmas.Bool.{and_from}
use Rattle.std.proofs.lemmas.Bool.Decides.{nat_tests}
use Rattle.std.proofs.lemmas.List.{length-map, length-take}
use Rattle.std.proofs.lemmas.List.Sums.{prefix_len-le-length}
use Rattle.cm_lists.proofs.Ascii.{alphabetic-uppercase, up}
use Rattle.cm_lists.proofs.Bools.{same_truth}
use Rattle.cm_lists.proofs.Prefixes.{all_of_prefix}
use Rattle.cm_lists.proofs.Quantifiers.{all_weaker}
use Rattle.cm_text.specs.Bytes.{is_name, is_word}
use Rattle.cm_text.specs.declared.name.TheConstants.{NAME_LIMIT}
use Rattle.cm_fields.specs.declared.code.Code.TheVariants.{FieldLong, NoField}
use Rattle.cm_fields.specs.declared.trial.Try.TheVariants.{Accept}
use Rattle.cm_fields.specs.declared.value.Span.{Span}
use Rattle.cm_fields.specs.declared.value.Value.TheVariants as values
use Rattle.cm_fields.specs.Run.{word, word_of}
use Rattle.cm_fields.specs.Try.{span}
use Rattle.cm_files.specs.Catalogue.{is_upper_name}
use Rattle.cm_files.specs.LogicalName.{begins_with_letter, is_logical_name}
use Rattle.cm_files.specs.Spec.{part}
use Rattle.ex_store.specs.WellFormed.{is_file_name}
use Rattle.ex_store.proofs.DefinedLaws.{up_equals, upper_name}
use Rattle.ex_commands.specs.Line.{upper}
use Rattle.cm_blocks.proofs.Places.{run_of}

name_up : (byte : ℕ) → is_name (to_ascii_uppercase byte) ≡ is_name byte
unfolding is_name is_word
name_up byte = same_truth _ _ (λ is. grind (arith, nat_tests)) (λ is. grind (arith, nat_tests))

begins_up : (run : List ℕ) → begins_with_letter (up run) ≡ begins_with_letter run
begins_up [] = refl
begins_up (byte ∷ run) = alphabetic-uppercase byte

names_up : (run : List ℕ) → list_all is_name (up run) ≡ list_all is_name run
names_up [] = refl
names_up (byte ∷ run) = rw (name_up byte, names_up run) refl

-- a logical name is one in capitals too
pub logical_up : (run : List ℕ) → is_logical_name (up run) ≡ is_logical_name run
unfolding is_logical_name
logical_up run =
    rw (length-map run to_ascii_uppercase, begins_up run, names_up run, up_equals run (codes "PS"), up_equals run (codes "DSK"), up_equals run (codes "TTY")) refl

-- a word is a name
word_is_name : (byte : ℕ) → is_word byte ≡ true → is_name byte ≡ true
unfolding is_name
word_is_name byte is = rw is refl

-- what a word is
record IsWordOf (rest : List ℕ) (at : ℕ) (place : Span) : Type 0 where
  place_is : place ≡ span at (prefix_len is_word rest)
  some : 0 < prefix_len is_word rest
  few : prefix_len is_word rest ≤ NAME_LIMIT

word_says : (rest : List ℕ) (at : ℕ) (place : Span) (looked end : ℕ) → word rest at ≡ Accept (values.Word place) looked end
    → IsWordOf rest at place
unfolding word_of
word_says rest at place looked end is =
    let run = run_of is_word (word_of at) rest at (values.Word place) looked end is in
    let most = prefix_len-le-length is_word rest in
    let size = length-take (prefix_len is_word rest) rest in
    let all : length (take (prefix_len is_word rest) rest) ≡ prefix_len is_word rest = omega arith in
    decides (take (prefix_len is_word rest) rest) all run.decided
  where
    decides : (run : List ℕ) → length run ≡ prefix_len is_word rest → word_of at run ≡ Ok (values.Word place) → IsWordOf rest at place
    decides run size is = by (length run == 0) refl (nat_le (length run) NAME_LIMIT) refl is
      where
        by : (none : Bool) → (length run == 0) ≡ none → (few : Bool) → nat_le (length run) NAME_LIMIT ≡ few
            → (if none then Err NoField else (if few then Ok (values.Word (span at (length run))) else Err FieldLong)) ≡ Ok (values.Word place)
            → IsWordOf rest at place
        by true none few fits is = cc
        by false none true fits is =
            let same : span at (length run) ≡ place = cc in
            record {
              place_is = sym same ∙ ap (span at) size;
              some = grind (arith, nat_tests);
              few = grind (arith, nat_tests);
            }
        by false none false fits is = cc

-- a job has the name of a file
pub job_formed : (text : List ℕ) (at : ℕ) (place : Span) (looked end : ℕ)
    → word (drop at text) at ≡ Accept (values.Word place) looked end → is_file_name (upper text place) ≡ true
job_formed text at place looked end is =
    let it = word_says (drop at text) at place looked end is in
    let n = prefix_len is_word (drop at text) in
    let size : at + n - at ≡ n = omega arith in
    let run : part text place ≡ take n (drop at text) =
    ap (part text) it.place_is ∙ ap (λ (m : ℕ). take m (drop at text)) size in
    let names = all_weaker is_word is_name word_is_name (take n (drop at text)) (all_of_prefix is_word (drop at text)) in
    subst (λ (bytes : List ℕ). is_file_name (up bytes) ≡ true) (sym run)
    (named (take n (drop at text)) names
    (let most = prefix_len-le-length is_word (drop at text) in
    let all = length-take n (drop at text) in
    let some = it.some in
    let few = it.few in
    (omega arith, omega arith)))
  where
    named : (run : List ℕ) → list_all is_name run ≡ true → (0 < length run) × (length run ≤ NAME_LIMIT) → is_file_name (up run) ≡ true
    named run names sizes =
        let low = sizes.0 in
        let high = sizes.1 in
        let same = length-map run to_ascii_uppercase in
        let some : nat_lt 0 (length (up run)) ≡ true = grind (arith, nat_tests) in
        let few : nat_le (length (up run)) NAME_LIMIT ≡ true = grind (arith, nat_tests) in
        and_from (nat_lt 0 (length (up run)) && nat_le (length (up run)) NAME_LIMIT) (is_upper_name (up run))
        (and_from (nat_lt 0 (length (up run))) (nat_le (length (up run)) NAME_LIMIT) some few) (upper_name run names)
