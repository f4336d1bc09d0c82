-- What the trials of files, directories, users and fixed texts accept.
use Rattle.std.proofs.Common.{◌≡◌, ℕ, ◌+◌, ◌||◌, ◌&&◌, ◌==◌, Bool, true, false, not, nat_le, nat_lt, if◌then◌else◌, List, codes, length, take, Option, Some, None, is_some, is_none, Result, Ok, Err, refl, ap, sym, subst, ◌∙◌, arith}
use Rattle.std.specs.Char.{is_ascii_digit}
use Rattle.std.specs.Str.Parse.{digits_value}
use Rattle.std.specs.List.{common_prefix_len, list_all, prefix_len}
use Rattle.std.proofs.lemmas.Bool.{or_parts}
use Rattle.std.proofs.lemmas.Bool.Decides.{nat_tests}
use Rattle.cm_text.specs.Case.{equals}
use Rattle.cm_fields.specs.declared.code.Code.{Code}
use Rattle.cm_fields.specs.declared.code.Code.TheVariants.{NoDirectory, NotToken, NoUser, SpecShape, WildHere}
use Rattle.cm_fields.specs.declared.trial.Try.TheVariants.{Accept, More, Refuse}
use Rattle.cm_fields.specs.declared.value.FileKind.{FileKind}
use Rattle.cm_fields.specs.declared.value.Gen.{Gen}
use Rattle.cm_fields.specs.declared.value.Gen.TheVariants as generations
use Rattle.cm_fields.specs.declared.value.Span.{Span}
use Rattle.cm_fields.specs.declared.value.Spec.{Spec}
use Rattle.cm_fields.specs.declared.value.Value.{Value}
use Rattle.cm_fields.specs.declared.value.Value.TheVariants as values
use Rattle.cm_fields.specs.Phrase.{same_letter, token}
use Rattle.cm_fields.specs.Try.{by_run, said}
use Rattle.cm_files.specs.declared.flags.Flags.{Flags}
use Rattle.cm_files.specs.declared.spec.SpecFault.{SpecFault}
use Rattle.cm_files.specs.declared.spec.SpecFault.TheVariants.{GenRange, NameLong}
use Rattle.cm_files.specs.declared.generation.TheConstants.{GENERATION_LIMIT}
use Rattle.cm_files.specs.Catalogue.{Catalogue}
use Rattle.cm_files.specs.Fields.{directory_of, directory_read, file_of, file_read, file_in, is_plain_path, moved, moved_spec, new_directory, old_directory, user_of, user_or_refused, user_named}
use Rattle.cm_files.specs.Resolve.{by_device, by_directory, has_wild, refuse, resolve, then_in}
use Rattle.cm_files.specs.Spec.{by_parts, generation_of, is_long, numbered, part_or_nothing, parts_of, read_spec}

-- an accepted run is decided by its bytes, and ends after them
pub record IsRun (is_part : ℕ → Bool) (decide : List ℕ → Result Value Code) (rest : List ℕ) (at : ℕ) (value : Value) (end : ℕ) : Type 0 where
  pub ends : (prefix_len is_part rest == length rest) ≡ false
  pub decided : decide (take (prefix_len is_part rest) rest) ≡ Ok value
  pub last : end ≡ at + prefix_len is_part rest

pub run_of : (is_part : ℕ → Bool) (decide : List ℕ → Result Value Code) (rest : List ℕ) (at : ℕ) (value : Value) (looked end : ℕ)
    → by_run is_part decide rest at ≡ Accept value looked end → IsRun is_part decide rest at value end
run_of is_part decide rest at value looked end is = by (prefix_len is_part rest == length rest) refl is
  where
    decided : (test : (prefix_len is_part rest == length rest) ≡ false) (result : Result Value Code)
        → decide (take (prefix_len is_part rest) rest) ≡ result
        → said at (prefix_len is_part rest) (prefix_len is_part rest + 1) result ≡ Accept value looked end
        → IsRun is_part decide rest at value end
    decided test (Ok found) result is =
        let same : found ≡ value = cc in
        let last : at + prefix_len is_part rest ≡ end = cc in
        record { ends = test; decided = result ∙ ap (λ (it : Value). Ok it) same; last = sym last }
    decided test (Err code) result is = cc

    by : (test : Bool) → (prefix_len is_part rest == length rest) ≡ test
        → (if test then More
        else said at (prefix_len is_part rest) (prefix_len is_part rest + 1) (decide (take (prefix_len is_part rest) rest))) ≡ Accept value looked end
        → IsRun is_part decide rest at value end
    by true test is = cc
    by false test is = decided test (decide (take (prefix_len is_part rest) rest)) refl is

-- a generation that a number means is one that may be
abbrev pub fits_number : Gen → Bool
fits_number (generations.Number number) = nat_lt 0 number && nat_le number GENERATION_LIMIT
fits_number generation = true

number_fits : (value : ℕ) (generation : Gen) → numbered value ≡ Some generation → fits_number generation ≡ true
number_fits value generation is = by (value == 0) refl (nat_le value GENERATION_LIMIT) refl is
  where
    by : (none : Bool) → (value == 0) ≡ none → (few : Bool) → nat_le value GENERATION_LIMIT ≡ few
        → (if none then Some generations.Highest else (if few then Some (generations.Number value) else None)) ≡ Some generation
        → fits_number generation ≡ true
    by true none few fits is = let same : generations.Highest ≡ generation = cc in subst (λ (it : Gen). fits_number it ≡ true) same refl
    by false none true fits is =
        let same : generations.Number value ≡ generation = cc in
        let some : nat_lt 0 value ≡ true = grind (arith, nat_tests) in
        subst (λ (it : Gen). fits_number it ≡ true) same (rw (some, fits) refl)
    by false none false fits is = cc

generation_fits : (text : List ℕ) (generation : Gen) → generation_of text ≡ Some generation → fits_number generation ≡ true
unfolding generation_of
generation_fits text generation is =
    by (length text == 0) (equals text (codes "*") || equals text (codes "-3")) (equals text (codes "-1")) (equals text (codes "-2"))
    (list_all is_ascii_digit text) is
  where
    plain : (it : Gen) → fits_number it ≡ true → Some it ≡ Some generation → fits_number generation ≡ true
    plain it fits is = let same : it ≡ generation = cc in subst (λ (it : Gen). fits_number it ≡ true) same fits

    by : (missing all next lowest digits : Bool)
        → (if missing then Some generations.Missing
        else (if all then Some generations.All
        else (if next then Some generations.Next
        else (if lowest then Some generations.Lowest
        else (if digits then numbered (digits_value 10 text) else None))))) ≡ Some generation → fits_number generation ≡ true
    by true all next lowest digits is = plain generations.Missing refl is
    by false true next lowest digits is = plain generations.All refl is
    by false false true lowest digits is = plain generations.Next refl is
    by false false false true digits is = plain generations.Lowest refl is
    by false false false false true is = number_fits (digits_value 10 text) generation is
    by false false false false false is = cc

-- the parts of a specification that is read are no longer than names, and its generation is one that may be
pub record HasShortParts (spec : Spec) : Type 0 where
  pub directory : is_long spec.directory ≡ false
  pub name : is_long spec.name ≡ false
  pub kind : is_long spec.kind ≡ false
  pub generation : fits_number spec.generation ≡ true

abbrev made : Option Span → Option Span → Option Span → Option Span → Option Gen → Result Spec SpecFault
made device directory name kind None = Err GenRange
made device directory name kind (Some generation) =
    Ok (record { device = device; directory = directory; name = name; kind = kind; generation = generation })

made_short : (device directory name kind : Option Span) (generation : Option Gen) (spec : Spec) → is_long directory ≡ false
    → is_long name ≡ false → is_long kind ≡ false → ((it : Gen) → generation ≡ Some it → fits_number it ≡ true)
    → made device directory name kind generation ≡ Ok spec → HasShortParts spec
made_short device directory name kind None spec first second third fits is = cc
made_short device directory name kind (Some generation) spec first second third fits is =
    let same : ◌≡◌ {A = Spec} (record { device = device; directory = directory; name = name; kind = kind; generation = generation }) spec = cc in
    subst HasShortParts same (record { directory = first; name = second; kind = third; generation = fits generation refl })

by_long : (device directory name kind : Option Span) (generation : Option Gen) (spec : Spec) (long : Bool)
    → ((it : Gen) → generation ≡ Some it → fits_number it ≡ true)
    → (is_long device || is_long directory || is_long name || is_long kind) ≡ long
    → (if long then Err NameLong else made device directory name kind generation) ≡ Ok spec → HasShortParts spec
by_long device directory name kind generation spec true fits long is = cc
by_long device directory name kind generation spec false fits long is =
    let all = or_parts (is_long device || is_long directory || is_long name) (is_long kind) long in
    let three = or_parts (is_long device || is_long directory) (is_long name) all.0 in
    let two = or_parts (is_long device) (is_long directory) three.0 in
    made_short device directory name kind generation spec two.1 three.1 all.1 fits is

never_read : (atom : List ℕ) (spec : Spec) → by_parts atom None ≡ Ok spec → HasShortParts spec
never_read atom spec is = cc

pub parts_are_short : (atom : List ℕ) (spec : Spec) → read_spec atom ≡ Ok spec → HasShortParts spec
parts_are_short atom spec =
    elim (parts_of atom) as (λ found. by_parts atom found ≡ Ok spec → HasShortParts spec) [
      | None ↦ never_read atom spec
      | Some parts ↦ by_long parts.device parts.directory parts.name parts.kind
          (generation_of (part_or_nothing atom parts.generation)) spec
          (is_long parts.device || is_long parts.directory || is_long parts.name || is_long parts.kind)
          (generation_fits (part_or_nothing atom parts.generation)) refl
    ]

-- what a run that is a file says
pub record IsFileOf (c : Catalogue) (kind : FileKind) (flags : Flags) (at : ℕ) (run : List ℕ) (value : Value) : Type 0 where
  pub spec : Spec
  pub directory : ℕ
  pub read : read_spec run ≡ Ok spec
  pub resolved : resolve c kind flags run spec ≡ Ok directory
  pub value_is : value ≡ values.File kind (moved_spec at spec) directory

pub file_says : (c : Catalogue) (kind : FileKind) (flags : Flags) (at : ℕ) (run : List ℕ) (value : Value)
    → file_of c kind flags at run ≡ Ok value → IsFileOf c kind flags at run value
unfolding file_of
file_says c kind flags at run value is = by (read_spec run) refl is
  where
    resolved : (spec : Spec) (found : Result ℕ Code) → read_spec run ≡ Ok spec → resolve c kind flags run spec ≡ found
        → then_in found (file_in kind at spec) ≡ Ok value → IsFileOf c kind flags at run value
    resolved spec (Ok directory) read found is =
        let same : values.File kind (moved_spec at spec) directory ≡ value = cc in
        record { spec = spec; directory = directory; read = read; resolved = found; value_is = sym same }
    resolved spec (Err code) read found is = cc

    by : (read : Result Spec SpecFault) → read_spec run ≡ read → file_read c kind flags at run read ≡ Ok value
        → IsFileOf c kind flags at run value
    by (Ok spec) read is = resolved spec (resolve c kind flags run spec) read refl is
    by (Err fault) read is = cc

-- what a run that is a directory says: that of a number, or a new one by its name
abbrev pub SaysDirectory : Bool → Catalogue → ℕ → List ℕ → Spec → ℕ → Value → Type 0
SaysDirectory new c at run spec meant (values.Directory directory) = by_directory c run spec.directory meant ≡ Ok directory
SaysDirectory new c at run spec meant (values.NewDirectory place) =
    (part : Span) × (spec.directory ≡ Some part) × (place ≡ moved at part) × (new ≡ true)
SaysDirectory new c at run spec meant value = ⊥

pub record IsDirectoryOf (new : Bool) (c : Catalogue) (at : ℕ) (run : List ℕ) (value : Value) : Type 0 where
  pub spec : Spec
  pub meant : ℕ
  pub read : read_spec run ≡ Ok spec
  pub wild : has_wild run spec.directory ≡ false
  pub device : by_device c run spec.device ≡ Ok meant
  pub says : SaysDirectory new c at run spec meant value

-- what is not refused
pub passed : {X : Type 0} (test : Bool) (code : Code) (next : Result X Code) (it : X) → refuse test code next ≡ Ok it
    → (test ≡ false) × (next ≡ Ok it)
passed true code next it is = cc
passed false code next it is = (refl, is)

pub then_parts : {X : Type 0} (first : Result ℕ Code) (next : ℕ → Result X Code) (it : X) → then_in first next ≡ Ok it
    → (directory : ℕ) × (first ≡ Ok directory) × (next directory ≡ Ok it)
then_parts (Ok directory) next it is = (directory, refl, is)
then_parts (Err code) next it is = cc

new_says : (new : Bool) → new ≡ true → (c : Catalogue) (at : ℕ) (run : List ℕ) (spec : Spec) (meant : ℕ) (value : Value)
    → new_directory at spec.directory ≡ Ok value → SaysDirectory new c at run spec meant value
new_says new is_new c at run spec meant value is = by spec.directory refl is
  where
    by : (place : Option Span) → spec.directory ≡ place → new_directory at place ≡ Ok value → SaysDirectory new c at run spec meant value
    by None place is = cc
    by (Some part) place is =
        let same : values.NewDirectory (moved at part) ≡ value = cc in
        subst (SaysDirectory new c at run spec meant) same (part, place, refl, is_new)

old_says : (new : Bool) (c : Catalogue) (at : ℕ) (run : List ℕ) (spec : Spec) (meant : ℕ) (value : Value)
    → then_in (by_directory c run spec.directory meant) old_directory ≡ Ok value → SaysDirectory new c at run spec meant value
old_says new c at run spec meant value is =
    let parts = then_parts (by_directory c run spec.directory meant) old_directory value is in
    let same : values.Directory parts.0 ≡ value = (let last = parts.2 in cc) in
    subst (SaysDirectory new c at run spec meant) same parts.1

pub directory_says : (new : Bool) (c : Catalogue) (at : ℕ) (run : List ℕ) (value : Value)
    → directory_of new c at run ≡ Ok value → IsDirectoryOf new c at run value
unfolding directory_of
directory_says new c at run value is =
    by (read_spec run) refl
    (passed (not new && nat_lt 0 (length run) && list_all is_plain_path run) NoDirectory
    (directory_read new c at run (read_spec run)) value is).1
  where
    chosen : (spec : Spec) (meant : ℕ) (test : Bool) → new ≡ test
        → (if test then new_directory at spec.directory else then_in (by_directory c run spec.directory meant) old_directory) ≡ Ok value
        → SaysDirectory new c at run spec meant value
    chosen spec meant true is_new is = new_says new is_new c at run spec meant value is
    chosen spec meant false is_old is = old_says new c at run spec meant value is

    by : (read : Result Spec SpecFault) → read_spec run ≡ read → directory_read new c at run read ≡ Ok value
        → IsDirectoryOf new c at run value
    by (Err fault) read is = cc
    by (Ok spec) read is =
        let first = passed (is_some spec.name || (new && is_none spec.directory)) SpecShape _ value is in
        let second = passed (has_wild run spec.directory) WildHere _ value first.1 in
        let third = then_parts (by_device c run spec.device) _ value second.1 in
        record {
          spec = spec;
          meant = third.0;
          read = read;
          wild = second.0;
          device = third.1;
          says = chosen spec third.0 new refl third.2;
        }

-- a user
pub user_says : (c : Catalogue) (colon : Bool) (run : List ℕ) (value : Value) → user_of c colon run ≡ Ok value
    → (directory : ℕ) × (user_named c run ≡ Some directory) × (value ≡ values.User directory)
unfolding user_of
user_says c colon run value is =
    by (user_named c run) refl (passed colon NoUser (user_or_refused (user_named c run)) value is).1
  where
    by : (found : Option ℕ) → user_named c run ≡ found → user_or_refused found ≡ Ok value
        → (directory : ℕ) × (user_named c run ≡ Some directory) × (value ≡ values.User directory)
    by None found is = cc
    by (Some directory) found is = let same : values.User directory ≡ value = cc in (directory, found, sym same)

-- a fixed text
pub token_says : (phrase rest : List ℕ) (at : ℕ) (value : Value) (looked end : ℕ) → token phrase rest at ≡ Accept value looked end
    → value ≡ values.Token
unfolding token
token_says phrase rest at value looked end is =
    by (common_prefix_len same_letter phrase rest == length phrase) (common_prefix_len same_letter phrase rest == length rest) is
  where
    by : (all over : Bool)
        → (if all then Accept values.Token (common_prefix_len same_letter phrase rest) (at + common_prefix_len same_letter phrase rest)
        else (if over then More else Refuse NotToken (common_prefix_len same_letter phrase rest + 1))) ≡ Accept value looked end
        → value ≡ values.Token
    by true over is = let same : values.Token ≡ value = cc in sym same
    by false true is = cc
    by false false is = cc
