-- What the functions of blocks accept: the kinds of their values, and what they say.
use Rattle.std.proofs.Common.{◌≡◌, ℕ, ◌<◌, ◌+◌, ◌&&◌, ◌==◌, Bool, true, false, nat_le, if◌then◌else◌, List, [], ◌∷◌, length, take, Some, None, slice_get, Result, Ok, Err, refl, ap, sym, subst, ◌∙◌, arith}
use Rattle.std.specs.List.{prefix_len}
use Rattle.std.specs.Option.{option_map_or}
use Rattle.std.proofs.lemmas.Bool.Decides.{nat_tests}
use Rattle.cm_lists.proofs.Bools.{cond_each}
use Rattle.cm_text.specs.Bytes.{is_word}
use Rattle.cm_text.specs.Case.{begins_with}
use Rattle.cm_text.specs.declared.name.TheConstants.{NAME_LIMIT}
use Rattle.cm_tables.specs.declared.entry.Entry.{Entry}
use Rattle.cm_tables.specs.declared.table.Look.{Look}
use Rattle.cm_tables.specs.declared.table.Look.TheVariants as looks
use Rattle.cm_tables.specs.Look.{IsWithin, found_at, look}
use Rattle.cm_tables.specs.Order.{table_fault}
use Rattle.cm_tables.proofs.WithinLemmas.{look-within}
use Rattle.cm_fields.specs.declared.code.Code.{Code}
use Rattle.cm_fields.specs.declared.code.Code.TheVariants.{BadNoise, NoField, NotKeyword, NotQuoted}
use Rattle.cm_fields.specs.declared.trial.Try.{Try}
use Rattle.cm_fields.specs.declared.trial.Try.TheVariants.{Accept, More, Refuse}
use Rattle.cm_fields.specs.declared.value.FileKind.TheVariants.{In, Out, Any}
use Rattle.cm_fields.specs.declared.value.Spec.{Spec}
use Rattle.cm_fields.specs.declared.value.Value.{Value}
use Rattle.cm_fields.specs.declared.value.Value.TheVariants as values
use Rattle.cm_fields.specs.Phrase.{is_inside, noise, typed_noise}
use Rattle.cm_fields.specs.Quoted.{by_closing, closing, is_cut, quoted}
use Rattle.cm_files.specs.declared.flags.Flags.{Flags}
use Rattle.cm_files.specs.Catalogue.{Catalogue}
use Rattle.cm_files.specs.Fields.{directory_of, file_of, has_colon_after, is_file, is_plain_path, user_of}
use Rattle.cm_hooks.specs.declared.answer.Answer.{Answer}
use Rattle.cm_hooks.specs.declared.answer.Answer.TheVariants.{Yes, No, NoBecause}
use Rattle.cm_hooks.specs.Field.{hook_of, judged}
use Rattle.cm_blocks.specs.declared.function.Function.{Function}
use Rattle.cm_blocks.specs.declared.function.Function.TheVariants as functions
use Rattle.cm_blocks.specs.Chain.{is_confirm}
use Rattle.cm_blocks.specs.Grammar.{Graph}
use Rattle.cm_blocks.specs.Keyword.{code_at, entry_position, key_value, position_of}
use Rattle.cm_blocks.specs.Setting.{Setting}
use Rattle.cm_blocks.specs.Trial.{table_of, trial}
use Rattle.cm_blocks.proofs.Places.{SaysDirectory, directory_says, file_says, run_of, token_says, user_says}

-- what a rule of a program judges
judged_id : (id : ℕ) (answer : Answer) (value : Value) → judged id answer ≡ Ok value → (number : ℕ) × (value ≡ values.Hook id number)
judged_id id (Yes number) value is = let same : values.Hook id number ≡ value = cc in (number, sym same)
judged_id id No value is = cc
judged_id id (NoBecause reason) value is = cc

pub hook_says : (verdict : ℕ → List ℕ → Answer) (id : ℕ) (run : List ℕ) (value : Value) → hook_of verdict id run ≡ Ok value → (number : ℕ) × (value ≡ values.Hook id number)
unfolding hook_of
hook_says verdict id run value is = by (length run == 0) is
  where
    by : (none : Bool) → (if none then Err NoField else judged id (verdict id run)) ≡ Ok value → (number : ℕ) × (value ≡ values.Hook id number)
    by true is = cc
    by false is = judged_id id (verdict id run) value is

-- a keyword of a table: the entry that a run of bytes means
pub record IsKeyword (graph : Graph) (table : ℕ) (value : Value) : Type 0 where
  pub place : ℕ
  pub run : List ℕ
  pub value_is : value ≡ values.Key place (code_at (table_of graph table) place)
  pub meant : entry_position (table_of graph table) run ≡ Ok place

-- what a keyword's value says
pub key_says : (s : Setting) (flags : Flags) (table : ℕ) (rest : List ℕ) (at : ℕ) (value : Value) (looked end : ℕ)
    → trial s (functions.Key table) flags rest at ≡ Accept value looked end
    → IsKeyword s.graph table value
unfolding trial
key_says s flags table rest at value looked end is =
    let run = run_of is_word (λ run. key_value (table_of s.graph table) (entry_position (table_of s.graph table) run)) rest at value looked end is in
    by (entry_position (table_of s.graph table) (take (prefix_len is_word rest) rest)) refl run.decided
  where
    by : (found : Result ℕ Code) → entry_position (table_of s.graph table) (take (prefix_len is_word rest) rest) ≡ found
        → key_value (table_of s.graph table) found ≡ Ok value → IsKeyword s.graph table value
    by (Ok place) meant is =
        let same : values.Key place (code_at (table_of s.graph table) place) ≡ value = cc in
        record { place = place; run = take (prefix_len is_word rest) rest; value_is = sym same; meant = meant }
    by (Err code) meant is = cc

-- a guide word
abbrev is_guide : Value → Bool
is_guide (values.Noise typed) = true
is_guide value = false

-- files
abbrev pub is_files : Value → Bool
is_files (values.File kind spec directory) = true
is_files value = false

-- a directory, by its user, its name or a new name
abbrev pub is_directory : Value → Bool
is_directory (values.User directory) = true
is_directory (values.Directory directory) = true
is_directory (values.NewDirectory place) = true
is_directory value = false

-- what the rule of this id took
abbrev pub is_ruled : ℕ → Value → Bool
is_ruled rule (values.Hook id number) = id == rule
is_ruled rule value = false

-- a quoted string
abbrev pub is_quoted : Value → Bool
is_quoted (values.Quoted place) = true
is_quoted value = false

-- a fixed text
abbrev pub is_fixed : Value → Bool
is_fixed values.Token = true
is_fixed value = false

-- a keyword
abbrev is_keyword : Value → Bool
is_keyword (values.Key place code) = true
is_keyword value = false

-- the functions of blocks that stand on the ways, and what they take
abbrev pub is_on_way : Function → Bool
is_on_way (functions.Key table) = true
is_on_way (functions.Noise phrase) = true
is_on_way (functions.Token phrase) = true
is_on_way functions.Quoted = true
is_on_way functions.User = true
is_on_way functions.Directory = true
is_on_way functions.InFile = true
is_on_way functions.OutFile = true
is_on_way functions.AnyFile = true
is_on_way (functions.Hook rule) = true
is_on_way function = false

abbrev pub says : Function → Value → Bool
says (functions.Key table) value = is_keyword value
says (functions.Noise phrase) value = is_guide value
says (functions.Token phrase) value = is_fixed value
says functions.Quoted value = is_quoted value
says functions.User value = is_directory value
says functions.Directory value = is_directory value
says functions.InFile value = is_files value
says functions.OutFile value = is_files value
says functions.AnyFile value = is_files value
says (functions.Hook rule) value = is_ruled rule value
says function value = false

-- none of them takes the end of the line
no_end_said : (function : Function) → says function values.Confirm ≡ false
no_end_said (functions.Noise phrase) = refl
no_end_said function = refl

pub no_end : (function : Function) (value : Value) → says function value ≡ true → is_confirm value ≡ false
no_end function values.Confirm is = let never = no_end_said function in cc
no_end function value is = refl

-- what is accepted, if anything is, passes a test
abbrev IfAccept : (Value → Bool) → Try → Type 0
IfAccept test (Accept value looked end) = test value ≡ true
IfAccept test (Refuse code looked) = Unit {0}
IfAccept test More = Unit {0}

typed_guide : (phrase inside : List ℕ) (at : ℕ) → IfAccept is_guide (typed_noise phrase inside at)
unfolding typed_noise
typed_guide phrase inside at =
    cond_each (IfAccept is_guide) (prefix_len is_inside inside == length inside) More _ tt
    (cond_each (IfAccept is_guide)
    (option_map_or (λ byte. byte == 41) (slice_get inside (prefix_len is_inside inside)) false
    && begins_with phrase (take (prefix_len is_inside inside) inside))
    (Accept (values.Noise true) (prefix_len is_inside inside + 2) (at + (prefix_len is_inside inside + 2)))
    (Refuse BadNoise (prefix_len is_inside inside + 2)) refl tt)

guide_said : (phrase rest : List ℕ) (at : ℕ) → IfAccept is_guide (noise phrase rest at)
guide_said phrase [] at = tt
guide_said phrase (byte ∷ rest) at =
    cond_each (IfAccept is_guide) (byte == 40) (typed_noise phrase rest at) (Accept (values.Noise false) 1 at)
    (typed_guide phrase rest at) refl

-- what is after an opening quote
quoted_after : (at size written : ℕ) (rest : List ℕ) → IfAccept is_quoted (by_closing at (closing size written rest))
quoted_after at size written [] = tt
quoted_after at size written (byte ∷ []) =
    cond_each (λ found. IfAccept is_quoted (by_closing at found)) (is_cut byte) _ _ tt tt
quoted_after at size written (byte ∷ next ∷ more) =
    cond_each (λ found. IfAccept is_quoted (by_closing at found)) (is_cut byte) _ _ tt
    (cond_each (λ found. IfAccept is_quoted (by_closing at found)) (byte == 34) _ _
    (cond_each (λ found. IfAccept is_quoted (by_closing at found)) (next == 34) _ _
    (quoted_after at (size + 2) (written + 1) more)
    (cond_each (IfAccept is_quoted) (nat_le written NAME_LIMIT) _ _ refl tt))
    (quoted_after at (size + 1) (written + 1) (next ∷ more)))

quoted_said : (rest : List ℕ) (at : ℕ) → IfAccept is_quoted (quoted rest at)
quoted_said [] at = tt
quoted_said (byte ∷ rest) at =
    cond_each (IfAccept is_quoted) (byte == 34) (by_closing at (closing 0 0 rest)) (Refuse NotQuoted 1)
    (quoted_after at 0 0 rest) tt

directory_said : (new : Bool) (c : Catalogue) (at : ℕ) (run : List ℕ) (spec : Spec) (meant : ℕ) (value : Value)
    → SaysDirectory new c at run spec meant value → is_directory value ≡ true
directory_said new c at run spec meant (values.Directory directory) says = refl
directory_said new c at run spec meant (values.NewDirectory place) says = refl
directory_said new c at run spec meant value says = absurd says

itself : (n : ℕ) → (n == n) ≡ true
itself n = grind (arith, nat_tests)

-- what is accepted is what the function takes
pub trial_says : (s : Setting) (function : Function) (flags : Flags) (rest : List ℕ) (at : ℕ) (value : Value)
    (looked end : ℕ) → is_on_way function ≡ true
    → trial s function flags rest at ≡ Accept value looked end
    → says function value ≡ true
unfolding trial
trial_says s (functions.Key table) flags rest at value looked end on is =
    ap is_keyword (key_says s flags table rest at value looked end is).value_is
trial_says s (functions.Noise phrase) flags rest at value looked end on is =
    subst (IfAccept is_guide) is (guide_said phrase rest at)
trial_says s (functions.Token phrase) flags rest at value looked end on is =
    ap is_fixed (token_says phrase rest at value looked end is)
trial_says s functions.Quoted flags rest at value looked end on is =
    subst (IfAccept is_quoted) is (quoted_said rest at)
trial_says s functions.User flags rest at value looked end on is =
    let run = run_of is_plain_path (user_of s.catalogue (has_colon_after rest)) rest at value looked end is in
    ap is_directory (user_says s.catalogue (has_colon_after rest) _ value run.decided).2
trial_says s functions.Directory flags rest at value looked end on is =
    let run = run_of is_file (directory_of flags.new s.catalogue at) rest at value looked end is in
    let it = directory_says flags.new s.catalogue at _ value run.decided in
    directory_said flags.new s.catalogue at _ it.spec it.meant value it.says
trial_says s functions.InFile flags rest at value looked end on is =
    let run = run_of is_file (file_of s.catalogue In flags at) rest at value looked end is in
    ap is_files (file_says s.catalogue In flags at _ value run.decided).value_is
trial_says s functions.OutFile flags rest at value looked end on is =
    let run = run_of is_file (file_of s.catalogue Out flags at) rest at value looked end is in
    ap is_files (file_says s.catalogue Out flags at _ value run.decided).value_is
trial_says s functions.AnyFile flags rest at value looked end on is =
    let run = run_of is_file (file_of s.catalogue Any flags at) rest at value looked end is in
    ap is_files (file_says s.catalogue Any flags at _ value run.decided).value_is
trial_says s (functions.Hook rule) flags rest at value looked end on is =
    let run = run_of (s.meanings.bytes rule).test (hook_of s.meanings.verdict rule) rest at value looked end is in
    ap (is_ruled rule)
    (hook_says s.meanings.verdict rule (take (prefix_len (s.meanings.bytes rule).test rest) rest) value run.decided).1 ∙ itself rule
trial_says s function flags rest at value looked end on is = cc

-- what a run of bytes means in a table
position_found : (found : Look) (place : ℕ) → position_of found ≡ Ok place → found_at found ≡ Some place
position_found looks.None place is = cc
position_found looks.Ambiguous place is = cc
position_found (looks.Abbrev position) place is = let same : position ≡ place = cc in ap Some same
position_found (looks.Exact position) place is = let same : position ≡ place = cc in ap Some same

pub meant_found : (table : List Entry) (run : List ℕ) (place : ℕ) → entry_position table run ≡ Ok place
    → found_at (look table run) ≡ Some place
unfolding entry_position
meant_found table run place is = by (length run == 0) is
  where
    by : (none : Bool) → (if none then Err NotKeyword else position_of (look table run)) ≡ Ok place
        → found_at (look table run) ≡ Some place
    by true is = cc
    by false is = position_found (look table run) place is

place_within : (found : Look) (count place : ℕ) → IsWithin found count → found_at found ≡ Some place → place < count
place_within looks.None count place within is = cc
place_within looks.Ambiguous count place within is = cc
place_within (looks.Abbrev position) count place within is =
    let same : position ≡ place = cc in subst (λ (n : ℕ). n < count) same within
place_within (looks.Exact position) count place within is =
    let same : position ≡ place = cc in subst (λ (n : ℕ). n < count) same within

-- where the table has no fault it is one of its entries
pub meant_within : (table : List Entry) (run : List ℕ) (place : ℕ) → table_fault table ≡ None
    → entry_position table run ≡ Ok place → place < length table
meant_within table run place none is =
    place_within (look table run) (length table) place (look-within table run none) (meant_found table run place is)
