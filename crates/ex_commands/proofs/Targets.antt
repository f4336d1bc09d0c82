-- What the fields of a line mean: directories that are there, names of new ones, and where a file may be put.
use Rattle.std.proofs.Common.{◌≡◌, ℕ, ◌<◌, ◌≤◌, ◌||◌, ◌&&◌, ◌==◌, Bool, true, false, not, nat_lt, nat_le, List, codes, length, take, drop, Option, Some, None, option_map, is_none, Ok, refl, ap, sym, subst, ◌∙◌, arith}
use Rattle.std.specs.Char.{to_ascii_uppercase}
use Rattle.std.specs.List.{list_any, prefix_len}
use Rattle.std.proofs.lemmas.Bool.{and_from, not-true, or_parts}
use Rattle.std.proofs.lemmas.Bool.Decides.{nat_tests}
use Rattle.std.proofs.lemmas.List.{length-map}
use Rattle.std.proofs.lemmas.List.Folds.{length-prefix_len}
use Rattle.std.proofs.lemmas.List.Sums.{prefix_len-le-length}
use Rattle.cm_lists.proofs.Ascii.{up}
use Rattle.cm_lists.proofs.Bools.{first_of_and_not, second_of_not_and}
use Rattle.cm_text.specs.declared.name.TheConstants.{NAME_LIMIT}
use Rattle.cm_text.specs.Case.{equals}
use Rattle.cm_fields.specs.declared.trial.Try.TheVariants.{Accept}
use Rattle.cm_fields.specs.declared.value.FileKind.{FileKind}
use Rattle.cm_fields.specs.declared.value.FileKind.TheVariants.{In, Out, Any}
use Rattle.cm_fields.specs.declared.value.Gen.{Gen}
use Rattle.cm_fields.specs.declared.value.Gen.TheVariants.{Missing, Highest, Next, Lowest, All, Number}
use Rattle.cm_fields.specs.declared.value.Span.{Span}
use Rattle.cm_fields.specs.declared.value.Spec.{Spec}
use Rattle.cm_fields.specs.declared.value.Value.{Value}
use Rattle.cm_fields.specs.declared.value.Value.TheVariants as values
use Rattle.cm_files.specs.declared.flags.Flags.{Flags}
use Rattle.cm_files.specs.Catalogue.{Catalogue, IsCatalogue, is_directory_name, is_upper_name}
use Rattle.cm_files.specs.Fields.{directory_of, file_of, has_colon_after, is_file, is_plain_path, moved, moved_spec, user_of}
use Rattle.cm_files.specs.Pattern.{is_wild}
use Rattle.cm_files.specs.Resolve.{by_device, has_bad_copy, has_wild, has_wild_and_more, is_all, is_bad_generation}
use Rattle.cm_files.specs.Spec.{is_long, part, read_spec}
use Rattle.cm_blocks.specs.declared.function.Function.{Function}
use Rattle.cm_blocks.specs.declared.function.Function.TheVariants as functions
use Rattle.cm_blocks.specs.Setting.{setting}
use Rattle.cm_blocks.specs.FieldView.{FieldView}
use Rattle.cm_blocks.specs.Trial.{trial}
use Rattle.ex_grammar.specs.ExecRules.{exec_meanings}
use Rattle.ex_grammar.specs.Graph.{exec_graph}
use Rattle.ex_store.specs.declared.place.Place.{Place}
use Rattle.ex_store.specs.Copying.{is_star}
use Rattle.ex_store.specs.Plan.{IsOneFile, IsTarget, has_plain_kind, has_plain_name, may_be, may_grow, may_number}
use Rattle.ex_store.specs.State.{State, catalogue_of, has_directory}
use Rattle.ex_store.specs.WellFormed.{is_file_name, is_file_type}
use Rattle.ex_store.proofs.DefinedLaws.{upper_name}
use Rattle.ex_commands.specs.Line.{directory_by, directory_name, place_by, said_of, upper}
use Rattle.ex_commands.proofs.Capitals.{plain_names, plain_paths, star_stays, upper_directory}
use Rattle.cm_state.proofs.Branches.{IsOf}
use Rattle.ex_commands.proofs.Fits.{IsRead, reads_made, reads_one, reads_places}
use Rattle.ex_commands.proofs.Places.{said_part, spec_directory, spec_kind, spec_name}
use Rattle.ex_commands.proofs.Resolutions.{device_directory_within, name_of_directory, resolves, state_has, user_within}
use Rattle.cm_blocks.proofs.Places.{SaysDirectory, directory_says, file_says, fits_number, parts_are_short, run_of, token_says, user_says}
use Rattle.cm_blocks.proofs.Fields.{IsTried}
use Rattle.ex_commands.proofs.Verbs.{is_made, is_one}

-- the bytes that a run of a field's text has, and its parts as parts of the text that the field is said in
abbrev pub run_text : (is_part : ℕ → Bool) → List ℕ → List ℕ
run_text is_part rest = take (prefix_len is_part rest) rest

abbrev pub SaysParts : List ℕ → ℕ → List ℕ → Type 0
SaysParts text at run = (place : Span) → place.start ≤ place.end → place.end ≤ length run → part text (moved at place) ≡ part run place

pub run_says : (c : Catalogue) (text : List ℕ) (field : FieldView) (tried : IsTried (setting exec_graph c exec_meanings) text field)
    → (prefix_len is_file (drop tried.at tried.said) == length (drop tried.at tried.said)) ≡ false
    → SaysParts (said_of exec_graph text field) tried.at (run_text is_file (drop tried.at tried.said))
run_says c text field tried ends place order within =
    let size = length-prefix_len is_file (drop tried.at tried.said) in
    let most = prefix_len-le-length is_file (drop tried.at tried.said) in
    let inside : prefix_len is_file (drop tried.at tried.said) < length (drop tried.at tried.said) = grind (arith, nat_tests) in
    said_part (setting exec_graph c exec_meanings) text field tried (prefix_len is_file (drop tried.at tried.said)) place order (omega arith) inside

-- what a field means that names files, users or directories
abbrev pub IsMeant : Catalogue → List ℕ → Value → Type 0
IsMeant c text (values.File kind spec directory) = directory < length c.directories
IsMeant c text (values.User directory) = directory < length c.directories
IsMeant c text (values.Directory directory) = directory < length c.directories
IsMeant c text (values.NewDirectory place) = is_directory_name (upper text place) ≡ true
IsMeant c text value = Unit {0}

-- the name of a new directory
new_named : (text run : List ℕ) (at : ℕ) (spec : Spec) (piece : Span) → read_spec run ≡ Ok spec → spec.directory ≡ Some piece
    → has_wild run spec.directory ≡ false → SaysParts text at run → is_directory_name (upper text (moved at piece)) ≡ true
new_named text run at spec piece read is plain says =
    let short = (parts_are_short run spec read).directory in
    let found = spec_directory run spec piece read is in
    let long : is_long (Some piece) ≡ false = ap is_long (sym is) ∙ short in
    let none : list_any is_wild (part run piece) ≡ false = ap (has_wild run) (sym is) ∙ plain in
    let size = found.0.size in
    let fits : length (part run piece) ≤ NAME_LIMIT = grind (arith, nat_tests) in
    let paths = plain_paths (part run piece) found.0.all none in
    subst (λ (it : List ℕ). is_directory_name (up it) ≡ true) (sym (says piece found.0.order found.0.within))
    (upper_directory (part run piece) fits paths found.1)

directory_meant : (new : Bool) (c : Catalogue) → IsCatalogue c → (text run : List ℕ) (at : ℕ) (value : Value)
    → directory_of new c at run ≡ Ok value → SaysParts text at run → IsMeant c text value
directory_meant new c is_catalogue text run at value is says =
    let of = directory_says new c at run value is in by of.spec of.meant of.read of.wild of.device value of.says
  where
    by : (spec : Spec) (meant : ℕ) → read_spec run ≡ Ok spec → has_wild run spec.directory ≡ false → by_device c run spec.device ≡ Ok meant
        → (value : Value) → SaysDirectory new c at run spec meant value → IsMeant c text value
    by spec meant read plain device (values.Directory directory) it =
        device_directory_within c is_catalogue run spec.device spec.directory meant directory device it
    by spec meant read plain device (values.NewDirectory place) it =
        subst (λ (place : Span). is_directory_name (upper text place) ≡ true) (sym it.2)
        (new_named text run at spec it.0 read it.1 plain says)
    by spec meant read plain device (values.File kind of directory) it = absurd it
    by spec meant read plain device (values.User directory) it = absurd it
    by spec meant read plain device value it = tt

file_meant : (c : Catalogue) → IsCatalogue c → (kind : FileKind) (flags : Flags) (text run : List ℕ) (at : ℕ) (value : Value)
    → file_of c kind flags at run ≡ Ok value → IsMeant c text value
file_meant c is_catalogue kind flags text run at value is =
    let of = file_says c kind flags at run value is in
    let it = resolves c is_catalogue kind flags run of.spec of.directory of.resolved in
    subst (IsMeant c text) (sym of.value_is) it.within

-- of any function that names files, users or directories
trial_meant : (c : Catalogue) → IsCatalogue c → (function : Function) (flags : Flags) (rest : List ℕ) (at : ℕ) (text : List ℕ) (value : Value)
    (looked end : ℕ) → reads_places function ≡ true
    → ((prefix_len is_file rest == length rest) ≡ false → SaysParts text at (run_text is_file rest))
    → trial (setting exec_graph c exec_meanings) function flags rest at ≡ Accept value looked end → IsMeant c text value
unfolding trial
trial_meant c is_catalogue (functions.Token phrase) flags rest at text value looked end reads says is =
    subst (IsMeant c text) (sym (token_says phrase rest at value looked end is)) tt
trial_meant c is_catalogue functions.User flags rest at text value looked end reads says is =
    let run = run_of is_plain_path (user_of c (has_colon_after rest)) rest at value looked end is in
    let it = user_says c (has_colon_after rest) (run_text is_plain_path rest) value run.decided in
    subst (IsMeant c text) (sym it.2) (user_within c (run_text is_plain_path rest) it.0 it.1)
trial_meant c is_catalogue functions.Directory flags rest at text value looked end reads says is =
    let run = run_of is_file (directory_of flags.new c at) rest at value looked end is in
    directory_meant flags.new c is_catalogue text (run_text is_file rest) at value run.decided (says run.ends)
trial_meant c is_catalogue functions.InFile flags rest at text value looked end reads says is =
    let run = run_of is_file (file_of c In flags at) rest at value looked end is in
    file_meant c is_catalogue In flags text (run_text is_file rest) at value run.decided
trial_meant c is_catalogue functions.OutFile flags rest at text value looked end reads says is =
    let run = run_of is_file (file_of c Out flags at) rest at value looked end is in
    file_meant c is_catalogue Out flags text (run_text is_file rest) at value run.decided
trial_meant c is_catalogue functions.AnyFile flags rest at text value looked end reads says is =
    let run = run_of is_file (file_of c Any flags at) rest at value looked end is in
    file_meant c is_catalogue Any flags text (run_text is_file rest) at value run.decided
trial_meant c is_catalogue function flags rest at text value looked end reads says is = cc

pub field_meant : (c : Catalogue) → IsCatalogue c → (text : List ℕ) (field : FieldView) (reads : Function → Bool)
    → ((function : Function) → reads function ≡ true → reads_places function ≡ true)
    → IsRead c text reads field → IsMeant c (said_of exec_graph text field) field.value
field_meant c is_catalogue text field reads named read =
    let tried = read.tried in
    trial_meant c is_catalogue tried.block.function tried.block.flags (drop tried.at tried.said) tried.at (said_of exec_graph text field)
    field.value tried.looked tried.end (named tried.block.function read.by_function) (run_says c text field tried) tried.accepts

-- the directory of files that are meant is there
pub place_there : (state : State) (flags : Flags) (text : List ℕ) (value : Value) (place : Place)
    → IsMeant (catalogue_of state) text value → place_by (catalogue_of state) flags text value ≡ Some place
    → has_directory place.directory state.directories ≡ true
place_there state flags text (values.File kind spec directory) place meant is =
    let same : directory_name (catalogue_of state) directory ≡ place.directory = cc in
    subst (λ (it : List ℕ). has_directory it state.directories ≡ true) same (state_has state directory meant)
place_there state flags text value place meant is = cc

-- a directory that is named, be it there or not
pub directory_formed : (state : State) → IsCatalogue (catalogue_of state) → (text : List ℕ) (value : Value) (name : List ℕ)
    → IsMeant (catalogue_of state) text value → directory_by (catalogue_of state) text value ≡ Some name → is_directory_name name ≡ true
directory_formed state is_catalogue text (values.User directory) name meant is =
    let same : directory_name (catalogue_of state) directory ≡ name = cc in
    subst (λ (it : List ℕ). is_directory_name it ≡ true) same (name_of_directory (catalogue_of state) is_catalogue directory meant)
directory_formed state is_catalogue text (values.Directory directory) name meant is =
    let same : directory_name (catalogue_of state) directory ≡ name = cc in
    subst (λ (it : List ℕ). is_directory_name it ≡ true) same (name_of_directory (catalogue_of state) is_catalogue directory meant)
directory_formed state is_catalogue text (values.NewDirectory place) name meant is =
    let same : upper text place ≡ name = cc in subst (λ (it : List ℕ). is_directory_name it ≡ true) same meant
directory_formed state is_catalogue text value name meant is = cc

-- a value that names a directory which may not be there
abbrev pub is_new : Value → Bool
is_new (values.NewDirectory place) = true
is_new value = false

pub directory_there : (state : State) (text : List ℕ) (value : Value) (name : List ℕ) → is_new value ≡ false
    → IsMeant (catalogue_of state) text value → directory_by (catalogue_of state) text value ≡ Some name
    → has_directory name state.directories ≡ true
directory_there state text (values.User directory) name old meant is =
    let same : directory_name (catalogue_of state) directory ≡ name = cc in
    subst (λ (it : List ℕ). has_directory it state.directories ≡ true) same (state_has state directory meant)
directory_there state text (values.Directory directory) name old meant is =
    let same : directory_name (catalogue_of state) directory ≡ name = cc in
    subst (λ (it : List ℕ). has_directory it state.directories ≡ true) same (state_has state directory meant)
directory_there state text (values.NewDirectory place) name old meant is = cc
directory_there state text value name old meant is = cc

-- only a block that takes new directories names one
directory_old : (c : Catalogue) (at : ℕ) (run : List ℕ) (value : Value) → directory_of false c at run ≡ Ok value → is_new value ≡ false
directory_old c at run value is =
    let of = directory_says false c at run value is in by of.spec of.meant value of.says
  where
    by : (spec : Spec) (meant : ℕ) (value : Value) → SaysDirectory false c at run spec meant value → is_new value ≡ false
    by spec meant (values.NewDirectory place) it = let never = it.3 in cc
    by spec meant value it = refl

pub trial_old : (c : Catalogue) (function : Function) (flags : Flags) (rest : List ℕ) (at : ℕ) (value : Value) (looked end : ℕ)
    → reads_places function ≡ true → flags.new ≡ false
    → trial (setting exec_graph c exec_meanings) function flags rest at ≡ Accept value looked end → is_new value ≡ false
unfolding trial
trial_old c (functions.Token phrase) flags rest at value looked end reads old is =
    subst (λ (it : Value). is_new it ≡ false) (sym (token_says phrase rest at value looked end is)) refl
trial_old c functions.User flags rest at value looked end reads old is =
    let run = run_of is_plain_path (user_of c (has_colon_after rest)) rest at value looked end is in
    let it = user_says c (has_colon_after rest) (run_text is_plain_path rest) value run.decided in
    subst (λ (it : Value). is_new it ≡ false) (sym it.2) refl
trial_old c functions.Directory flags rest at value looked end reads old is =
    let run = run_of is_file (directory_of flags.new c at) rest at value looked end is in
    directory_old c at (run_text is_file rest) value
    (subst (λ (new : Bool). directory_of new c at (run_text is_file rest) ≡ Ok value) old run.decided)
trial_old c functions.InFile flags rest at value looked end reads old is =
    let run = run_of is_file (file_of c In flags at) rest at value looked end is in
    subst (λ (it : Value). is_new it ≡ false) (sym (file_says c In flags at (run_text is_file rest) value run.decided).value_is) refl
trial_old c functions.OutFile flags rest at value looked end reads old is =
    let run = run_of is_file (file_of c Out flags at) rest at value looked end is in
    subst (λ (it : Value). is_new it ≡ false) (sym (file_says c Out flags at (run_text is_file rest) value run.decided).value_is) refl
trial_old c functions.AnyFile flags rest at value looked end reads old is =
    let run = run_of is_file (file_of c Any flags at) rest at value looked end is in
    subst (λ (it : Value). is_new it ≡ false) (sym (file_says c Any flags at (run_text is_file rest) value run.decided).value_is) refl
trial_old c function flags rest at value looked end reads old is = cc

-- a part of a target: a star, or bytes with no wildcard
star_or : (bytes : List ℕ) (test : List ℕ → Bool) → (list_any is_wild bytes && not (equals bytes (codes "*"))) ≡ false
    → (list_any is_wild bytes ≡ false → test (up bytes) ≡ true) → (is_star (up bytes) || test (up bytes)) ≡ true
star_or bytes test copy plain = by (list_any is_wild bytes) (equals bytes (codes "*")) refl copy plain
  where
    or_left : (a b : Bool) → a ≡ true → (a || b) ≡ true
    or_left true b is = refl
    or_left false b is = cc

    or_right : (a b : Bool) → b ≡ true → (a || b) ≡ true
    or_right true b is = refl
    or_right false b is = is

    by : (wild star : Bool) → equals bytes (codes "*") ≡ star → (wild && not star) ≡ false → (wild ≡ false → test (up bytes) ≡ true)
        → (is_star (up bytes) || test (up bytes)) ≡ true
    by false star same copy plain = or_right (is_star (up bytes)) (test (up bytes)) (plain refl)
    by true true same copy plain = or_left (is_star (up bytes)) (test (up bytes)) (star_stays bytes same)
    by true false same copy plain = cc

-- a name that is read and has no wildcard is one that a file may have, and so is a type
plain_name : (run : List ℕ) (spec : Spec) (place : Span) → read_spec run ≡ Ok spec → spec.name ≡ Some place
    → is_long (Some place) ≡ false → list_any is_wild (part run place) ≡ false
    → is_file_name (up (part run place)) ≡ true
plain_name run spec place read is short plain =
    let found = spec_name run spec place read is in
    let size = found.0.size in
    let some = found.1 in
    let same = length-map (part run place) to_ascii_uppercase in
    let first : nat_lt 0 (length (up (part run place))) ≡ true = grind (arith, nat_tests) in
    let fits : nat_le (length (up (part run place))) NAME_LIMIT ≡ true = grind (arith, nat_tests) in
    and_from (nat_lt 0 (length (up (part run place))) && nat_le (length (up (part run place))) NAME_LIMIT)
    (is_upper_name (up (part run place)))
    (and_from (nat_lt 0 (length (up (part run place)))) (nat_le (length (up (part run place))) NAME_LIMIT) first fits)
    (upper_name (part run place) (plain_names (part run place) found.0.all plain))

plain_kind : (run : List ℕ) (spec : Spec) (place : Span) → read_spec run ≡ Ok spec → spec.kind ≡ Some place
    → is_long (Some place) ≡ false → list_any is_wild (part run place) ≡ false
    → is_file_type (up (part run place)) ≡ true
plain_kind run spec place read is short plain =
    let found = spec_kind run spec place read is in
    let size = found.size in
    let same = length-map (part run place) to_ascii_uppercase in
    let fits : nat_le (length (up (part run place))) NAME_LIMIT ≡ true = grind (arith, nat_tests) in
    and_from (nat_le (length (up (part run place))) NAME_LIMIT) (is_upper_name (up (part run place))) fits
    (upper_name (part run place) (plain_names (part run place) found.all plain))

target_name : (text run : List ℕ) (at : ℕ) (spec : Spec) → read_spec run ≡ Ok spec → has_wild_and_more run spec.name ≡ false
    → SaysParts text at run → may_be is_file_name (option_map (upper text) (option_map (moved at) spec.name)) ≡ true
target_name text run at spec read copy says = by spec.name refl copy (parts_are_short run spec read).name
  where
    by : (name : Option Span) → spec.name ≡ name → has_wild_and_more run name ≡ false → is_long name ≡ false
        → may_be is_file_name (option_map (upper text) (option_map (moved at) name)) ≡ true
    by None is copy short = refl
    by (Some place) is copy short =
        let found = spec_name run spec place read is in
        subst (λ (it : List ℕ). (is_star (up it) || is_file_name (up it)) ≡ true) (sym (says place found.0.order found.0.within))
        (star_or (part run place) is_file_name copy (plain_name run spec place read is short))

target_kind : (text run : List ℕ) (at : ℕ) (spec : Spec) → read_spec run ≡ Ok spec → has_wild_and_more run spec.kind ≡ false
    → SaysParts text at run → may_be is_file_type (option_map (upper text) (option_map (moved at) spec.kind)) ≡ true
target_kind text run at spec read copy says = by spec.kind refl copy (parts_are_short run spec read).kind
  where
    by : (kind : Option Span) → spec.kind ≡ kind → has_wild_and_more run kind ≡ false → is_long kind ≡ false
        → may_be is_file_type (option_map (upper text) (option_map (moved at) kind)) ≡ true
    by None is copy short = refl
    by (Some place) is copy short =
        let found = spec_kind run spec place read is in
        subst (λ (it : List ℕ). (is_star (up it) || is_file_type (up it)) ≡ true) (sym (says place found.order found.within))
        (star_or (part run place) is_file_type copy (plain_kind run spec place read is short))

target_number : (generation : Gen) → is_bad_generation Out generation ≡ false → is_all generation ≡ false → fits_number generation ≡ true
    → may_number generation ≡ true
target_number Missing bad all fits = refl
target_number Highest bad all fits = cc
target_number Next bad all fits = refl
target_number Lowest bad all fits = cc
target_number All bad all fits = cc
target_number (Number number) bad all fits = fits

-- where a file may be put that is written
file_target : (state : State) → IsCatalogue (catalogue_of state) → (flags own : Flags) (text run : List ℕ) (at : ℕ) (value : Value) (place : Place)
    → file_of (catalogue_of state) Out flags at run ≡ Ok value → SaysParts text at run
    → place_by (catalogue_of state) own text value ≡ Some place → IsTarget place state.directories
file_target state is_catalogue flags own text run at value place is says placed =
    let of = file_says (catalogue_of state) Out flags at run value is in
    let it = resolves (catalogue_of state) is_catalogue Out flags run of.spec of.directory of.resolved in
    let copy = (or_parts _ (has_bad_copy Out run of.spec) it.wild).1 in
    let kinds = or_parts (is_all of.spec.generation || has_wild_and_more run of.spec.name) (has_wild_and_more run of.spec.kind) copy in
    let names = or_parts (is_all of.spec.generation) (has_wild_and_more run of.spec.name) kinds.0 in
    let there = state_has state of.directory it.within in
    let made : place_by (catalogue_of state) own text (values.File Out (moved_spec at of.spec) of.directory) ≡ Some place =
    ap (place_by (catalogue_of state) own text) (sym of.value_is) ∙ placed in
    let same : ◌≡◌ {A = Place} (record {
      directory = directory_name (catalogue_of state) of.directory;
      name = option_map (upper text) (option_map (moved at) of.spec.name);
      kind = option_map (upper text) (option_map (moved at) of.spec.kind);
      generation = of.spec.generation;
      flags = own;
    }) place = cc in
    subst (λ (place : Place). IsTarget place state.directories) same
    (record {
      there = there;
      name = target_name text run at of.spec of.read names.1 says;
      kind = target_kind text run at of.spec of.read kinds.1 says;
      generation = target_number of.spec.generation it.generation names.0 (parts_are_short run of.spec of.read).generation;
    })

trial_target : (state : State) → IsCatalogue (catalogue_of state) → (function : Function) (flags own : Flags) (rest : List ℕ) (at : ℕ)
    (text : List ℕ) (value : Value) (looked end : ℕ) (place : Place) → reads_made function ≡ true
    → ((prefix_len is_file rest == length rest) ≡ false → SaysParts text at (run_text is_file rest))
    → trial (setting exec_graph (catalogue_of state) exec_meanings) function flags rest at ≡ Accept value looked end
    → place_by (catalogue_of state) own text value ≡ Some place → IsTarget place state.directories
unfolding trial
trial_target state is_catalogue functions.OutFile flags own rest at text value looked end place reads says is placed =
    let run = run_of is_file (file_of (catalogue_of state) Out flags at) rest at value looked end is in
    file_target state is_catalogue flags own text (run_text is_file rest) at value place run.decided (says run.ends) placed
trial_target state is_catalogue function flags own rest at text value looked end place reads says is placed = cc

pub field_target : (state : State) → IsCatalogue (catalogue_of state) → (text : List ℕ) (field : FieldView) (own : Flags) (place : Place)
    → IsOf (setting exec_graph (catalogue_of state) exec_meanings) text is_made field
    → place_by (catalogue_of state) own (said_of exec_graph text field) field.value ≡ Some place → IsTarget place state.directories
field_target state is_catalogue text field own place read placed =
    let tried = read.tried in
    trial_target state is_catalogue tried.block.function tried.block.flags own (drop tried.at tried.said) tried.at (said_of exec_graph text field)
    field.value tried.looked tried.end place read.read (run_says (catalogue_of state) text field tried) tried.accepts placed

-- the one file that bytes are put after: it is named, with no wildcard
one_name : (text run : List ℕ) (at : ℕ) (spec : Spec) → read_spec run ≡ Ok spec → is_none spec.name ≡ false
    → has_wild run spec.name ≡ false → SaysParts text at run
    → has_plain_name (option_map (upper text) (option_map (moved at) spec.name)) ≡ true
one_name text run at spec read there plain says = by spec.name refl there plain (parts_are_short run spec read).name
  where
    by : (name : Option Span) → spec.name ≡ name → is_none name ≡ false → has_wild run name ≡ false
        → is_long name ≡ false → has_plain_name (option_map (upper text) (option_map (moved at) name)) ≡ true
    by None is there plain short = cc
    by (Some place) is there plain short =
        let found = spec_name run spec place read is in
        subst (λ (it : List ℕ). is_file_name (up it) ≡ true) (sym (says place found.0.order found.0.within))
        (plain_name run spec place read is short plain)

one_kind : (text run : List ℕ) (at : ℕ) (spec : Spec) → read_spec run ≡ Ok spec → has_wild run spec.kind ≡ false
    → SaysParts text at run → has_plain_kind (option_map (upper text) (option_map (moved at) spec.kind)) ≡ true
one_kind text run at spec read plain says = by spec.kind refl plain (parts_are_short run spec read).kind
  where
    by : (kind : Option Span) → spec.kind ≡ kind → has_wild run kind ≡ false → is_long kind ≡ false
        → has_plain_kind (option_map (upper text) (option_map (moved at) kind)) ≡ true
    by None is plain short = refl
    by (Some place) is plain short =
        let found = spec_kind run spec place read is in
        subst (λ (it : List ℕ). is_file_type (up it) ≡ true) (sym (says place found.order found.within))
        (plain_kind run spec place read is short plain)

one_number : (generation : Gen) → is_all generation ≡ false → fits_number generation ≡ true → may_grow generation ≡ true
one_number Missing all fits = refl
one_number Highest all fits = refl
one_number Next all fits = refl
one_number Lowest all fits = refl
one_number All all fits = cc
one_number (Number number) all fits = fits

-- what a name is asked for, and no wildcard is allowed

file_one : (state : State) → IsCatalogue (catalogue_of state) → (flags own : Flags) (text run : List ℕ) (at : ℕ)
    (value : Value) (place : Place)
    → not (flags.wild || flags.default_all || flags.from_source) ≡ true
    → file_of (catalogue_of state) Any flags at run ≡ Ok value → SaysParts text at run
    → place_by (catalogue_of state) own text value ≡ Some place → IsOneFile place state.directories
file_one state is_catalogue flags own text run at value place few is says placed =
    let of = file_says (catalogue_of state) Any flags at run value is in
    let it = resolves (catalogue_of state) is_catalogue Any flags run of.spec of.directory of.resolved in
    let none = or_parts (flags.wild || flags.default_all) flags.from_source (not-true _ few) in
    let both = or_parts flags.wild flags.default_all none.0 in
    let stands = first_of_and_not (is_none of.spec.name) (flags.default_all || flags.from_source) (rw (both.1, none.1) refl) in
    let named = stands it.named in
    let kept = or_parts (has_wild run of.spec.directory) _ (or_parts _ (has_bad_copy Any run of.spec) it.wild).0 in
    let plain = second_of_not_and flags.wild _ both.0 kept.1 in
    let parts = or_parts (has_wild run of.spec.name || has_wild run of.spec.kind) (is_all of.spec.generation) plain in
    let names = or_parts (has_wild run of.spec.name) (has_wild run of.spec.kind) parts.0 in
    let there = state_has state of.directory it.within in
    let named_so = values.File Any (moved_spec at of.spec) of.directory in
    let made : place_by (catalogue_of state) own text named_so ≡ Some place =
    ap (place_by (catalogue_of state) own text) (sym of.value_is) ∙ placed in
    let same : ◌≡◌ {A = Place} (record {
      directory = directory_name (catalogue_of state) of.directory;
      name = option_map (upper text) (option_map (moved at) of.spec.name);
      kind = option_map (upper text) (option_map (moved at) of.spec.kind);
      generation = of.spec.generation;
      flags = own;
    }) place = cc in
    subst (λ (place : Place). IsOneFile place state.directories) same
    (record {
      there = there;
      name = one_name text run at of.spec of.read named names.0 says;
      kind = one_kind text run at of.spec of.read names.1 says;
      generation = one_number of.spec.generation parts.1 (parts_are_short run of.spec of.read).generation;
    })

trial_one : (state : State) → IsCatalogue (catalogue_of state) → (function : Function) (flags own : Flags)
    (rest : List ℕ) (at : ℕ) (text : List ℕ) (value : Value) (looked end : ℕ) (place : Place)
    → reads_one function flags ≡ true
    → ((prefix_len is_file rest == length rest) ≡ false → SaysParts text at (run_text is_file rest))
    → trial (setting exec_graph (catalogue_of state) exec_meanings) function flags rest at ≡ Accept value looked end
    → place_by (catalogue_of state) own text value ≡ Some place → IsOneFile place state.directories
unfolding trial
trial_one state is_catalogue functions.AnyFile flags own rest at text value looked end place reads says is placed =
    let run = run_of is_file (file_of (catalogue_of state) Any flags at) rest at value looked end is in
    file_one state is_catalogue flags own text (run_text is_file rest) at value place reads run.decided (says run.ends)
    placed
trial_one state is_catalogue function flags own rest at text value looked end place reads says is placed = cc

pub field_one : (state : State) → IsCatalogue (catalogue_of state) → (text : List ℕ) (field : FieldView) (own : Flags)
    (place : Place) → IsOf (setting exec_graph (catalogue_of state) exec_meanings) text is_one field
    → place_by (catalogue_of state) own (said_of exec_graph text field) field.value ≡ Some place
    → IsOneFile place state.directories
field_one state is_catalogue text field own place read placed =
    let tried = read.tried in
    trial_one state is_catalogue tried.block.function tried.block.flags own (drop tried.at tried.said) tried.at
    (said_of exec_graph text field) field.value tried.looked tried.end place read.read
    (run_says (catalogue_of state) text field tried) tried.accepts placed
