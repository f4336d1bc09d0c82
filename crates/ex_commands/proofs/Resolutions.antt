-- The directories that files, directories and users mean are those of the catalogue.
use Rattle.std.proofs.Common.{◌≡◌, ℕ, zero, suc, ◌<◌, ◌||◌, ◌&&◌, Bool, true, false, not, nat_lt, cond, if◌then◌else◌, List, [], ◌∷◌, length, map, codes, Option, Some, None, option_map, slice_get, unwrap_or, Result, Ok, Err, refl, ap, subst, arith}
use Rattle.std.specs.List.{find, list_all}
use Rattle.std.proofs.lemmas.Bool.{and_parts}
use Rattle.std.proofs.lemmas.Bool.Decides.{nat_tests}
use Rattle.std.proofs.lemmas.Slice.Eq.{bytes_eq-Decides}
use Rattle.cm_lists.proofs.Bools.{second_of_and_not}
use Rattle.cm_lists.proofs.Positions.{position_within}
use Rattle.cm_text.specs.Case.{equals}
use Rattle.cm_fields.specs.declared.code.Code.{Code}
use Rattle.cm_fields.specs.declared.code.Code.TheVariants.{Device, GenRange, NoDirectory, NoFile, NoLogical, SpecShape, WildHere}
use Rattle.cm_fields.specs.declared.value.FileKind.{FileKind}
use Rattle.cm_fields.specs.declared.value.Span.{Span}
use Rattle.cm_fields.specs.declared.value.Spec.{Spec}
use Rattle.cm_files.specs.declared.flags.Flags.{Flags}
use Rattle.cm_files.specs.declared.row.LogicalName.{LogicalName}
use Rattle.cm_files.specs.Catalogue.{Catalogue, IsCatalogue, is_directory_name, is_logical, logical_of, rows_of}
use Rattle.cm_files.specs.Fields.{is_user_named, user_named}
use Rattle.cm_files.specs.Resolve.{by_device, by_directory, directory_named, has_bad_wild, is_bad_generation, is_in, is_named, lacks_name, or_refused, resolve, wanted_by}
use Rattle.cm_files.specs.Selection.{selects}
use Rattle.cm_files.specs.Spec.{part}
use Rattle.ex_store.specs.declared.directory.Directory.{Directory}
use Rattle.ex_store.specs.State.{State, catalogue_of, has_directory}
use Rattle.ex_store.specs.State as states
use Rattle.ex_commands.specs.Line.{directory_name}
use Rattle.cm_blocks.proofs.Places.{passed, then_parts}

logical_within : (count : ℕ) (logical : List LogicalName) (name : List ℕ) (directory : ℕ) → list_all (is_logical count) logical ≡ true
    → option_map (λ (entry : LogicalName). entry.directory) (find (λ entry. equals entry.name name) logical) ≡ Some directory
    → directory < count
logical_within count [] name directory all is = cc
logical_within count (entry ∷ more) name directory all is =
    by (equals entry.name name) is (logical_within count more name directory (and_parts (is_logical count entry) _ all).1)
  where
    here : entry.directory < count
    here =
        let first = (and_parts (is_logical count entry) _ all).0 in
        let test = (and_parts (nat_lt entry.directory count) _ first).0 in
        grind (arith, nat_tests)

    by : (same : Bool) → option_map (λ (entry : LogicalName). entry.directory) (cond same (Some entry) (find (λ entry. equals entry.name name) more)) ≡ Some directory
        → (option_map (λ (entry : LogicalName). entry.directory) (find (λ entry. equals entry.name name) more) ≡ Some directory → directory < count)
        → directory < count
    by true is later = let same : entry.directory ≡ directory = cc in subst (λ (n : ℕ). n < count) same here
    by false is later = later is

-- where a directory is that is found or refused
found_within : (code : Code) (found : Option ℕ) (count directory : ℕ) → or_refused code found ≡ Ok directory
    → (found ≡ Some directory → directory < count) → directory < count
found_within code None count directory is within = cc
found_within code (Some first) count directory is within = let same : first ≡ directory = cc in within (ap (λ (n : ℕ). Some n) same)

connected : (c : Catalogue) → IsCatalogue c → (directory : ℕ) → ◌≡◌ {A = Result ℕ Code} (Ok c.connected) (Ok directory) → directory < length c.directories
connected c is_catalogue directory is =
    let same : c.connected ≡ directory = cc in subst (λ (n : ℕ). n < length c.directories) same is_catalogue.connected_within

device_within : (c : Catalogue) → IsCatalogue c → (atom : List ℕ) (place : Option Span) (directory : ℕ)
    → by_device c atom place ≡ Ok directory → directory < length c.directories
device_within c is_catalogue atom None directory is = connected c is_catalogue directory is
device_within c is_catalogue atom (Some place) directory is =
    by (equals (part atom place) (codes "TTY")) (equals (part atom place) (codes "PS") || equals (part atom place) (codes "DSK")) is
  where
    by : (terminal connected : Bool)
        → (if terminal then Err Device else (if connected then Ok c.connected else or_refused NoLogical (logical_of c (part atom place)))) ≡ Ok directory
        → directory < length c.directories
    by true connected is = cc
    by false true is = connected c is_catalogue directory is
    by false false is =
        found_within NoLogical (logical_of c (part atom place)) (length c.directories) directory is
        (logical_within (length c.directories) c.logical (part atom place) directory is_catalogue.logical_within)

pub directory_within : (c : Catalogue) (atom : List ℕ) (place : Option Span) (meant directory : ℕ) → meant < length c.directories
    → by_directory c atom place meant ≡ Ok directory → directory < length c.directories
directory_within c atom None meant directory within is =
    let same : meant ≡ directory = cc in subst (λ (n : ℕ). n < length c.directories) same within
directory_within c atom (Some place) meant directory within is =
    found_within NoDirectory (directory_named c (part atom place)) (length c.directories) directory is
    (λ found. let below = position_within (is_named (part atom place)) c.directories 0 directory found in omega arith)

pub device_directory_within : (c : Catalogue) → IsCatalogue c → (atom : List ℕ) (device place : Option Span) (meant directory : ℕ)
    → by_device c atom device ≡ Ok meant → by_directory c atom place meant ≡ Ok directory → directory < length c.directories
device_directory_within c is_catalogue atom device place meant directory first second =
    directory_within c atom place meant directory (device_within c is_catalogue atom device meant first) second

pub user_within : (c : Catalogue) (name : List ℕ) (directory : ℕ) → user_named c name ≡ Some directory → directory < length c.directories
user_within c name directory is = let below = position_within (is_user_named name) c.directories 0 directory is in omega arith

-- what a specification is that is not refused
pub record IsResolved (c : Catalogue) (kind : FileKind) (flags : Flags) (atom : List ℕ) (spec : Spec) (directory : ℕ) : Type 0 where
  pub named : lacks_name flags spec ≡ false
  pub generation : is_bad_generation kind spec.generation ≡ false
  pub wild : has_bad_wild kind flags atom spec ≡ false
  pub within : directory < length c.directories
  pub reads : is_in kind ≡ true → selects (wanted_by flags atom spec) (rows_of c directory) ≡ true

pub resolves : (c : Catalogue) → IsCatalogue c → (kind : FileKind) (flags : Flags) (atom : List ℕ) (spec : Spec) (directory : ℕ)
    → resolve c kind flags atom spec ≡ Ok directory → IsResolved c kind flags atom spec directory
unfolding resolve
resolves c is_catalogue kind flags atom spec directory is =
    let first = passed (lacks_name flags spec) SpecShape _ directory is in
    let second = passed (is_bad_generation kind spec.generation) GenRange _ directory first.1 in
    let third = passed (has_bad_wild kind flags atom spec) WildHere _ directory second.1 in
    let device = then_parts (by_device c atom spec.device) _ directory third.1 in
    let named = then_parts (by_directory c atom spec.directory device.0) _ directory device.2 in
    let last = passed (is_in kind && not (selects (wanted_by flags atom spec) (rows_of c named.0))) NoFile (Ok named.0) directory named.2 in
    let same : named.0 ≡ directory = (let it = last.1 in cc) in
    record {
      named = first.0;
      generation = second.0;
      wild = third.0;
      within = subst (λ (n : ℕ). n < length c.directories) same
          (device_directory_within c is_catalogue atom spec.device spec.directory device.0 named.0 device.1 named.1);
      reads = λ reads. subst (λ (n : ℕ). selects (wanted_by flags atom spec) (rows_of c n) ≡ true) same
          (second_of_and_not (is_in kind) (selects (wanted_by flags atom spec) (rows_of c named.0)) last.0 reads);
    }

-- a directory of the catalogue is one of the state
pub there : (directories : List Directory) (number : ℕ)
    → number < length (map (λ (directory : Directory). directory.name) directories)
    → has_directory (unwrap_or (slice_get (map (λ (directory : Directory). directory.name) directories) number) []) directories ≡ true
there [] number below = absurd (omega arith)
there (first ∷ more) zero below =
    let same : states.is_named first.name first ≡ true = (bytes_eq-Decides first.name first.name).1 refl in rw same refl
there (first ∷ more) (suc number) below =
    let later = there more number (omega arith) in
    by (states.is_named (unwrap_or (slice_get (map (λ (directory : Directory). directory.name) more) number) []) first) later
  where
    by : (here : Bool) → has_directory (unwrap_or (slice_get (map (λ (directory : Directory). directory.name) more) number) []) more ≡ true
        → (here || has_directory (unwrap_or (slice_get (map (λ (directory : Directory). directory.name) more) number) []) more) ≡ true
    by true later = refl
    by false later = later

pub state_has : (state : State) (number : ℕ) → number < length (catalogue_of state).directories
    → has_directory (directory_name (catalogue_of state) number) state.directories ≡ true
state_has state number below = there state.directories number below

-- and its name is that of a directory
pub name_of_directory : (c : Catalogue) → IsCatalogue c → (number : ℕ) → number < length c.directories
    → is_directory_name (directory_name c number) ≡ true
name_of_directory c is_catalogue number below = by c.directories number is_catalogue.directory_names below
  where
    by : (directories : List (List ℕ)) (number : ℕ) → list_all is_directory_name directories ≡ true → number < length directories
        → is_directory_name (unwrap_or (slice_get directories number) []) ≡ true
    by [] number all below = absurd (omega arith)
    by (first ∷ more) zero all below = (and_parts (is_directory_name first) (list_all is_directory_name more) all).0
    by (first ∷ more) (suc number) all below =
        by more number (and_parts (is_directory_name first) (list_all is_directory_name more) all).1 (omega arith)
