-- What completes a user, a directory or a file is bytes that are shown as they are.
use Rattle.std.proofs.Common.{◌≡◌, ℕ, ◌+◌, Bool, true, false, ◌&&◌, ◌==◌, if◌then◌else◌, List, [], ◌∷◌, ◌++◌, length, decimal, Option, Some, None, Result, Ok, Err, refl, subst, arith}
use Rattle.std.specs.Char.{is_ascii_digit}
use Rattle.std.specs.List.{AllByRecursion, cons_option, filter_map, list_all, list_any}
use Rattle.std.specs.Str.{bytes_eq}
use Rattle.std.proofs.lemmas.Bool.{and_parts}
use Rattle.std.proofs.lemmas.Bool.Decides.{nat_tests}
use Rattle.cm_lists.proofs.Bools.{cond_each}
use Rattle.cm_lists.proofs.Digits.{decimal_digits}
use Rattle.cm_text.specs.Bytes.{is_name, is_shown_byte, is_word}
use Rattle.cm_text.specs.Case.{begins_with, equals}
use Rattle.cm_tables.specs.Common.{shared}
use Rattle.cm_fields.specs.declared.code.Code.{Code}
use Rattle.cm_fields.specs.declared.value.Span.{Span}
use Rattle.cm_fields.specs.declared.value.Spec.{Spec}
use Rattle.cm_files.specs.declared.row.FileRow.{FileRow}
use Rattle.cm_files.specs.declared.spec.SpecFault.{SpecFault}
use Rattle.cm_files.specs.Catalogue.{Catalogue, IsCatalogue, is_directory_name, is_row, rows_of}
use Rattle.cm_files.specs.Fields.{is_plain_path, is_user}
use Rattle.cm_files.specs.Pattern.{is_wild}
use Rattle.cm_files.specs.Selection.{agree}
use Rattle.cm_files.specs.Spec.{part, part_or_nothing, read_spec}
use Rattle.cm_recognise.specs.declared.file_outcome.Request.{Request}
use Rattle.cm_recognise.specs.declared.found.Found.{Found}
use Rattle.cm_recognise.specs.declared.found.Found.TheVariants.{Nobody, One, Several}
use Rattle.cm_recognise.specs.declared.insertion.Mode.{Mode}
use Rattle.cm_recognise.specs.declared.insertion.Mode.TheVariants as modes
use Rattle.cm_recognise.specs.declared.outcome.Outcome.{Outcome}
use Rattle.cm_recognise.specs.declared.outcome.Outcome.TheVariants.{Nothing, Part, Piece, Whole}
use Rattle.cm_recognise.specs.FileOutcome.{as_piece, after_kind, after_name, prefix_completion, by_kind, completion_in_directory, directory_completion, by_spec, completed, directory_outcome, file_outcome, generation_step, kind_step, meant, name_step, named_directory, opened, user_outcome}
use Rattle.cm_recognise.specs.Candidates.{directory_like, found_directories, found_kinds, found_names, found_users, gather, highest, kind_like, missing, name_like, user_like, with_text}
use Rattle.cm_recognise.proofs.Completions.{listed_of}
use Rattle.cm_recognise.proofs.LetterCase.{directory_name}
use Rattle.cm_recognise.proofs.Rows.{highest_row, row_form, rows_form}
use Rattle.cm_recognise.proofs.Texts.{AreShown, name_shown, shown_append, shown_drop, shown_of_all, shown_take}

-- the bytes of an outcome are
abbrev pub IsShown : Outcome → Type 0
IsShown Nothing = Unit {0}
IsShown (Part bytes) = AreShown bytes
IsShown (Piece bytes) = AreShown bytes
IsShown (Whole bytes next) = AreShown bytes

path_byte : (byte : ℕ) → is_plain_path byte ≡ true → is_shown_byte byte ≡ true
unfolding is_name is_word
path_byte byte is = grind (arith, nat_tests)

digit_byte : (byte : ℕ) → is_ascii_digit byte ≡ true → is_shown_byte byte ≡ true
digit_byte byte is = grind (arith, nat_tests)

-- what is found
abbrev FoundShown : Found → Type 0
FoundShown Nobody = Unit {0}
FoundShown (One text) = AreShown text
FoundShown (Several front) = AreShown front

with_text_shown : (found : Found) (text : List ℕ) → FoundShown found → AreShown text → FoundShown (with_text found text)
with_text_shown Nobody text all more = more
with_text_shown (One found) text all more =
    cond_each FoundShown (bytes_eq found text) (One found) (Several (shared found text)) all (shown_take _ found all)
with_text_shown (Several front) text all more = shown_take _ front all

gather_shown : (texts : List (List ℕ)) (found : Found) → FoundShown found → AllByRecursion AreShown texts
    → FoundShown (gather with_text found texts)
gather_shown [] found all more = all
gather_shown (text ∷ texts) found all more = gather_shown texts (with_text found text) (with_text_shown found text all more.0) more.1

given_shown : (X : Type 0) (f : X → Option (List ℕ)) (test : X → Bool)
    → ((x : X) (text : List ℕ) → test x ≡ true → f x ≡ Some text → AreShown text) → (xs : List X) → list_all test xs ≡ true
    → AllByRecursion AreShown (filter_map f xs)
given_shown X f test one [] all = tt
given_shown X f test one (x ∷ xs) all =
    by (f x) refl (and_parts (test x) (list_all test xs) all) (given_shown X f test one xs)
  where
    by : (given : Option (List ℕ)) → f x ≡ given → (test x ≡ true) × (list_all test xs ≡ true)
        → (list_all test xs ≡ true → AllByRecursion AreShown (filter_map f xs))
        → AllByRecursion AreShown (cons_option given (filter_map f xs))
    by None gives both rest = rest both.1
    by (Some text) gives both rest = (one x text both.0 gives, rest both.1)

directory_shown : (name : List ℕ) → is_directory_name name ≡ true → AreShown name
directory_shown name is = shown_of_all is_plain_path path_byte name (directory_name name is).paths

users_shown : (c : Catalogue) → IsCatalogue c → (typed : List ℕ) → FoundShown (found_users c typed)
users_shown c is_catalogue typed =
    gather_shown (filter_map (user_like typed) c.directories) Nobody tt
    (given_shown (List ℕ) (user_like typed) is_directory_name one c.directories is_catalogue.directory_names)
  where
    one : (name text : List ℕ) → is_directory_name name ≡ true → user_like typed name ≡ Some text → AreShown text
    one name text is gives = subst AreShown (listed_of typed (is_user name) name text gives).same (directory_shown name is)

directories_shown : (c : Catalogue) → IsCatalogue c → (typed : List ℕ) → FoundShown (found_directories c typed)
directories_shown c is_catalogue typed =
    gather_shown (filter_map (directory_like typed) c.directories) Nobody tt
    (given_shown (List ℕ) (directory_like typed) is_directory_name one c.directories is_catalogue.directory_names)
  where
    given : (name text : List ℕ) (begins : Bool) → (if begins then Some name else None) ≡ Some text → name ≡ text
    given name text true is = cc
    given name text false is = cc

    one : (name text : List ℕ) → is_directory_name name ≡ true → directory_like typed name ≡ Some text → AreShown text
    one name text is gives = subst AreShown (given name text (begins_with name typed) gives) (directory_shown name is)

names_shown : (c : Catalogue) → IsCatalogue c → (directory : ℕ) (deleted : Bool) (typed : List ℕ)
    → FoundShown (found_names (rows_of c directory) deleted typed)
names_shown c is_catalogue directory deleted typed =
    gather_shown (filter_map (name_like deleted typed) (rows_of c directory)) Nobody tt
    (given_shown FileRow (name_like deleted typed) (is_row (length c.directories)) one (rows_of c directory) (rows_form c is_catalogue directory))
  where
    one : (row : FileRow) (text : List ℕ) → is_row (length c.directories) row ≡ true → name_like deleted typed row ≡ Some text → AreShown text
    one row text is gives =
        subst AreShown (listed_of typed (agree row.deleted deleted) row.name text gives).same
        (name_shown row.name (row_form (length c.directories) row is).names)

kinds_shown : (c : Catalogue) → IsCatalogue c → (directory : ℕ) (deleted : Bool) (name typed : List ℕ)
    → FoundShown (found_kinds (rows_of c directory) deleted name typed)
kinds_shown c is_catalogue directory deleted name typed =
    gather_shown (filter_map (kind_like deleted name typed) (rows_of c directory)) Nobody tt
    (given_shown FileRow (kind_like deleted name typed) (is_row (length c.directories)) one (rows_of c directory) (rows_form c is_catalogue directory))
  where
    one : (row : FileRow) (text : List ℕ) → is_row (length c.directories) row ≡ true → kind_like deleted name typed row ≡ Some text → AreShown text
    one row text is gives =
        subst AreShown (listed_of typed (agree row.deleted deleted && equals row.name name) row.kind text gives).same
        (name_shown row.kind (row_form (length c.directories) row is).kinds)

completed_shown : (next : ℕ) (typed close : List ℕ) (found : Found) → FoundShown found → AreShown close → IsShown (completed next typed close found)
completed_shown next typed close Nobody all closing = tt
completed_shown next typed close (One text) all closing = shown_append (missing text typed) close (shown_drop (length typed) text all) closing
completed_shown next typed close (Several front) all closing = shown_drop (length typed) front all

pub user_shown : (c : Catalogue) → IsCatalogue c → (next : ℕ) (atom : List ℕ) → IsShown (user_outcome c next atom)
unfolding user_outcome
user_shown c is_catalogue next atom = completed_shown next atom [] (found_users c atom) (users_shown c is_catalogue atom) tt

bracket : AreShown (62 ∷ [])
bracket = (refl, tt)

point : AreShown (46 ∷ [])
point = (refl, tt)

star : AreShown (42 ∷ [])
star = (refl, tt)

named_shown : (c : Catalogue) → IsCatalogue c → (next : ℕ) (typed : List ℕ) → IsShown (named_directory c next typed)
named_shown c is_catalogue next typed =
    completed_shown next typed (62 ∷ []) (found_directories c typed) (directories_shown c is_catalogue typed) bracket

pub directory_outcome_shown : (c : Catalogue) → IsCatalogue c → (new : Bool) (next : ℕ) (atom : List ℕ) (plain : Outcome) → IsShown plain
    → IsShown (directory_outcome c new next atom plain)
unfolding directory_outcome
directory_outcome_shown c is_catalogue new next atom plain own =
    cond_each IsShown new plain (directory_completion c next plain (opened atom)) own (by (opened atom))
  where
    by : (found : Option (List ℕ)) → IsShown (directory_completion c next plain found)
    by None = own
    by (Some typed) = named_shown c is_catalogue next typed

generation_shown : (c : Catalogue) → IsCatalogue c → (request : Request) (directory : ℕ) (name kind gathered : List ℕ) (other : Outcome)
    → AreShown gathered → IsShown other
    → IsShown (generation_step request gathered other (highest (rows_of c directory) request.flags.deleted name kind))
generation_shown c is_catalogue request directory name kind gathered other all own =
    by (highest (rows_of c directory) request.flags.deleted name kind) refl
  where
    by : (found : Option ℕ) → highest (rows_of c directory) request.flags.deleted name kind ≡ found
        → IsShown (generation_step request gathered other found)
    by None is = own
    by (Some generation) is =
        let row = highest_row c is_catalogue directory request.flags.deleted name kind generation is in
        let most = row.form.most in
        let same = row.generation_same in
        shown_append gathered (if request.flags.all_generations then 42 ∷ [] else decimal generation) all
        (cond_each AreShown request.flags.all_generations (42 ∷ []) (decimal generation) star
        (shown_of_all is_ascii_digit digit_byte (decimal generation) (decimal_digits generation (omega arith))))

kind_shown : (c : Catalogue) → IsCatalogue c → (request : Request) (directory : ℕ) (gathered name typed : List ℕ) (found : Found)
    → AreShown gathered → FoundShown found → IsShown (kind_step request (rows_of c directory) gathered name typed found)
kind_shown c is_catalogue request directory gathered name typed Nobody all some = all
kind_shown c is_catalogue request directory gathered name typed (Several front) all some =
    shown_append gathered (missing front typed) all (shown_drop (length typed) front some)
kind_shown c is_catalogue request directory gathered name typed (One kind) all some = by request.mode
  where
    more : AreShown (gathered ++ (missing kind typed ++ 46 ∷ []))
    more = shown_append gathered (missing kind typed ++ 46 ∷ []) all (shown_append (missing kind typed) (46 ∷ []) (shown_drop (length typed) kind some) point)

    by : (mode : Mode) → IsShown (after_kind mode request (rows_of c directory) (gathered ++ (missing kind typed ++ 46 ∷ [])) name kind)
    by modes.Part = more
    by modes.Escape = generation_shown c is_catalogue request directory name kind (gathered ++ (missing kind typed ++ 46 ∷ [])) (Part (gathered ++ (missing kind typed ++ 46 ∷ []))) more more

name_step_shown : (c : Catalogue) → IsCatalogue c → (request : Request) (directory : ℕ) (typed : List ℕ) (found : Found)
    → FoundShown found → IsShown (name_step request (rows_of c directory) typed found)
name_step_shown c is_catalogue request directory typed Nobody some = tt
name_step_shown c is_catalogue request directory typed (Several front) some = shown_drop (length typed) front some
name_step_shown c is_catalogue request directory typed (One name) some = by request.mode
  where
    more : AreShown (missing name typed ++ 46 ∷ [])
    more = shown_append (missing name typed) (46 ∷ []) (shown_drop (length typed) name some) point

    by : (mode : Mode) → IsShown (after_name mode request (rows_of c directory) (missing name typed ++ 46 ∷ []) name)
    by modes.Part = more
    by modes.Escape =
        kind_shown c is_catalogue request directory (missing name typed ++ 46 ∷ []) name [] (found_kinds (rows_of c directory) request.flags.deleted name [])
        more (kinds_shown c is_catalogue directory request.flags.deleted name [])

by_kind_shown : (c : Catalogue) → IsCatalogue c → (request : Request) (directory : ℕ) (atom name : List ℕ) (plain : Outcome) (kind : Option Span)
    → IsShown plain → IsShown (by_kind request (rows_of c directory) atom name plain kind)
by_kind_shown c is_catalogue request directory atom name plain None own =
    name_step_shown c is_catalogue request directory name (found_names (rows_of c directory) request.flags.deleted name)
    (names_shown c is_catalogue directory request.flags.deleted name)
by_kind_shown c is_catalogue request directory atom name plain (Some place) own =
    cond_each IsShown (place.end == length atom) _ _
    (kind_shown c is_catalogue request directory [] name (part atom place) (found_kinds (rows_of c directory) request.flags.deleted name (part atom place)) tt
    (kinds_shown c is_catalogue directory request.flags.deleted name (part atom place)))
    (cond_each IsShown (place.end + 1 == length atom) _ plain
    (generation_shown c is_catalogue request directory name (part atom place) [] plain tt own) own)

meant_shown : (c : Catalogue) → IsCatalogue c → (request : Request) (atom : List ℕ) (plain : Outcome) (spec : Spec) (answer : Result ℕ Code)
    → IsShown plain → IsShown (completion_in_directory c request atom plain spec answer)
meant_shown c is_catalogue request atom plain spec (Err code) own = tt
meant_shown c is_catalogue request atom plain spec (Ok directory) own =
    by_kind_shown c is_catalogue request directory atom (part_or_nothing atom spec.name) plain spec.kind own

spec_shown : (c : Catalogue) → IsCatalogue c → (request : Request) (atom : List ℕ) (plain : Outcome) (answer : Result Spec SpecFault)
    → IsShown plain → IsShown (by_spec c request atom plain answer)
spec_shown c is_catalogue request atom plain (Err fault) own = tt
spec_shown c is_catalogue request atom plain (Ok spec) own = meant_shown c is_catalogue request atom plain spec (meant c request atom spec) own

piece_shown : (outcome : Outcome) → IsShown outcome → IsShown (as_piece outcome)
piece_shown Nothing all = tt
piece_shown (Part bytes) all = all
piece_shown (Piece bytes) all = all
piece_shown (Whole bytes next) all = all

pub file_shown : (c : Catalogue) → IsCatalogue c → (request : Request) (atom : List ℕ) (plain : Outcome) → IsShown plain
    → IsShown (file_outcome c request atom plain)
unfolding file_outcome
file_shown c is_catalogue request atom plain own =
    cond_each IsShown (list_any is_wild atom) Nothing (prefix_completion c request atom plain (opened atom)) tt (by (opened atom))
  where
    by : (found : Option (List ℕ)) → IsShown (prefix_completion c request atom plain found)
    by None = spec_shown c is_catalogue request atom plain (read_spec atom) own
    by (Some typed) = piece_shown (named_directory c request.next typed) (named_shown c is_catalogue request.next typed)
