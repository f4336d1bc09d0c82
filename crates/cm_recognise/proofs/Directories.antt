-- A user or a directory that is completed whole is taken.
use Rattle.std.proofs.Common.{◌≡◌, ℕ, ◌+◌, ◌-◌, ◌≤◌, Bool, true, false, not, ◌&&◌, ◌||◌, ◌==◌, nat_lt, if◌then◌else◌, List, [], ◌∷◌, ◌++◌, length, take, drop, codes, Option, Some, None, option_map, Result, Ok, Err, refl, ap, sym, subst, arith, ◌∙◌, append_assoc, append-nil, length-take}
use Rattle.std.specs.List.{find, list_all, list_any, prefix_len}
use Rattle.std.proofs.lemmas.Bool.{and_from, and_parts, or_parts}
use Rattle.std.proofs.lemmas.Bool.Decides.{nat_tests}
use Rattle.std.proofs.lemmas.List.{drop-append-le}
use Rattle.cm_lists.proofs.Pieces.{drop_next, drop_within}
use Rattle.cm_lists.proofs.Positions.{find_passes, position_some}
use Rattle.cm_lists.proofs.Prefixes.{all_of_prefix_len, prefix_len_stops}
use Rattle.cm_lists.proofs.Quantifiers.{all_append, all_drop, all_weaker, none_of_all, not_all_at}
use Rattle.cm_tables.proofs.FoundLemmas.{length_same, lower_same, same_lower}
use Rattle.cm_text.specs.declared.name.TheConstants.{NAME_LIMIT}
use Rattle.cm_text.specs.BeginLaws.{lower}
use Rattle.cm_text.specs.Bytes.{is_blank, is_name, is_word}
use Rattle.cm_text.specs.Case.{begins_with, equals}
use Rattle.cm_fields.specs.declared.code.Code.{Code}
use Rattle.cm_fields.specs.declared.code.Code.TheVariants.{Device, NoDirectory, NoLogical, SpecShape, WildHere}
use Rattle.cm_fields.specs.declared.trial.Try.TheVariants.{More}
use Rattle.cm_fields.specs.declared.value.Span.{Span}
use Rattle.cm_fields.specs.declared.value.Spec.{Spec}
use Rattle.cm_fields.specs.declared.value.Value.{Value}
use Rattle.cm_fields.specs.declared.value.Value.TheVariants as values
use Rattle.cm_fields.specs.BeforeField.{BeginsOther}
use Rattle.cm_fields.specs.Try.{by_run, span}
use Rattle.cm_files.specs.declared.row.LogicalName.{LogicalName}
use Rattle.cm_files.specs.declared.spec.SpecFault.{SpecFault}
use Rattle.cm_files.specs.Catalogue.{Catalogue, IsCatalogue, is_directory_name, is_logical, logical_of}
use Rattle.cm_files.specs.Fields as fields
use Rattle.cm_files.specs.Fields.{directory, directory_of, has_colon_after, is_file, is_plain_path, is_user, is_user_named, user, user_named, user_of, user_or_refused}
use Rattle.cm_files.specs.Pattern.{is_wild}
use Rattle.cm_files.specs.Resolve.{by_device, by_directory, directory_named, has_wild, is_named, or_refused, refuse, then_in}
use Rattle.cm_files.specs.Spec.{device_read, is_long, is_path, part, read_spec, stands_at}
use Rattle.cm_files.proofs.Trials.{directory_is_local}
use Rattle.cm_files.proofs.Fronts.{by_device_more, device_at}
use Rattle.cm_files.proofs.Sections.{closed_reads, closed_spec, device_more, lacks, part_bytes, stands_first}
use Rattle.cm_recognise.specs.declared.found.Found.{Found}
use Rattle.cm_recognise.specs.declared.found.Found.TheVariants.{Nobody, One, Several}
use Rattle.cm_recognise.specs.declared.outcome.Outcome.TheVariants.{Whole}
use Rattle.cm_recognise.specs.FileOutcome.{directory_completion, completed, directory_outcome, opened, unclosed, user_outcome}
use Rattle.cm_recognise.specs.Candidates.{directory_like, found_directories, found_users, missing, user_like}
use Rattle.cm_recognise.specs.Outcome.{plain_outcome}
use Rattle.cm_recognise.proofs.Sources.{found_comes}
use Rattle.cm_recognise.proofs.Completions.{TakesNamed, listed_of, plain_named, run_named}
use Rattle.cm_recognise.proofs.LetterCase.{DirectoryName, completed_lower, directory_name, parts_same, paths_same}
use Rattle.cm_recognise.proofs.Plains.{IsOwnIfOk, run_ends, run_wants, space_no_file}

-- one directory of a catalogue, which is completed
record Named (c : Catalogue) (typed text : List ℕ) : Type 0 where
  begins : begins_with text typed ≡ true
  name : DirectoryName text

-- what completes a user
user_name : (c : Catalogue) → IsCatalogue c → (typed text : List ℕ) → found_users c typed ≡ One text
    → Named c typed text × (list_any (is_user_named (typed ++ drop (length typed) text)) c.directories ≡ true)
user_name c is_catalogue typed text found =
    let comes = found_comes (List ℕ) (user_like typed) c.directories text found in
    let listed = listed_of typed (is_user comes.x) comes.x text comes.gives in
    let name = directory_name comes.x (comes.all is_directory_name is_catalogue.directory_names) in
    let whole = typed ++ drop (length typed) text in
    let same : lower comes.x ≡ lower whole = ap lower listed.same ∙ sym (completed_lower text typed listed.begins) in
    let passes : is_user_named whole comes.x ≡ true =
    and_from (is_user comes.x) (equals comes.x whole) listed.listed_is (same_lower comes.x whole same) in
    (record { begins = listed.begins; name = subst DirectoryName listed.same name }, comes.any (is_user_named whole) passes)

-- what completes a directory
directory_like_of : (typed name found : List ℕ) → directory_like typed name ≡ Some found → (name ≡ found) × (begins_with name typed ≡ true)
directory_like_of typed name found is = by (begins_with name typed) refl is
  where
    by : (test : Bool) → begins_with name typed ≡ test → (if test then Some name else None) ≡ Some found
        → (name ≡ found) × (begins_with name typed ≡ true)
    by true begins is = let same : name ≡ found = cc in (same, begins)
    by false begins is = cc

directory_named_so : (c : Catalogue) → IsCatalogue c → (typed text : List ℕ) → found_directories c typed ≡ One text
    → Named c typed text × (list_any (is_named (typed ++ drop (length typed) text)) c.directories ≡ true)
directory_named_so c is_catalogue typed text found =
    let comes = found_comes (List ℕ) (directory_like typed) c.directories text found in
    let listed = directory_like_of typed comes.x text comes.gives in
    let name = directory_name comes.x (comes.all is_directory_name is_catalogue.directory_names) in
    let begins : begins_with text typed ≡ true = subst (λ (name : List ℕ). begins_with name typed ≡ true) listed.0 listed.1 in
    let whole = typed ++ drop (length typed) text in
    let same : lower comes.x ≡ lower whole = ap lower listed.0 ∙ sym (completed_lower text typed begins) in
    (record { begins = begins; name = subst DirectoryName listed.0 name }, comes.any (is_named whole) (same_lower comes.x whole same))

space_no_path : is_plain_path 32 ≡ false
unfolding is_name is_word
space_no_path = refl

-- after a whole name and a space no colon stands
no_colon : (whole more : List ℕ) → list_all is_plain_path whole ≡ true → has_colon_after (whole ++ 32 ∷ more) ≡ false
no_colon whole more all =
    let none : prefix_len is_plain_path (32 ∷ more) ≡ 0 = rw space_no_path refl in
    let size = prefix_len_stops is_plain_path whole (32 ∷ more) all none in
    ap (λ (size : ℕ). stands_at (whole ++ 32 ∷ more) size 58) size
    ∙ stands_first (whole ++ 32 ∷ more) (length whole) 32 more 58 (seam whole)
  where
    seam : (text : List ℕ) → drop (length text) (text ++ 32 ∷ more) ≡ 32 ∷ more
    seam [] = refl
    seam (byte ∷ text) = seam text

user_taken : (c : Catalogue) (atom bytes more : List ℕ) (at place : ℕ) → list_all is_plain_path (atom ++ bytes) ≡ true
    → user_named c (atom ++ bytes) ≡ Some place → TakesNamed (user c) atom bytes more at
unfolding user_of
user_taken c atom bytes more at place all found =
    let text : atom ++ (bytes ++ 32 ∷ more) ≡ (atom ++ bytes) ++ 32 ∷ more = sym (append_assoc atom bytes (32 ∷ more)) in
    let colon : has_colon_after (atom ++ (bytes ++ 32 ∷ more)) ≡ false =
    ap has_colon_after text ∙ no_colon (atom ++ bytes) more all in
    let named = run_named is_plain_path (user_of c false) atom bytes more at (values.User place) all space_no_path (ap user_or_refused found) tt in
    record {
      value = named.value;
      seen = named.seen;
      accepts = ap (λ (colon : Bool). by_run is_plain_path (user_of c colon) (atom ++ (bytes ++ 32 ∷ more)) at) colon ∙ named.accepts;
      own = named.own;
    }

pub user_sound : (c : Catalogue) → IsCatalogue c → (atom bytes more : List ℕ) (at next after : ℕ)
    → user_outcome c next atom ≡ Whole bytes after → TakesNamed (user c) atom bytes more at × (next ≡ after)
unfolding user_outcome
user_sound c is_catalogue atom bytes more at next after is = by (found_users c atom) refl is
  where
    by : (found : Found) → found_users c atom ≡ found → completed next atom [] found ≡ Whole bytes after
        → TakesNamed (user c) atom bytes more at × (next ≡ after)
    by Nobody found is = cc
    by (Several front) found is = cc
    by (One text) found is =
        let rest : missing text atom ++ [] ≡ bytes = cc in
        let leads : next ≡ after = cc in
        let same : missing text atom ≡ bytes = sym (append-nil (missing text atom)) ∙ rest in
        let of = user_name c is_catalogue atom text found in
        let whole = atom ++ missing text atom in
        let all = paths_same whole text (completed_lower text atom of.0.begins) of.0.name.paths in
        let place = position_some (is_user_named whole) c.directories 0 of.1 in (
          subst (λ (bytes : List ℕ). TakesNamed (user c) atom bytes more at) same
              (user_taken c atom (missing text atom) more at place.0 all place.1),
          leads,
        )

-- a device that means a directory is no longer than a name may be
logical_short : (c : Catalogue) → IsCatalogue c → (name : List ℕ) (directory : ℕ) → or_refused NoLogical (logical_of c name) ≡ Ok directory
    → length name ≤ NAME_LIMIT
logical_short c is_catalogue name directory is = by (find (λ (entry : LogicalName). equals entry.name name) c.logical) refl is
  where
    by : (found : Option LogicalName) → find (λ (entry : LogicalName). equals entry.name name) c.logical ≡ found
        → or_refused NoLogical (option_map (λ (entry : LogicalName). entry.directory) found) ≡ Ok directory → length name ≤ NAME_LIMIT
    by None found is = cc
    by (Some entry) found is =
        let passes = find_passes LogicalName (λ (entry : LogicalName). equals entry.name name) (is_logical (length c.directories)) c.logical entry found is_catalogue.logical_within in
        let size = (and_parts (nat_lt entry.directory (length c.directories)) _ passes.1).1 in
        let same = length_same entry.name name (lower_same entry.name name passes.0) in
        grind (arith, nat_tests)

device_bytes : (c : Catalogue) → IsCatalogue c → (name : List ℕ) (directory : ℕ)
    → (if equals name (codes "TTY") then Err Device
    else (if equals name (codes "PS") || equals name (codes "DSK") then Ok c.connected else or_refused NoLogical (logical_of c name))) ≡ Ok directory
    → length name ≤ NAME_LIMIT
device_bytes c is_catalogue name directory is =
    by (equals name (codes "TTY")) (equals name (codes "PS")) refl (equals name (codes "DSK")) refl is
  where
    by : (tty ps : Bool) → equals name (codes "PS") ≡ ps → (dsk : Bool) → equals name (codes "DSK") ≡ dsk
        → (if tty then Err Device else (if ps || dsk then Ok c.connected else or_refused NoLogical (logical_of c name))) ≡ Ok directory
        → length name ≤ NAME_LIMIT
    by true ps is_ps dsk is_dsk is = cc
    by false true is_ps dsk is_dsk is = let size = length_same name (codes "PS") (lower_same name (codes "PS") is_ps) in omega arith
    by false false is_ps true is_dsk is = let size = length_same name (codes "DSK") (lower_same name (codes "DSK") is_dsk) in omega arith
    by false false is_ps false is_dsk is = logical_short c is_catalogue name directory is

first_size : (size : ℕ) (text : List ℕ) → size ≤ length text → length (part text (span 0 size)) ≡ size
first_size size text within =
    let same : 0 + size - 0 ≡ size = omega arith in
    let known = length-take size text in
    ap (λ (n : ℕ). length (take n text)) same ∙ omega arith

pub device_short : (c : Catalogue) → IsCatalogue c → (atom : List ℕ) (meant : ℕ)
    → by_device c atom (device_read atom).part ≡ Ok meant → is_long (device_read atom).part ≡ false
device_short c is_catalogue atom meant is = by (device_read atom).part refl is
  where
    by : (place : Option Span) → (device_read atom).part ≡ place → by_device c atom place ≡ Ok meant → is_long place ≡ false
    by None found is = refl
    by (Some place) found is =
        let of = device_at atom place found in
        let most = of.within in
        let short = device_bytes c is_catalogue (part atom place) meant is in
        let bytes : length (part atom (span 0 (prefix_len is_name atom))) ≡ prefix_len is_name atom =
        first_size (prefix_len is_name atom) atom most in
        let size : prefix_len is_name atom ≤ NAME_LIMIT =
        (let small = subst (λ (place : Span). length (part atom place) ≤ NAME_LIMIT) of.is short in omega arith) in
        subst (λ (place : Span). is_long (Some place) ≡ false) (sym of.is) (grind (arith, nat_tests))

-- what is after an opening angle bracket
unclosed_of : (byte : ℕ) (more typed : List ℕ) → unclosed (byte ∷ more) ≡ Some typed → byte ∷ more ≡ 60 ∷ typed
unclosed_of byte more typed is = by (byte == 60) refl (not (list_any (λ other. other == 62) more)) is
  where
    by : (mark : Bool) → (byte == 60) ≡ mark → (left : Bool) → (if mark && left then Some more else None) ≡ Some typed
        → byte ∷ more ≡ 60 ∷ typed
    by true mark true is =
        let same : more ≡ typed = cc in
        let first : byte ≡ 60 = grind (arith, nat_tests) in
        ap (λ (byte : ℕ). byte ∷ more) first ∙ ap (λ (rest : List ℕ). 60 ∷ rest) same
    by true mark false is = cc
    by false mark left is = cc

opened_of : (atom typed : List ℕ) → opened atom ≡ Some typed → drop (device_read atom).next atom ≡ 60 ∷ typed
opened_of atom typed is = by (drop (device_read atom).next atom) is
  where
    by : (rest : List ℕ) → unclosed rest ≡ Some typed → rest ≡ 60 ∷ typed
    by [] is = cc
    by (byte ∷ more) is = unclosed_of byte more typed is

path_of_plain : (byte : ℕ) → is_plain_path byte ≡ true → is_path byte ≡ true
path_of_plain byte is = by (is_name byte) (is_wild byte) (byte == 46) is
  where
    by : (name wild point : Bool) → (name || point) ≡ true → ((name || wild) || point) ≡ true
    by true wild point is = refl
    by false true point is = refl
    by false false point is = is

pub file_of_path : (byte : ℕ) → is_path byte ≡ true → is_file byte ≡ true
file_of_path byte is = rw is refl

no_colon_byte : (byte : ℕ) → is_plain_path byte ≡ true → (byte == 58) ≡ false
unfolding is_name is_word
no_colon_byte byte is = grind (arith, nat_tests)

no_wild_byte : (byte : ℕ) → is_plain_path byte ≡ true → is_wild byte ≡ false
unfolding is_name is_word
no_wild_byte byte is = grind (arith, nat_tests)

bracket_no_path : is_plain_path 60 ≡ false
unfolding is_name is_word
bracket_no_path = refl

bracket_file : list_all is_file (62 ∷ []) ≡ true
unfolding is_name is_word
bracket_file = refl

lacks_append : (mark : ℕ) (text more : List ℕ) → lacks mark text → lacks mark more → lacks mark (text ++ more)
lacks_append mark [] more first second = second
lacks_append mark (byte ∷ text) more first second =
    let parts = or_parts (byte == mark) (list_any (λ other. other == mark) text) first in
    let here = parts.0 in
    rw here (lacks_append mark text more parts.1 second)

-- what it means
closed_means : (c : Catalogue) (atom whole body : List ℕ) (at meant place : ℕ) → read_spec whole ≡ Ok (closed_spec (device_read atom) body)
    → drop (device_read atom).next whole ≡ 60 ∷ (body ++ 62 ∷ []) → list_all is_plain_path body ≡ true
    → by_device c whole (device_read atom).part ≡ Ok meant
    → directory_named c body ≡ Some place → directory_of false c at whole ≡ Ok (values.Directory place)
unfolding directory_of
closed_means c atom whole body at meant place read text plain device_is named =
    let device = device_read atom in
    let outside = not_all_at is_plain_path device.next whole 60 (body ++ 62 ∷ []) text bracket_no_path in
    let within = drop_within device.next whole 60 (body ++ 62 ∷ []) text in
    let some : nat_lt 0 (length whole) ≡ true = grind (arith, nat_tests) in
    let rest = drop_next whole device.next 60 (body ++ 62 ∷ []) text in
    let bytes : part whole (span (device.next + 1) (length body)) ≡ body = part_bytes whole (device.next + 1) body (62 ∷ []) rest in
    let wild = none_of_all is_plain_path is_wild no_wild_byte body plain in
    rw (some, outside, read, bytes, wild, device_is, named) refl

directory_taken : (c : Catalogue) → IsCatalogue c → (atom typed text more : List ℕ) (at meant : ℕ) → drop (device_read atom).next atom ≡ 60 ∷ typed
    → list_all is_file atom ≡ true → Named c typed text → list_any (is_named (typed ++ drop (length typed) text)) c.directories ≡ true
    → by_device c atom (device_read atom).part ≡ Ok meant
    → TakesNamed (directory false c) atom (drop (length typed) text ++ 62 ∷ []) more at
directory_taken c is_catalogue atom typed text more at meant front all of named device =
    let rest = drop (length typed) text in
    let body = typed ++ rest in
    let bytes = rest ++ 62 ∷ [] in
    let whole = atom ++ bytes in
    let read = device_read atom in
    let same = completed_lower text typed of.begins in
    let plain = paths_same body text same of.name.paths in
    let paths = all_weaker is_plain_path is_path path_of_plain body plain in
    let parts = parts_same body text same of.name.parts in
    let short = of.name.short in
    let size = length_same body text same in
    let fits : length body ≤ NAME_LIMIT = omega arith in
    let rest_plain = all_drop is_plain_path (length typed) text of.name.paths in
    let inside = drop_within read.next atom 60 typed front in
    let text_is : drop read.next whole ≡ 60 ∷ (body ++ 62 ∷ []) =
    drop-append-le read.next atom bytes (omega arith) ∙ ap (λ (front : List ℕ). front ++ bytes) front
    ∙ ap (λ (text : List ℕ). 60 ∷ text) (sym (append_assoc typed rest (62 ∷ []))) in
    let no_colons = lacks_append 58 rest (62 ∷ []) (none_of_all is_plain_path (λ (byte : ℕ). byte == 58) no_colon_byte rest rest_plain) refl in
    let device_is = device_more atom bytes no_colons in
    let spec_is = closed_reads whole read body device_is text_is paths parts (device_short c is_catalogue atom meant device) fits in
    let meant_is : by_device c whole read.part ≡ Ok meant = by_device_more c atom bytes ∙ device in
    let place = position_some (is_named body) c.directories 0 named in
    let decided = closed_means c atom whole body at meant place.0 spec_is text_is plain meant_is place.1 in
    let files = all_append is_file atom bytes all
    (all_append is_file rest (62 ∷ []) (all_weaker is_path is_file file_of_path rest (all_weaker is_plain_path is_path path_of_plain rest rest_plain)) bracket_file) in
    let taken = run_named is_file (directory_of false c at) atom bytes more at (values.Directory place.0) files space_no_file decided tt in
    record { value = taken.value; seen = taken.seen; accepts = taken.accepts; own = taken.own }

refuse_own : (test : Bool) (code : Code) (next : Result Value Code) → IsOwnIfOk next → IsOwnIfOk (refuse test code next)
refuse_own true code next own = tt
refuse_own false code next own = own

pub then_own : (answer : Result ℕ Code) (next : ℕ → Result Value Code) → ((directory : ℕ) → IsOwnIfOk (next directory))
    → IsOwnIfOk (then_in answer next)
then_own (Ok directory) next own = own directory
then_own (Err code) next own = tt

read_own : (new : Bool) (c : Catalogue) (at : ℕ) (run : List ℕ) (answer : Result Spec SpecFault) → IsOwnIfOk (fields.directory_read new c at run answer)
read_own new c at run (Err fault) = tt
read_own new c at run (Ok spec) =
    refuse_own _ SpecShape _ (refuse_own (has_wild run spec.directory) WildHere _ (then_own (by_device c run spec.device) _ (either new)))
  where
    named : (place : Option Span) → IsOwnIfOk (fields.new_directory at place)
    named None = tt
    named (Some place) = tt

    either : (new : Bool) (meant : ℕ)
        → IsOwnIfOk (if new then fields.new_directory at spec.directory else then_in (by_directory c run spec.directory meant) fields.old_directory)
    either true meant = named spec.directory
    either false meant = then_own (by_directory c run spec.directory meant) fields.old_directory (λ directory. tt)

directory_own : (new : Bool) (c : Catalogue) (at : ℕ) (run : List ℕ) → IsOwnIfOk (directory_of new c at run)
unfolding directory_of
directory_own new c at run = refuse_own _ NoDirectory _ (read_own new c at run (read_spec run))

pub directory_sound : (c : Catalogue) → IsCatalogue c → (new : Bool) (atom bytes more : List ℕ) (at next after meant : ℕ)
    → by_device c atom (device_read atom).part ≡ Ok meant → directory new c atom at ≡ More
    → directory_outcome c new next atom (plain_outcome next (directory new c (atom ++ 32 ∷ []) at)) ≡ Whole bytes after
    → TakesNamed (directory new c) atom bytes more at × (next ≡ after)
unfolding directory_outcome
directory_sound c is_catalogue new atom bytes more at next after meant device wants is = by_new new wants is
  where
    plain : (new : Bool) → directory new c atom at ≡ More → plain_outcome next (directory new c (atom ++ 32 ∷ []) at) ≡ Whole bytes after
        → TakesNamed (directory new c) atom bytes more at × (next ≡ after)
    plain new wants is =
        plain_named (directory new c) (directory_is_local new c) atom bytes more at next after
        (run_ends is_file (directory_of new c at) atom at space_no_file (directory_own new c at atom) wants) is

    by_found : (typed : List ℕ) → opened atom ≡ Some typed → directory false c atom at ≡ More → (found : Found) → found_directories c typed ≡ found
        → completed next typed (62 ∷ []) found ≡ Whole bytes after → TakesNamed (directory false c) atom bytes more at × (next ≡ after)
    by_found typed opens wants Nobody found is = cc
    by_found typed opens wants (Several front) found is = cc
    by_found typed opens wants (One text) found is =
        let rest : missing text typed ++ 62 ∷ [] ≡ bytes = cc in
        let leads : next ≡ after = cc in
        let of = directory_named_so c is_catalogue typed text found in
        let all = all_of_prefix_len is_file atom (run_wants is_file (directory_of false c at) atom at wants) in (
          subst (λ (bytes : List ℕ). TakesNamed (directory false c) atom bytes more at) rest
              (directory_taken c is_catalogue atom typed text more at meant (opened_of atom typed opens) all of.0 of.1 device),
          leads,
        )

    by_typed : (found : Option (List ℕ)) → opened atom ≡ found → directory false c atom at ≡ More
        → directory_completion c next (plain_outcome next (directory false c (atom ++ 32 ∷ []) at)) found ≡ Whole bytes after
        → TakesNamed (directory false c) atom bytes more at × (next ≡ after)
    by_typed None found wants is = plain false wants is
    by_typed (Some typed) found wants is = by_found typed found wants (found_directories c typed) refl is

    by_new : (new : Bool) → directory new c atom at ≡ More
        → (if new then plain_outcome next (directory new c (atom ++ 32 ∷ []) at) else directory_completion c next (plain_outcome next (directory new c (atom ++ 32 ∷ []) at)) (opened atom)) ≡ Whole bytes after
        → TakesNamed (directory new c) atom bytes more at × (next ≡ after)
    by_new true wants is = plain true wants is
    by_new false wants is = by_typed (opened atom) refl wants is

-- where nothing is typed, a user begins with nothing that is skipped
name_begins : (raw : Bool) (text more : List ℕ) → DirectoryName text → BeginsOther raw (text ++ more)
unfolding is_name is_word is_blank
name_begins raw [] more name = let never = name.parts in cc
name_begins raw (byte ∷ text) more name =
    let first = (and_parts (is_plain_path byte) (list_all is_plain_path text) name.paths).0 in
    let blank : is_blank byte ≡ false = grind (arith, nat_tests) in
    (blank, λ plain. (λ (same : byte ≡ 33). absurd (grind (arith, nat_tests)), λ (same : byte ≡ 59). absurd (grind (arith, nat_tests))))

pub user_begins : (c : Catalogue) → IsCatalogue c → (raw : Bool) (next : ℕ) (bytes more : List ℕ) (after : ℕ)
    → user_outcome c next [] ≡ Whole bytes after → BeginsOther raw (bytes ++ more)
unfolding user_outcome
user_begins c is_catalogue raw next bytes more after is = by (found_users c []) refl is
  where
    by : (found : Found) → found_users c [] ≡ found → completed next [] [] found ≡ Whole bytes after → BeginsOther raw (bytes ++ more)
    by Nobody found is = cc
    by (Several front) found is = cc
    by (One text) found is =
        let rest : text ++ [] ≡ bytes = cc in
        let of = user_name c is_catalogue [] text found in
        subst (λ (bytes : List ℕ). BeginsOther raw (bytes ++ more)) (sym (append-nil text) ∙ rest)
        (name_begins raw text more of.0.name)
