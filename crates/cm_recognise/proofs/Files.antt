-- A file that is completed whole is taken.
use Rattle.std.proofs.Common.{◌≡◌, ◌⊎◌, inl, inr, ℕ, ◌+◌, ◌<◌, ◌≤◌, Bool, true, false, not, ◌&&◌, ◌||◌, ◌==◌, if◌then◌else◌, List, [], ◌∷◌, ◌++◌, length, drop, decimal, Option, Some, None, Result, Ok, Err, refl, ap, sym, subst, arith, ◌∙◌, append_assoc, append-nil, length-append}
use Rattle.std.specs.List.{list_all, list_any}
use Rattle.std.proofs.lemmas.Bool.{or_parts}
use Rattle.std.proofs.lemmas.Bool.Decides.{nat_tests}
use Rattle.std.proofs.lemmas.List.{drop-append-le, drop_all}
use Rattle.std.specs.Char.{is_ascii_digit}
use Rattle.cm_lists.proofs.Digits.{decimal_digits}
use Rattle.cm_lists.proofs.Pieces.{drop_next, drop_part}
use Rattle.cm_lists.proofs.Prefixes.{all_of_prefix_len}
use Rattle.cm_lists.proofs.Quantifiers.{all_append, all_append_right, all_weaker, none_of_all}
use Rattle.cm_tables.proofs.FoundLemmas.{length_same}
use Rattle.cm_text.specs.BeginLaws.{lower}
use Rattle.cm_text.specs.Bytes.{is_name, is_word}
use Rattle.cm_text.specs.Case.{equals}
use Rattle.cm_fields.specs.declared.code.Code.{Code}
use Rattle.cm_fields.specs.declared.code.Code.TheVariants.{WildHere}
use Rattle.cm_fields.specs.declared.trial.Try.TheVariants.{More}
use Rattle.cm_fields.specs.declared.value.FileKind.{FileKind}
use Rattle.cm_fields.specs.declared.value.FileKind.TheVariants.{In, Out, Any}
use Rattle.cm_fields.specs.declared.value.Gen.{Gen}
use Rattle.cm_fields.specs.declared.value.Gen.TheVariants as generations
use Rattle.cm_fields.specs.declared.value.Span.{Span}
use Rattle.cm_fields.specs.declared.value.Spec.{Spec}
use Rattle.cm_fields.specs.declared.value.Value.TheVariants as values
use Rattle.cm_files.specs.declared.flags.Flags.{Flags}
use Rattle.cm_files.specs.declared.spec.SpecFault.{SpecFault}
use Rattle.cm_files.specs.Catalogue.{Catalogue, IsCatalogue, rows_of}
use Rattle.cm_files.specs.Fields.{file, file_of, is_file, moved_spec}
use Rattle.cm_files.specs.RowTrials.{may_pass, may_take}
use Rattle.cm_files.specs.Pattern.{is_wild}
use Rattle.cm_files.specs.Resolve.{by_device, by_directory, has_bad_copy, has_bad_wild, has_wild, is_all, is_bad_generation, is_in, refuse, resolve, then_in}
use Rattle.cm_files.specs.Selection.{Wanted, is_seen, selects}
use Rattle.cm_files.specs.Spec.{device_read, generation_of, is_path, is_pattern, part, part_or_nothing, read_spec}
use Rattle.cm_files.proofs.Choices.{any_may_pass}
use Rattle.cm_files.proofs.Trials.{file_is_local}
use Rattle.cm_files.proofs.Fronts.{by_device_more, directory_same}
use Rattle.cm_recognise.specs.declared.file_outcome.Request.{Request}
use Rattle.cm_recognise.specs.declared.outcome.Outcome.{Outcome}
use Rattle.cm_recognise.specs.declared.outcome.Outcome.TheVariants.{Nothing, Whole}
use Rattle.cm_recognise.specs.FileOutcome.{prefix_completion, by_kind, completion_in_directory, by_spec, file_outcome, generation_step, kind_step, meant, named_directory, opened}
use Rattle.cm_recognise.specs.Candidates.{found_kinds, found_names, highest, missing}
use Rattle.cm_recognise.specs.Outcome.{plain_outcome}
use Rattle.cm_recognise.proofs.Completions.{TakesNamed, plain_named, run_named}
use Rattle.cm_recognise.proofs.Directories.{file_of_path}
use Rattle.cm_recognise.proofs.LetterCase.{matches_same, names_same}
use Rattle.cm_recognise.proofs.Numerals.{decimal_means}
use Rattle.cm_recognise.proofs.Plains.{file_ends, run_wants, space_no_file}
use Rattle.cm_recognise.proofs.Rows.{Row, highest_row}
use Rattle.cm_files.proofs.Sections.{Full, device_more, directory_more, full, full_spec, part_bytes, read_full}
use Rattle.cm_recognise.proofs.Steps.{Called, Kinded, Numbered, called_of, kind_lower, kinded_of, name_lower, number_of, numbered_of, piece_never}
use Rattle.cm_files.proofs.TypedFiles.{ReadAs, cut_kind, cut_name, cut_point, name_of, read_of}

-- what it means
abbrev meant_by : Bool → ℕ → Gen
meant_by all generation = if all then generations.All else generations.Number generation

number_means : (all : Bool) (generation : ℕ) → 0 < generation → generation ≤ 131071
    → generation_of (number_of all generation) ≡ Some (meant_by all generation)
unfolding generation_of equals
number_means true generation low most = refl
number_means false generation low most = decimal_means generation low most

digit_pattern : (byte : ℕ) → is_ascii_digit byte ≡ true → is_pattern byte ≡ true
unfolding is_name is_word
digit_pattern byte is = grind (arith, nat_tests)

number_pattern : (all : Bool) (generation : ℕ) → generation ≤ 131071 → list_all is_pattern (number_of all generation) ≡ true
number_pattern true generation most = star_pattern
  where
    star_pattern : list_all is_pattern (42 ∷ []) ≡ true
    star_pattern = by (is_name 42)
      where
        by : (test : Bool) → ((test || true) && true) ≡ true
        by true = refl
        by false = refl
number_pattern false generation most =
    all_weaker is_ascii_digit is_pattern digit_pattern (decimal generation) (decimal_digits generation (omega arith))

-- bytes that a specification may have after its directory
pattern_of_name : (byte : ℕ) → is_name byte ≡ true → is_path byte ≡ true
pattern_of_name byte is = rw is refl

path_of_pattern : (byte : ℕ) → is_pattern byte ≡ true → is_path byte ≡ true
path_of_pattern byte is = rw is refl

point_path : (rest : List ℕ) → list_all is_path rest ≡ true → list_all is_path (46 ∷ rest) ≡ true
unfolding is_name is_word
point_path rest all = all

no_colon_path : (byte : ℕ) → is_path byte ≡ true → (byte == 58) ≡ false
unfolding is_name is_word
no_colon_path byte is = grind (arith, nat_tests)

no_bracket_path : (byte : ℕ) → is_path byte ≡ true → (byte == 60) ≡ false
unfolding is_name is_word
no_bracket_path byte is = grind (arith, nat_tests)

no_wild_name : (byte : ℕ) → is_name byte ≡ true → is_wild byte ≡ false
unfolding is_name is_word
no_wild_name byte is = grind (arith, nat_tests)

full_path : (name kind number : List ℕ) → Full name kind number → list_all is_path (full name kind number) ≡ true
full_path name kind number f =
    all_append is_path name (46 ∷ (kind ++ 46 ∷ number)) (all_weaker is_name is_path pattern_of_name name f.names)
    (point_path (kind ++ 46 ∷ number) (all_append is_path kind (46 ∷ number) (all_weaker is_name is_path pattern_of_name kind f.kinds)
    (point_path number (all_weaker is_pattern is_path path_of_pattern number f.numbers))))

-- the directory that is meant
record Means (c : Catalogue) (request : Request) (atom : List ℕ) (spec : Spec) (directory : ℕ) : Type 0 where
  tame : has_bad_wild request.kind request.flags atom spec ≡ false
  device : ℕ
  device_is : by_device c atom spec.device ≡ Ok device
  directory_is : by_directory c atom spec.directory device ≡ Ok directory

means_of : (c : Catalogue) (request : Request) (atom : List ℕ) (spec : Spec) (directory : ℕ) → meant c request atom spec ≡ Ok directory
    → Means c request atom spec directory
means_of c request atom spec directory is =
    by (has_bad_wild request.kind request.flags atom spec) refl (by_device c atom spec.device) refl is
  where
    by : (wild : Bool) → has_bad_wild request.kind request.flags atom spec ≡ wild → (device : Result ℕ Code) → by_device c atom spec.device ≡ device
        → refuse wild WildHere (then_in device (by_directory c atom spec.directory)) ≡ Ok directory → Means c request atom spec directory
    by true wild device device_is is = cc
    by false wild (Err code) device_is is = cc
    by false wild (Ok device) device_is is = record { tame = wild; device = device; device_is = device_is; directory_is = is }

-- a file that is read is not one that is written
abbrev pub IsRead : FileKind → Type 0
IsRead In = Unit {0}
IsRead Any = Unit {0}
IsRead Out = ⊥

good_generation : (kind : FileKind) (all : Bool) (generation : ℕ) → IsRead kind → is_bad_generation kind (meant_by all generation) ≡ false
good_generation In true generation read = refl
good_generation In false generation read = refl
good_generation Any true generation read = refl
good_generation Any false generation read = refl
good_generation Out all generation read = absurd read

good_copy : (kind : FileKind) (atom : List ℕ) (spec : Spec) → IsRead kind → has_bad_copy kind atom spec ≡ false
good_copy In atom spec read = refl
good_copy Any atom spec read = refl
good_copy Out atom spec read = absurd read

-- all generations come with wildcards
tame_generation : (all wild : Bool) (generation : ℕ) → (wild || not all) ≡ true → (not wild && is_all (meant_by all generation)) ≡ false
tame_generation true true generation flags = refl
tame_generation true false generation flags = cc
tame_generation false true generation flags = refl
tame_generation false false generation flags = refl

found_of : (kind : FileKind) (selected : Bool) → selected ≡ true → IsRead kind → (is_in kind && not selected) ≡ false
found_of In true is read = refl
found_of Any true is read = refl
found_of kind false is read = cc
found_of Out true is read = absurd read

-- the row that gave the generation is selected by the name, the type and the generation
seen_row : (c : Catalogue) (directory : ℕ) (flags : Flags) (stored stored_kind name kind : List ℕ) (generation : ℕ)
    → (row : Row c directory flags.deleted stored stored_kind generation) → lower name ≡ lower stored → lower kind ≡ lower stored_kind
    → may_pass (record { name = Some name; kind = kind; generation = meant_by flags.all_generations generation; all_generations = flags.all_generations; deleted = flags.deleted }) row.row ≡ true
unfolding may_pass is_seen
seen_row c directory flags stored stored_kind name kind generation row name_same kind_same =
    let names = names_same name row.row.name (name_same ∙ sym row.name_same) row.form.names in
    let kinds = names_same kind row.row.kind (kind_same ∙ sym row.kind_same) row.form.kinds in
    let first = matches_same name row.row.name names (row.name_same ∙ sym name_same) in
    let second = matches_same kind row.row.kind kinds (row.kind_same ∙ sym kind_same) in
    let marked = row.marked in
    rw (marked, first, second) (take flags.all_generations row.row.generation row.generation_same)
  where
    take : (all : Bool) (number : ℕ) → number ≡ generation → may_take (meant_by all generation) number ≡ true
    take true number same = refl
    take false number same = grind (arith, nat_tests)

-- what a file means that is typed in full
resolves : (c : Catalogue) (request : Request) (atom w : List ℕ) (spec : Spec) (r : ReadAs atom spec) (directory : ℕ)
    (stored stored_kind name kind : List ℕ) (generation : ℕ) → IsRead request.kind
    → (request.flags.wild || not request.flags.all_generations) ≡ true → Means c request atom spec directory
    → Row c directory request.flags.deleted stored stored_kind generation → lower name ≡ lower stored → lower kind ≡ lower stored_kind
    → drop r.directory.next (atom ++ w) ≡ full name kind (number_of request.flags.all_generations generation)
    → Full name kind (number_of request.flags.all_generations generation)
    → resolve c request.kind request.flags (atom ++ w)
    (full_spec (device_read atom) r.directory name kind (meant_by request.flags.all_generations generation)) ≡ Ok directory
unfolding resolve
resolves c request atom w spec r directory stored stored_kind name kind generation read flags means row name_same kind_same text f =
    let whole = atom ++ w in
    let at = r.directory.next in
    let number = number_of request.flags.all_generations generation in
    let first : drop (at + length name) whole ≡ 46 ∷ (kind ++ 46 ∷ number) = drop_part whole at name (46 ∷ (kind ++ 46 ∷ number)) text in
    let inner : drop (at + length name + 1) whole ≡ kind ++ 46 ∷ number = drop_next whole (at + length name) 46 (kind ++ 46 ∷ number) first in
    let name_is = part_bytes whole at name (46 ∷ (kind ++ 46 ∷ number)) text in
    let kind_is = part_bytes whole (at + length name + 1) kind (46 ∷ number) inner in
    let same = directory_same c atom w (device_read atom).next r.directory r.directory_is in
    let outer = or_parts (has_wild atom spec.directory || (not request.flags.wild && (has_wild atom spec.name || has_wild atom spec.kind || is_all spec.generation))) (has_bad_copy request.kind atom spec) means.tame in
    let front = or_parts (has_wild atom spec.directory) (not request.flags.wild && (has_wild atom spec.name || has_wild atom spec.kind || is_all spec.generation)) outer.0 in
    let directory_tame : has_wild whole r.directory.part ≡ false = same.wild ∙ ap (has_wild atom) (sym r.spec_directory) ∙ front.0 in
    let name_tame = none_of_all is_name is_wild no_wild_name name f.names in
    let kind_tame = none_of_all is_name is_wild no_wild_name kind f.kinds in
    let generation_tame = tame_generation request.flags.all_generations request.flags.wild generation flags in
    let device_is : by_device c whole (device_read atom).part ≡ Ok means.device =
    by_device_more c atom w ∙ ap (by_device c atom) (sym r.spec_device) ∙ means.device_is in
    let directory_is : by_directory c whole r.directory.part means.device ≡ Ok directory =
    same.named means.device ∙ ap (λ (place : Option Span). by_directory c atom place means.device) (sym r.spec_directory) ∙ means.directory_is in
    let wanted : Wanted = record { name = Some name; kind = kind; generation = meant_by request.flags.all_generations generation; all_generations = request.flags.all_generations; deleted = request.flags.deleted } in
    let passes = seen_row c directory request.flags stored stored_kind name kind generation row name_same kind_same in
    let selected : selects wanted (rows_of c directory) ≡ true =
    sym (any_may_pass wanted (rows_of c directory)) ∙ row.any (may_pass wanted) passes in
    let there = found_of request.kind (selects wanted (rows_of c directory)) selected read in
    let good = good_generation request.kind request.flags.all_generations generation read in
    let copy = good_copy request.kind whole (full_spec (device_read atom) r.directory name kind (meant_by request.flags.all_generations generation)) read in
    rw (good, copy, directory_tame, name_is, kind_is, name_tame, kind_tame, generation_tame, device_is, directory_is, there) refl

-- the three steps of a completion differ only in what is put in
generation_taken : (c : Catalogue) → IsCatalogue c → (request : Request) (atom w more : List ℕ) (at : ℕ) (spec : Spec) (directory : ℕ)
    (stored stored_kind name kind : List ℕ) (generation : ℕ) → IsRead request.kind
    → (request.flags.wild || not request.flags.all_generations) ≡ true → (r : ReadAs atom spec) → Means c request atom spec directory
    → highest (rows_of c directory) request.flags.deleted stored stored_kind ≡ Some generation
    → lower name ≡ lower stored → lower kind ≡ lower stored_kind → list_all is_file atom ≡ true
    → drop r.directory.next atom ++ w ≡ full name kind (number_of request.flags.all_generations generation)
    → TakesNamed (file c request.kind request.flags) atom w more at
unfolding file_of
generation_taken c is_catalogue request atom w more at spec directory stored stored_kind name kind generation read flags r means found name_same kind_same files cut =
    let row = highest_row c is_catalogue directory request.flags.deleted stored stored_kind generation found in
    let number = number_of request.flags.all_generations generation in
    let name_is : lower name ≡ lower row.row.name = name_same ∙ sym row.name_same in
    let kind_is : lower kind ≡ lower row.row.kind = kind_same ∙ sym row.kind_same in
    let name_size = length_same name row.row.name name_is in
    let kind_size = length_same kind row.row.kind kind_is in
    let some = row.form.some in
    let name_short = row.form.name_short in
    let kind_short = row.form.kind_short in
    let low = row.form.low in
    let most = row.form.most in
    let same = row.generation_same in
    let f : Full name kind number = record {
      some = omega arith;
      name_short = omega arith;
      kind_short = omega arith;
      names = names_same name row.row.name name_is row.form.names;
      kinds = names_same kind row.row.kind kind_is row.form.kinds;
      numbers = number_pattern request.flags.all_generations generation (omega arith);
    } in
    let paths = all_append_right is_path (drop r.directory.next atom) w
    (subst (λ (text : List ℕ). list_all is_path text ≡ true) (sym cut) (full_path name kind number f)) in
    let colons = none_of_all is_path (λ (byte : ℕ). byte == 58) no_colon_path w paths in
    let brackets = none_of_all is_path (λ (byte : ℕ). byte == 60) no_bracket_path w paths in
    let from = (name_of atom r.directory.next r.name r.name_is).from in
    let text : drop r.directory.next (atom ++ w) ≡ full name kind number = drop-append-le r.directory.next atom w from ∙ cut in
    let size = length-append atom w in
    let spec_is = read_full (atom ++ w) (device_read atom) r.directory name kind number (meant_by request.flags.all_generations generation)
    (device_more atom w colons) (directory_more atom w (device_read atom).next r.directory brackets r.directory_is) (omega arith)
    r.device_short r.directory_short text f (number_means request.flags.all_generations generation (omega arith) (omega arith)) in
    let directory_is = resolves c request atom w spec r directory stored stored_kind name kind generation read flags means row name_same kind_same text f in
    let decided : file_of c request.kind request.flags at (atom ++ w)
    ≡ Ok (values.File request.kind (moved_spec at (full_spec (device_read atom) r.directory name kind (meant_by request.flags.all_generations generation))) directory) =
    rw (spec_is, directory_is) refl in
    let taken = run_named is_file (file_of c request.kind request.flags at) atom w more at
    (values.File request.kind (moved_spec at (full_spec (device_read atom) r.directory name kind (meant_by request.flags.all_generations generation))) directory)
    (all_append is_file atom w files (all_weaker is_path is_file file_of_path w paths)) space_no_file decided tt in
    record { value = taken.value; seen = taken.seen; accepts = taken.accepts; own = taken.own }

-- joins of what is typed and what is put in
name_joins : (typed rest kind number : List ℕ)
    → typed ++ ((rest ++ 46 ∷ []) ++ (kind ++ 46 ∷ []) ++ number) ≡ (typed ++ rest) ++ 46 ∷ (kind ++ 46 ∷ number)
name_joins typed rest kind number = simp append_assoc

kind_joins : (name typed rest number : List ℕ)
    → (name ++ 46 ∷ typed) ++ ((rest ++ 46 ∷ []) ++ number) ≡ name ++ 46 ∷ ((typed ++ rest) ++ 46 ∷ number)
kind_joins name typed rest number = simp append_assoc

number_joins : (name kind number : List ℕ) → (name ++ 46 ∷ (kind ++ 46 ∷ [])) ++ number ≡ name ++ 46 ∷ (kind ++ 46 ∷ number)
number_joins name kind number = simp append_assoc

-- a name that is begun
name_taken : (c : Catalogue) → IsCatalogue c → (request : Request) (atom bytes more : List ℕ) (at after : ℕ) (spec : Spec) (directory : ℕ)
    → IsRead request.kind → (request.flags.wild || not request.flags.all_generations) ≡ true → (r : ReadAs atom spec)
    → Means c request atom spec directory → list_all is_file atom ≡ true → spec.kind ≡ None
    → Called request (rows_of c directory) (part_or_nothing atom spec.name) bytes after
    (found_names (rows_of c directory) request.flags.deleted (part_or_nothing atom spec.name))
    → TakesNamed (file c request.kind request.flags) atom bytes more at × (request.next ≡ after)
name_taken c is_catalogue request atom bytes more at after spec directory read flags r means files none called =
    let typed = part_or_nothing atom spec.name in
    let kinded = called.kinded in
    let numbered = kinded.numbered in
    let name = called.name in
    let kind = kinded.kind in
    let number = number_of request.flags.all_generations numbered.generation in
    let w = (missing name typed ++ 46 ∷ []) ++ (kind ++ 46 ∷ []) ++ number in
    let cut : drop r.directory.next atom ++ w ≡ full (typed ++ missing name typed) kind number =
    ap (λ (front : List ℕ). front ++ w) (cut_name atom spec r none) ∙ name_joins typed (missing name typed) kind number in (
      subst (λ (bytes : List ℕ). TakesNamed (file c request.kind request.flags) atom bytes more at) numbered.bytes_is
          (generation_taken c is_catalogue request atom w more at spec directory name kind (typed ++ missing name typed) kind numbered.generation
          read flags r means numbered.found_is (name_lower (rows_of c directory) request.flags.deleted typed name called.found_is) refl files cut),
      numbered.leads,
    )

-- a type that is begun
kind_taken : (c : Catalogue) → IsCatalogue c → (request : Request) (atom bytes more : List ℕ) (at after : ℕ) (spec : Spec) (directory : ℕ)
    → IsRead request.kind → (request.flags.wild || not request.flags.all_generations) ≡ true → (r : ReadAs atom spec)
    → Means c request atom spec directory → list_all is_file atom ≡ true → (place : Span) → spec.kind ≡ Some place
    → drop place.end atom ≡ []
    → Kinded request (rows_of c directory) [] (part_or_nothing atom spec.name) (part atom place) bytes after
    (found_kinds (rows_of c directory) request.flags.deleted (part_or_nothing atom spec.name) (part atom place))
    → TakesNamed (file c request.kind request.flags) atom bytes more at × (request.next ≡ after)
kind_taken c is_catalogue request atom bytes more at after spec directory read flags r means files place some ends kinded =
    let name = part_or_nothing atom spec.name in
    let typed = part atom place in
    let numbered = kinded.numbered in
    let kind = kinded.kind in
    let number = number_of request.flags.all_generations numbered.generation in
    let w = (missing kind typed ++ 46 ∷ []) ++ number in
    let front : drop r.directory.next atom ≡ name ++ 46 ∷ typed =
    cut_kind atom spec r place some ∙ ap (λ (rest : List ℕ). name ++ 46 ∷ (typed ++ rest)) ends
    ∙ ap (λ (text : List ℕ). name ++ 46 ∷ text) (append-nil typed) in
    let cut : drop r.directory.next atom ++ w ≡ full name (typed ++ missing kind typed) number =
    ap (λ (front : List ℕ). front ++ w) front ∙ kind_joins name typed (missing kind typed) number in (
      subst (λ (bytes : List ℕ). TakesNamed (file c request.kind request.flags) atom bytes more at) numbered.bytes_is
          (generation_taken c is_catalogue request atom w more at spec directory name kind name (typed ++ missing kind typed) numbered.generation
          read flags r means numbered.found_is refl (kind_lower (rows_of c directory) request.flags.deleted name typed kind kinded.found_is) files cut),
      numbered.leads,
    )

-- a generation that is to come
number_taken : (c : Catalogue) → IsCatalogue c → (request : Request) (atom bytes more : List ℕ) (at after : ℕ) (spec : Spec) (directory : ℕ)
    → IsRead request.kind → (request.flags.wild || not request.flags.all_generations) ≡ true → (r : ReadAs atom spec)
    → Means c request atom spec directory → list_all is_file atom ≡ true → (place : Span) → spec.kind ≡ Some place
    → drop place.end atom ≡ 46 ∷ []
    → Numbered request [] bytes after
    (highest (rows_of c directory) request.flags.deleted (part_or_nothing atom spec.name) (part atom place))
    → TakesNamed (file c request.kind request.flags) atom bytes more at × (request.next ≡ after)
number_taken c is_catalogue request atom bytes more at after spec directory read flags r means files place some ends numbered =
    let name = part_or_nothing atom spec.name in
    let kind = part atom place in
    let number = number_of request.flags.all_generations numbered.generation in
    let front : drop r.directory.next atom ≡ name ++ 46 ∷ (kind ++ 46 ∷ []) =
    cut_kind atom spec r place some ∙ ap (λ (rest : List ℕ). name ++ 46 ∷ (kind ++ rest)) ends in
    let cut : drop r.directory.next atom ++ number ≡ full name kind number =
    ap (λ (front : List ℕ). front ++ number) front ∙ number_joins name kind number in (
      subst (λ (bytes : List ℕ). TakesNamed (file c request.kind request.flags) atom bytes more at) numbered.bytes_is
          (generation_taken c is_catalogue request atom number more at spec directory name kind name kind numbered.generation
          read flags r means numbered.found_is refl refl files cut),
      numbered.leads,
    )

pub file_sound : (c : Catalogue) → IsCatalogue c → (request : Request) (atom bytes more : List ℕ) (at after : ℕ) → IsRead request.kind
    → (request.flags.wild || not request.flags.all_generations) ≡ true → file c request.kind request.flags atom at ≡ More
    → file_outcome c request atom (plain_outcome request.next (file c request.kind request.flags (atom ++ 32 ∷ []) at)) ≡ Whole bytes after
    → TakesNamed (file c request.kind request.flags) atom bytes more at × (request.next ≡ after)
unfolding file_outcome
file_sound c is_catalogue request atom bytes more at after read flags wants is = by_wild (list_any is_wild atom) is
  where
    plain : Outcome
    plain = plain_outcome request.next (file c request.kind request.flags (atom ++ 32 ∷ []) at)

    by_plain : plain ≡ Whole bytes after → TakesNamed (file c request.kind request.flags) atom bytes more at × (request.next ≡ after)
    by_plain is =
        plain_named (file c request.kind request.flags) (file_is_local c request.kind request.flags) atom bytes more at request.next after
        (file_ends c request.kind request.flags atom at wants) is

    files : list_all is_file atom ≡ true
    files = all_of_prefix_len is_file atom (run_wants is_file (file_of c request.kind request.flags at) atom at wants)

    by_number : (spec : Spec) (directory : ℕ) → ReadAs atom spec → Means c request atom spec directory → (place : Span) → spec.kind ≡ Some place
        → drop place.end atom ≡ 46 ∷ []
        → (plain ≡ Whole bytes after) ⊎ Numbered request [] bytes after (highest (rows_of c directory) request.flags.deleted (part_or_nothing atom spec.name) (part atom place))
        → TakesNamed (file c request.kind request.flags) atom bytes more at × (request.next ≡ after)
    by_number spec directory r means place some ends (inl same) = by_plain same
    by_number spec directory r means place some ends (inr numbered) =
        number_taken c is_catalogue request atom bytes more at after spec directory read flags r means files place some ends numbered

    by_end : (spec : Spec) (directory : ℕ) → ReadAs atom spec → Means c request atom spec directory → (place : Span) → spec.kind ≡ Some place
        → (all : Bool) → (place.end == length atom) ≡ all → (but_one : Bool) → (place.end + 1 == length atom) ≡ but_one
        → (if all then kind_step request (rows_of c directory) [] (part_or_nothing atom spec.name) (part atom place)
        (found_kinds (rows_of c directory) request.flags.deleted (part_or_nothing atom spec.name) (part atom place))
        else (if but_one then generation_step request [] plain (highest (rows_of c directory) request.flags.deleted (part_or_nothing atom spec.name) (part atom place)) else plain))
        ≡ Whole bytes after
        → TakesNamed (file c request.kind request.flags) atom bytes more at × (request.next ≡ after)
    by_end spec directory r means place some true ends but_one last is =
        kind_taken c is_catalogue request atom bytes more at after spec directory read flags r means files place some
        (drop_all place.end atom (grind (arith, nat_tests)))
        (kinded_of request (rows_of c directory) [] (part_or_nothing atom spec.name) (part atom place) bytes after
        (found_kinds (rows_of c directory) request.flags.deleted (part_or_nothing atom spec.name) (part atom place)) is)
    by_end spec directory r means place some false ends true last is =
        by_number spec directory r means place some (cut_point atom spec r place some (grind (arith, nat_tests)))
        (numbered_of request [] bytes after plain (highest (rows_of c directory) request.flags.deleted (part_or_nothing atom spec.name) (part atom place)) is)
    by_end spec directory r means place some false ends false last is = by_plain is

    by_kinds : (spec : Spec) (directory : ℕ) → ReadAs atom spec → Means c request atom spec directory → (kind : Option Span) → spec.kind ≡ kind
        → by_kind request (rows_of c directory) atom (part_or_nothing atom spec.name) plain kind ≡ Whole bytes after
        → TakesNamed (file c request.kind request.flags) atom bytes more at × (request.next ≡ after)
    by_kinds spec directory r means None none is =
        name_taken c is_catalogue request atom bytes more at after spec directory read flags r means files none
        (called_of request (rows_of c directory) (part_or_nothing atom spec.name) bytes after
        (found_names (rows_of c directory) request.flags.deleted (part_or_nothing atom spec.name)) is)
    by_kinds spec directory r means (Some place) some is =
        by_end spec directory r means place some (place.end == length atom) refl (place.end + 1 == length atom) refl is

    by_directories : (spec : Spec) → read_spec atom ≡ Ok spec → (answer : Result ℕ Code) → meant c request atom spec ≡ answer
        → completion_in_directory c request atom plain spec answer ≡ Whole bytes after
        → TakesNamed (file c request.kind request.flags) atom bytes more at × (request.next ≡ after)
    by_directories spec reads (Err code) means is = cc
    by_directories spec reads (Ok directory) means is =
        by_kinds spec directory (read_of atom spec reads) (means_of c request atom spec directory means) spec.kind refl is

    by_read : (answer : Result Spec SpecFault) → read_spec atom ≡ answer → by_spec c request atom plain answer ≡ Whole bytes after
        → TakesNamed (file c request.kind request.flags) atom bytes more at × (request.next ≡ after)
    by_read (Err fault) reads is = cc
    by_read (Ok spec) reads is = by_directories spec reads (meant c request atom spec) refl is

    by_typed : (typed : Option (List ℕ)) → prefix_completion c request atom plain typed ≡ Whole bytes after
        → TakesNamed (file c request.kind request.flags) atom bytes more at × (request.next ≡ after)
    by_typed None is = by_read (read_spec atom) refl is
    by_typed (Some typed) is = absurd (piece_never (named_directory c request.next typed) bytes after is)

    by_wild : (wild : Bool) → (if wild then Nothing else prefix_completion c request atom plain (opened atom)) ≡ Whole bytes after
        → TakesNamed (file c request.kind request.flags) atom bytes more at × (request.next ≡ after)
    by_wild true is = cc
    by_wild false is = by_typed (opened atom) is
