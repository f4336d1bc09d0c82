-- Logical names as the entries of a map, in upper case: what a text in any case finds there.
use Rattle.std.proofs.Common.{◌≡◌, ℕ, zero, suc, ◌<◌, ◌≤◌, Bool, true, false, not, ◌&&◌, cond, List, [], ◌∷◌, ◌++◌, length, map, filter, find, slice_index, Some, None, is_some, refl, ap, arith, sym, ◌∙◌}
use Rattle.std.specs.Char.{is_ascii_lowercase, to_ascii_lowercase, to_ascii_uppercase}
use Rattle.std.specs.Cmp as cmp
use Rattle.std.specs.Cmp.Lexicographic.{nat_list_eq_equiv}
use Rattle.std.specs.List.{list_all}
use Rattle.std.specs.Map.{lookup, remove_entry}
use Rattle.std.specs.Option.{option_map}
use Rattle.std.specs.Str.{IsAscii, bytes_eq}
use Rattle.std.proofs.lemmas.Bool.{and_from, and_parts, leb-true}
use Rattle.std.proofs.lemmas.Bool.Decides.{nat_tests}
use Rattle.std.proofs.lemmas.List.{length-map, map-append}
use Rattle.std.proofs.lemmas.Slice.Eq.{bytes_eq-Decides}
use Rattle.cm_lists.proofs.Ascents.{all_above, is_sorted}
use Rattle.cm_lists.proofs.Ascii.{lowercase-up, up, up-lowercase}
use Rattle.cm_lists.proofs.Positions.{find_any}
use Rattle.cm_text.specs.Bytes.{is_name, is_word}
use Rattle.cm_text.specs.Case.{equals}
use Rattle.cm_text.specs.declared.name.TheConstants.{NAME_LIMIT}
use Rattle.cm_lists.specs.Ascent.{ascends, insertion}
use Rattle.cm_files.specs.Catalogue.{is_upper_name}
use Rattle.ex_store.specs.declared.directory.Definition.{Definition}
use Rattle.ex_store.specs.Defining.{by_definition, redirection, with_definition}
use Rattle.ex_store.specs.Entries.{definition_entry, definitions_of, directory_for, is_kept, is_kept_name}
use Rattle.ex_store.specs.State.{has_definition}
use Rattle.cm_lists.proofs.Ascents.{ascends_map, sorted_ascends}
use Rattle.ex_store.proofs.DefinedLaws.{redirected_name}
use Rattle.ex_store.proofs.EntriesLaws.{made_map}
use Rattle.cm_lists.proofs.Insertions.{inserted_all}
use Rattle.ex_store.proofs.SortedEntriesLaws.{added_is_new, apart_back, by_key, by_key_total, entries_with}

up_byte : (byte : ℕ) → (is_name byte && not (is_ascii_lowercase byte)) ≡ true → to_ascii_uppercase byte ≡ byte
unfolding is_name is_word
up_byte byte is = grind (arith, nat_tests)

-- a name in upper case is its own upper case
up_itself : (name : List ℕ) → is_upper_name name ≡ true → up name ≡ name
up_itself [] is = refl
up_itself (byte ∷ name) is =
    let parts = and_parts _ _ is in
    rw (up_byte byte parts.0, up_itself name parts.1) refl

-- and equal to what has that upper case
pub upper_equals : (name text : List ℕ) → is_upper_name name ≡ true → equals name text ≡ bytes_eq name (up text)
unfolding equals
upper_equals name text is =
    cmp.both_ways (bytes_eq (map to_ascii_lowercase name) (map to_ascii_lowercase text)) (bytes_eq name (up text))
    (λ same. (bytes_eq-Decides name (up text)).1
    (sym (up_itself name is) ∙ sym (up-lowercase name)
    ∙ (ap up ((bytes_eq-Decides (map to_ascii_lowercase name) (map to_ascii_lowercase text)).0 same) ∙ up-lowercase text)))
    (λ same. (bytes_eq-Decides (map to_ascii_lowercase name) (map to_ascii_lowercase text)).1
    (ap (map to_ascii_lowercase) ((bytes_eq-Decides name (up text)).0 same) ∙ lowercase-up text))

-- no text that is too long, or no ASCII, is equal to a name that is kept
lower_ascii : (byte other : ℕ) → is_name byte ≡ true → to_ascii_lowercase byte ≡ to_ascii_lowercase other → other < 128
unfolding is_name is_word
lower_ascii byte other is same = grind (arith, nat_tests)

ascii_alike : (name text : List ℕ) → is_upper_name name ≡ true → map to_ascii_lowercase name ≡ map to_ascii_lowercase text
    → IsAscii text
ascii_alike name [] is same = λ i. omega arith
ascii_alike [] (other ∷ text) is same = absurd (cc)
ascii_alike (byte ∷ name) (other ∷ text) is same =
    let parts = and_parts (is_name byte && not (is_ascii_lowercase byte)) (is_upper_name name) is in
    let heads : to_ascii_lowercase byte ≡ to_ascii_lowercase other = cc in
    let tails : map to_ascii_lowercase name ≡ map to_ascii_lowercase text = cc in
    let named : is_name byte ≡ true = (and_parts (is_name byte) (not (is_ascii_lowercase byte)) parts.0).0 in
    λ i. at i (lower_ascii byte other named heads) (ascii_alike name text parts.1 tails)
  where
    at : (i : ℕ) → other < 128 → IsAscii text → slice_index (other ∷ text) i < 128
    at zero first rest = first
    at (suc i) first rest = rest i

alike : (name text : List ℕ) → equals name text ≡ true → map to_ascii_lowercase name ≡ map to_ascii_lowercase text
unfolding equals
alike name text same = (bytes_eq-Decides (map to_ascii_lowercase name) (map to_ascii_lowercase text)).0 same

pub none_as_long : (text : List ℕ) → NAME_LIMIT < length text → (name : List ℕ) → is_kept_name name ≡ true
    → equals name text ≡ false
none_as_long text long name is = by (equals name text) refl
  where
    by : (same : Bool) → equals name text ≡ same → equals name text ≡ false
    by true same =
        let short = leb-true (length name) NAME_LIMIT (and_parts _ _ is).0 in
        let sizes : length name ≡ length text =
        sym (length-map name to_ascii_lowercase) ∙ ap length (alike name text same) ∙ length-map text to_ascii_lowercase in
        absurd (omega arith)
    by false same = same

pub none_beyond : (text : List ℕ) (i : ℕ) → 128 ≤ slice_index text i → (name : List ℕ) → is_kept_name name ≡ true
    → equals name text ≡ false
none_beyond text i beyond name is = by (equals name text) refl
  where
    by : (same : Bool) → equals name text ≡ same → equals name text ≡ false
    by true same =
        let ascii : slice_index text i < 128 = ascii_alike name text (and_parts _ _ is).1 (alike name text same) i in
        absurd (omega arith)
    by false same = same

-- what a text finds among the entries
equals_entry : (name text : List ℕ) → is_kept_name name ≡ true → equals name text ≡ bytes_eq (up text) name
equals_entry name text is = upper_equals name text (and_parts _ _ is).1 ∙ nat_list_eq_equiv.symm name (up text)

pub find_none : (text : List ℕ) (logical : List Definition) → list_all is_kept logical ≡ true
    → ((name : List ℕ) → is_kept_name name ≡ true → equals name text ≡ false)
    → directory_for text logical ≡ None
find_none text [] kept none = refl
find_none text (entry ∷ logical) kept none =
    let parts = and_parts _ _ kept in
    rw (none entry.name parts.0) (find_none text logical parts.1 none)

pub find_entry : (text : List ℕ) (entries : List (List ℕ × List ℕ)) → list_all is_kept (definitions_of entries) ≡ true
    → lookup (bytes_eq (up text)) entries ≡ directory_for text (definitions_of entries)
find_entry text [] kept = refl
find_entry text (entry ∷ entries) kept =
    let parts = and_parts _ _ kept in
    rw (equals_entry entry.0 text parts.0) (by (bytes_eq (up text) entry.0) (find_entry text entries parts.1))
  where
    by : (is : Bool)
        → lookup (bytes_eq (up text)) entries ≡ directory_for text (definitions_of entries)
        → cond is (Some entry.1) (lookup (bytes_eq (up text)) entries)
        ≡ option_map (λ (entry : Definition). entry.directory) (cond is (Some (definition_entry entry)) (find (λ entry. equals entry.name text) (definitions_of entries)))
    by true rest = refl
    by false rest = rest

pub has_found : (text : List ℕ) (logical : List Definition) → is_some (directory_for text logical) ≡ has_definition text logical
has_found text logical = find_any (λ (entry : Definition). entry.directory) (λ entry. equals entry.name text) logical

-- what is added at the end
pub definitions_ascend : (entries : List (List ℕ × List ℕ)) → ascends by_definition (definitions_of entries) ≡ true
    → ascends by_key entries ≡ true
definitions_ascend entries ascend =
    sym (ascends_map by_definition by_key definition_entry (λ entry other. refl) entries) ∙ ascend

pub definition_is_new : (entries : List (List ℕ × List ℕ)) (new : Definition)
    → ascends by_definition (definitions_of entries ++ new ∷ []) ≡ true → lookup (bytes_eq new.name) entries ≡ None
definition_is_new entries new ascend =
    added_is_new new.name new.directory entries
    (definitions_ascend (entries ++ (new.name, new.directory) ∷ [])
    (ap (ascends by_definition) (map-append definition_entry entries ((new.name, new.directory) ∷ [])) ∙ ascend))

-- what is defined
kept_entries : (entries : List (List ℕ × List ℕ)) → list_all is_kept (definitions_of entries) ≡ true
    → list_all (λ entry. is_kept_name entry.0) entries ≡ true
kept_entries [] kept = refl
kept_entries (entry ∷ entries) kept =
    let parts = and_parts _ _ kept in
    and_from _ _ parts.0 (kept_entries entries parts.1)

pub definition_made : (new : Definition) (entries : List (List ℕ × List ℕ)) → is_kept new ≡ true
    → list_all is_kept (definitions_of entries) ≡ true
    → definitions_of (entries_with new.name new.directory entries) ≡ with_definition new (definitions_of entries)
definition_made new entries is kept =
    made_map definition_entry by_definition (λ (entry : Definition). equals entry.name new.name)
    (λ (entry : Definition). record entry { directory = new.directory }) new.name new.directory (λ entry. is_kept_name entry.0)
    (λ entry other. refl)
    (λ entry all. upper_equals entry.0 new.name (and_parts _ _ all).1 ∙ ap (bytes_eq entry.0) (up_itself new.name (and_parts _ _ is).1))
    (λ entry. refl) entries (kept_entries entries kept)

redirected_kept : (new : Definition) (logical : List Definition) → list_all is_kept logical ≡ true
    → list_all is_kept (map (redirection new) logical) ≡ true
redirected_kept new [] kept = refl
redirected_kept new (entry ∷ logical) kept =
    let parts = and_parts _ _ kept in
    and_from _ _ (ap is_kept_name (redirected_name new entry) ∙ parts.0) (redirected_kept new logical parts.1)

pub with_definition_kept : (new : Definition) (logical : List Definition) → is_kept new ≡ true → list_all is_kept logical ≡ true
    → list_all is_kept (with_definition new logical) ≡ true
with_definition_kept new logical is kept = by (has_definition new.name logical)
  where
    by : (there : Bool) → list_all is_kept (cond there (map (redirection new) logical) (insertion by_definition new logical)) ≡ true
    by true = redirected_kept new logical kept
    by false = inserted_all by_definition is_kept new logical is kept

-- what is taken away
none_removed : (text : List ℕ) (entry : List ℕ × List ℕ) (more : List (List ℕ × List ℕ)) → bytes_eq (up text) entry.0 ≡ true
    → all_above by_key entry more ≡ true → list_all is_kept (definitions_of more) ≡ true
    → filter (λ other. not (equals other.name text)) (definitions_of more) ≡ definitions_of more
none_removed text entry [] is above kept = refl
none_removed text entry (other ∷ more) is above kept =
    let parts = and_parts _ _ kept in
    let over = and_parts _ _ above in
    let same : up text ≡ entry.0 = (bytes_eq-Decides (up text) entry.0).0 is in
    let differs : equals other.0 text ≡ false =
    upper_equals other.0 text (and_parts _ _ parts.0).1 ∙ ap (bytes_eq other.0) same ∙ apart_back entry.0 other.0 over.0 in
    rw differs (ap (λ (rest : List Definition). definition_entry other ∷ rest) (none_removed text entry more is over.1 parts.1))

removed_sorted : (text : List ℕ) (entries : List (List ℕ × List ℕ)) → is_sorted by_key entries ≡ true
    → list_all is_kept (definitions_of entries) ≡ true
    → definitions_of (remove_entry (bytes_eq (up text)) entries)
    ≡ filter (λ entry. not (equals entry.name text)) (definitions_of entries)
removed_sorted text [] sorted kept = refl
removed_sorted text (entry ∷ entries) sorted kept =
    rw (equals_entry entry.0 text parts.0) (by (bytes_eq (up text) entry.0) refl (removed_sorted text entries over.1 parts.1))
  where
    parts : (is_kept (definition_entry entry) ≡ true) × (list_all is_kept (definitions_of entries) ≡ true)
    parts = and_parts _ _ kept

    over : (all_above by_key entry entries ≡ true) × (is_sorted by_key entries ≡ true)
    over = and_parts _ _ sorted

    by : (is : Bool) → bytes_eq (up text) entry.0 ≡ is
        → definitions_of (remove_entry (bytes_eq (up text)) entries)
        ≡ filter (λ entry. not (equals entry.name text)) (definitions_of entries)
        → definitions_of (cond is entries (entry ∷ remove_entry (bytes_eq (up text)) entries))
        ≡ cond (not is) (definition_entry entry ∷ filter (λ entry. not (equals entry.name text)) (definitions_of entries))
        (filter (λ entry. not (equals entry.name text)) (definitions_of entries))
    by true is rest = sym (none_removed text entry entries is over.0 parts.1)
    by false is rest = ap (λ (more : List Definition). definition_entry entry ∷ more) rest

pub removed : (text : List ℕ) (entries : List (List ℕ × List ℕ)) → ascends by_definition (definitions_of entries) ≡ true
    → list_all is_kept (definitions_of entries) ≡ true
    → definitions_of (remove_entry (bytes_eq (up text)) entries)
    ≡ filter (λ entry. not (equals entry.name text)) (definitions_of entries)
removed text entries ascend kept =
    removed_sorted text entries (sorted_ascends by_key by_key_total entries (definitions_ascend entries ascend)) kept

pub nothing_removed : (text : List ℕ) (logical : List Definition) → list_all is_kept logical ≡ true
    → ((name : List ℕ) → is_kept_name name ≡ true → equals name text ≡ false)
    → filter (λ entry. not (equals entry.name text)) logical ≡ logical
nothing_removed text [] kept none = refl
nothing_removed text (entry ∷ logical) kept none =
    let parts = and_parts _ _ kept in
    rw (none entry.name parts.0) (ap (λ (more : List Definition). entry ∷ more) (nothing_removed text logical parts.1 none))

pub none_has : (text : List ℕ) (logical : List Definition) → list_all is_kept logical ≡ true
    → ((name : List ℕ) → is_kept_name name ≡ true → equals name text ≡ false) → has_definition text logical ≡ false
none_has text logical kept none = sym (has_found text logical) ∙ ap is_some (find_none text logical kept none)
