-- Directories and logical names as the entries of maps.
-- The map is made of its entries by made_map. The map's test has the name first, the definitions have the key:
-- lookup_turned and position_turned of cm_lists. That a name has at most 39 bytes is a call of as_str.
use Rattle.std.proofs.Common.{◌≡◌, ℕ, ◌+◌, ◌<◌, Bool, true, false, not, ◌||◌, cond, nat_lt, List, [], ◌∷◌, ◌++◌, length, map, find, position, Some, None, is_some, unwrap_or, refl, ap, arith, sym, ◌∙◌}
use Rattle.std.specs.List.{list_all, list_any, position_or_len}
use Rattle.std.specs.Map.{keys_of, lookup}
use Rattle.std.specs.Option.{option_map}
use Rattle.std.specs.Ordering.{is_lt}
use Rattle.std.specs.Str.{bytes_eq}
use Rattle.std.specs.declared.cmp.Ordering.{Ordering}
use Rattle.std.proofs.lemmas.Bool.{and_from, and_parts, leb-true, or_parts}
use Rattle.std.proofs.lemmas.Slice.Eq.{bytes_eq-Decides}
use Rattle.cm_text.specs.declared.name.TheConstants.{NAME_LIMIT}
use Rattle.std.proofs.lemmas.List.{map-append}
use Rattle.cm_lists.proofs.Quantifiers.{all_true}
use Rattle.cm_lists.specs.Ascent.{ascends, insertion}
use Rattle.indexmap.proofs.MapLemmas.{some_index}
use Rattle.ex_store.specs.declared.directory.Directory.{Directory}
use Rattle.ex_store.specs.Building.{by_directory, with_directory}
use Rattle.ex_store.specs.Entries.{directories_of, directory_entry, is_short}
use Rattle.ex_store.specs.State.{has_directory, is_named, number_of}
use Rattle.cm_lists.proofs.Ascents.{ascends_map}
use Rattle.cm_lists.proofs.Insertions.{inserted_all}
use Rattle.ex_store.proofs.SortedEntriesLaws.{added_is_new, by_key, entries_with, put}

-- entries ascend as what they stand for
pub directories_ascend : (entries : List (List ℕ × ℕ)) → ascends by_directory (directories_of entries) ≡ true
    → ascends by_key entries ≡ true
directories_ascend entries ascend =
    sym (ascends_map by_directory by_key directory_entry (λ entry other. refl) entries) ∙ ascend

-- a directory that is added at the end is under a new name
pub directory_is_new : (entries : List (List ℕ × ℕ)) (new : Directory)
    → ascends by_directory (directories_of entries ++ new ∷ []) ≡ true → lookup (bytes_eq new.name) entries ≡ None
directory_is_new entries new ascend =
    added_is_new new.name new.retention entries
    (directories_ascend (entries ++ (new.name, new.retention) ∷ [])
    (ap (ascends by_directory) (map-append directory_entry entries ((new.name, new.retention) ∷ [])) ∙ ascend))

-- what is made of entries, seen through what they stand for: a test of names, and the change of one that passes
module _ {V X : Type 0} (f : List ℕ × V → X) (compare : X → X → Ordering) (test : X → Bool) (changed : X → X)
    (name : List ℕ) (value : V) (ok : List ℕ × V → Bool)
    (order : (entry other : List ℕ × V) → compare (f entry) (f other) ≡ by_key entry other)
    (tests : (entry : List ℕ × V) → ok entry ≡ true → test (f entry) ≡ bytes_eq entry.0 name)
    (changes : (entry : List ℕ × V) → changed (f entry) ≡ f (entry.0, value)) where
  any_map : (entries : List (List ℕ × V)) → list_all ok entries ≡ true
      → list_any test (map f entries) ≡ list_any (λ entry. bytes_eq entry.0 name) entries
  any_map [] all = refl
  any_map (entry ∷ entries) all =
      let parts = and_parts _ _ all in
      rw (tests entry parts.0, any_map entries parts.1) refl

  put_map : (entries : List (List ℕ × V)) → list_all ok entries ≡ true
      → map (λ x. cond (test x) (changed x) x) (map f entries) ≡ map f (map (put name value) entries)
  put_map [] all = refl
  put_map (entry ∷ entries) all =
      let parts = and_parts _ _ all in
      rw (tests entry parts.0, put_map entries parts.1, changes entry)
      (ap (λ (x : X). x ∷ map f (map (put name value) entries)) (by (bytes_eq entry.0 name)))
    where
      by : (is : Bool) → cond is (f (entry.0, value)) (f entry) ≡ f (cond is (entry.0, value) entry)
      by true = refl
      by false = refl

  insertion_map : (entries : List (List ℕ × V))
      → insertion compare (f (name, value)) (map f entries) ≡ map f (insertion by_key (name, value) entries)
  insertion_map [] = refl
  insertion_map (entry ∷ entries) =
      rw (order entry (name, value)) (by (is_lt (by_key entry (name, value))) (insertion_map entries))
    where
      by : (below : Bool) → insertion compare (f (name, value)) (map f entries) ≡ map f (insertion by_key (name, value) entries)
          → cond below (f entry ∷ insertion compare (f (name, value)) (map f entries)) (f (name, value) ∷ f entry ∷ map f entries)
          ≡ map f (cond below (entry ∷ insertion by_key (name, value) entries) ((name, value) ∷ entry ∷ entries))
      by true rest = ap (λ (more : List X). f entry ∷ more) rest
      by false rest = refl

  pub made_map : (entries : List (List ℕ × V)) → list_all ok entries ≡ true
      → map f (entries_with name value entries)
      ≡ cond (list_any test (map f entries)) (map (λ x. cond (test x) (changed x) x) (map f entries))
      (insertion compare (f (name, value)) (map f entries))
  made_map entries all =
      rw (any_map entries all, put_map entries all, insertion_map entries) (by (list_any (λ entry. bytes_eq entry.0 name) entries))
    where
      by : (there : Bool) → map f (cond there (map (put name value) entries) (insertion by_key (name, value) entries))
          ≡ cond there (map f (map (put name value) entries)) (map f (insertion by_key (name, value) entries))
      by true = refl
      by false = refl

-- a directory that is made, among the entries
pub directory_made : (new : Directory) (entries : List (List ℕ × ℕ))
    → directories_of (entries_with new.name new.retention entries) ≡ with_directory new (directories_of entries)
directory_made new entries =
    made_map directory_entry by_directory (is_named new.name) (λ (other : Directory). record other { retention = new.retention })
    new.name new.retention (λ _. true) (λ entry other. refl) (λ entry all. refl) (λ entry. refl) entries (all_true entries)

-- directories looked up among the entries
pub has_entry : (name : List ℕ) (entries : List (List ℕ × ℕ))
    → is_some (lookup (λ other. bytes_eq other name) entries) ≡ has_directory name (directories_of entries)
has_entry name [] = refl
has_entry name (entry ∷ entries) = by (bytes_eq entry.0 name) (has_entry name entries)
  where
    by : (is : Bool) → is_some (lookup (λ other. bytes_eq other name) entries) ≡ has_directory name (directories_of entries)
        → is_some (cond is (Some entry.1) (lookup (λ other. bytes_eq other name) entries)) ≡ (is || has_directory name (directories_of entries))
    by true rest = refl
    by false rest = rest

pub retention_entry : (name : List ℕ) (entries : List (List ℕ × ℕ))
    → lookup (λ other. bytes_eq other name) entries
    ≡ option_map (λ (directory : Directory). directory.retention) (find (is_named name) (directories_of entries))
retention_entry name [] = refl
retention_entry name (entry ∷ entries) = by (bytes_eq entry.0 name) (retention_entry name entries)
  where
    by : (is : Bool)
        → lookup (λ other. bytes_eq other name) entries
        ≡ option_map (λ (directory : Directory). directory.retention) (find (is_named name) (directories_of entries))
        → cond is (Some entry.1) (lookup (λ other. bytes_eq other name) entries)
        ≡ option_map (λ (directory : Directory). directory.retention) (cond is (Some (directory_entry entry)) (find (is_named name) (directories_of entries)))
    by true rest = refl
    by false rest = rest

place_entry : (name : List ℕ) (entries : List (List ℕ × ℕ))
    → position_or_len (λ other. bytes_eq other name) (keys_of entries) ≡ number_of name (directories_of entries)
place_entry name [] = refl
place_entry name (entry ∷ entries) =
    ap (λ (n : ℕ). cond (not (bytes_eq entry.0 name)) (1 + n) 0) (place_entry name entries)

pub find_entry : (name : List ℕ) (entries : List (List ℕ × ℕ))
    → position (λ other. bytes_eq other name) (keys_of entries)
    ≡ cond (has_directory name (directories_of entries)) (Some (number_of name (directories_of entries))) None
find_entry name entries =
    let place = position_or_len (λ other. bytes_eq other name) (keys_of entries) in
    let there : nat_lt place (length (keys_of entries)) ≡ has_directory name (directories_of entries) =
    told (nat_lt place (length (keys_of entries))) place ∙ (some_index (λ other. bytes_eq other name) entries ∙ has_entry name entries) in
    ap (λ (is : Bool). cond is (Some place) None) there
    ∙ ap (λ (n : ℕ). cond (has_directory name (directories_of entries)) (Some n) None) (place_entry name entries)
  where
    told : (is : Bool) (place : ℕ) → is ≡ is_some (cond is (Some place) None)
    told true place = refl
    told false place = refl

-- the number of a directory that is not there is that of all
number_absent : (name : List ℕ) (directories : List Directory) → has_directory name directories ≡ false
    → number_of name directories ≡ length directories
number_absent name [] none = refl
number_absent name (other ∷ more) none =
    let parts = or_parts (is_named name other) (has_directory name more) none in
    rw (parts.0, number_absent name more parts.1) (omega arith)

pub number_or_all : (name : List ℕ) (directories : List Directory)
    → unwrap_or (cond (has_directory name directories) (Some (number_of name directories)) None) (length directories)
    ≡ number_of name directories
number_or_all name directories = by (has_directory name directories) refl
  where
    by : (there : Bool) → has_directory name directories ≡ there
        → unwrap_or (cond there (Some (number_of name directories)) None) (length directories) ≡ number_of name directories
    by true is = refl
    by false is = sym (number_absent name directories is)

-- no directory has a name that is too long
long_apart : (name : List ℕ) (other : Directory) → NAME_LIMIT < length name → is_short other ≡ true → is_named name other ≡ false
long_apart name other long short = by (is_named name other) refl
  where
    by : (same : Bool) → is_named name other ≡ same → is_named name other ≡ false
    by true same =
        let sizes : length other.name ≡ length name = ap length ((bytes_eq-Decides other.name name).0 same) in
        absurd (omega (arith, sizes, leb-true (length other.name) NAME_LIMIT short, long))
    by false same = same

pub has_long : (name : List ℕ) (directories : List Directory) → NAME_LIMIT < length name → list_all is_short directories ≡ true
    → has_directory name directories ≡ false
has_long name [] long short = refl
has_long name (other ∷ directories) long short =
    let parts = and_parts _ _ short in
    rw (long_apart name other long parts.0) (has_long name directories long parts.1)

pub find_long : (name : List ℕ) (directories : List Directory) → NAME_LIMIT < length name → list_all is_short directories ≡ true
    → find (is_named name) directories ≡ None
find_long name [] long short = refl
find_long name (other ∷ directories) long short =
    let parts = and_parts _ _ short in
    rw (long_apart name other long parts.0) (find_long name directories long parts.1)

-- with one that is made, the names are short
short_kept : (new : Directory) (directories : List Directory) → list_all is_short directories ≡ true
    → list_all is_short (map (λ (other : Directory). cond (is_named new.name other) (record other { retention = new.retention }) other) directories) ≡ true
short_kept new [] short = refl
short_kept new (other ∷ directories) short =
    let parts = and_parts _ _ short in
    and_from _ _ (by (is_named new.name other) parts.0) (short_kept new directories parts.1)
  where
    by : (same : Bool) → is_short other ≡ true → is_short (cond same (record other { retention = new.retention }) other) ≡ true
    by true short = short
    by false short = short

pub short_made : (new : Directory) (directories : List Directory) → is_short new ≡ true → list_all is_short directories ≡ true
    → list_all is_short (with_directory new directories) ≡ true
short_made new directories own short = by (has_directory new.name directories)
  where
    by : (there : Bool) → list_all is_short (cond there
        (map (λ (other : Directory). cond (is_named new.name other) (record other { retention = new.retention }) other) directories)
        (insertion by_directory new directories)) ≡ true
    by true = short_kept new directories short
    by false = inserted_all by_directory is_short new directories own short
