-- The entries of a map under names, which ascend: what is added at the end, and what is inserted at its place.
-- A map under names (Directories, LogicalNames) is proved over its entries, with the lemmas of indexmap.proofs:
-- CallerLemmas, SortedLemmas, MoveLemmas, MapLemmas.
use Rattle.std.proofs.Common.{◌≡◌, ℕ, zero, suc, ◌+◌, ◌<◌, ◌≤◌, ⊎_elim, Bool, true, false, cond, List, [], ◌∷◌, ◌++◌, length, get_or, insert, map, None, not, refl, ap, arith, ◌∙◌, sym, true≢false}
use Rattle.std.specs.Cmp.{IsTotalOrder}
use Rattle.std.specs.Cmp.Lexicographic.{nat_list_cmp_total, nat_list_eq_equiv, on_texts, texts_ties}
use Rattle.std.specs.List.{AllByRecursion, IsDistinct, list_any, position_or_len}
use Rattle.std.specs.List.Sorted.{IsSorted}
use Rattle.std.specs.Map.{keys_of, lookup}
use Rattle.std.specs.Ordering.{is_eq, is_lt, on}
use Rattle.std.specs.Str.{bytes_eq}
use Rattle.std.specs.declared.cmp.Ordering.{Ordering}
use Rattle.std.specs.declared.cmp.Ordering.TheVariants.{Less, Equal, Greater}
use Rattle.std.proofs.lemmas.Bool.{and_parts, cases_lt, le-ltb}
use Rattle.std.proofs.lemmas.List.{get_or_past, length-map}
use Rattle.std.proofs.lemmas.List.Sums.{fails_before_first, prefix_len-le-length}
use Rattle.std.proofs.lemmas.List.Sorted.{searchable_from_sorted}
use Rattle.std.proofs.lemmas.Slice.Eq.{bytes_eq-Decides}
use Rattle.cm_lists.proofs.Ascents.{all_above, is_sorted, place_by}
use Rattle.cm_lists.proofs.Orders.{is_lt-true}
use Rattle.cm_lists.specs.Ascent.{ascends, insertion}
use Rattle.cm_files.specs.Catalogue.{by_bytes}
use Rattle.indexmap.specs.Calls.{IsSearchIndex}
use Rattle.indexmap.specs.IndexMap.{index_before, insert_entry, move_index}
use Rattle.indexmap.proofs.MoveLemmas.{push_moved}
use Rattle.indexmap.proofs.SortedLemmas.{absent_pushes, found_stays, move_same}
use Rattle.cm_lists.proofs.Ascents.{sorted_ascends}
use Rattle.cm_lists.proofs.Insertions.{inserted_there}

-- of two names that stand one below the other, neither is the other
apart : (name other : List ℕ) → is_lt (by_bytes name other) ≡ true → bytes_eq name other ≡ false
apart name other below = by (bytes_eq name other) refl
  where
    by : (same : Bool) → bytes_eq name other ≡ same → bytes_eq name other ≡ false
    by true is =
        let equal : is_eq (by_bytes name other) ≡ true = sym (texts_ties name other) ∙ is in
        let less : by_bytes name other ≡ Less = is_lt-true (by_bytes name other) below in
        absurd (true≢false (sym equal ∙ ap is_eq less))
    by false is = is

pub apart_back : (name other : List ℕ) → is_lt (by_bytes name other) ≡ true → bytes_eq other name ≡ false
apart_back name other below = nat_list_eq_equiv.symm other name ∙ apart name other below

module _ {V : Type 0} where
  -- entries by their names
  abbrev pub by_key : List ℕ × V → List ℕ × V → Ordering
  by_key = on (λ entry. entry.0) by_bytes

  pub by_key_total : IsTotalOrder by_key
  by_key_total = on_texts (λ (entry : List ℕ × V). entry.0)

  -- the value of a name that is there is another; or the name is at its place with it
  abbrev pub entries_with : List ℕ → V → List (List ℕ × V) → List (List ℕ × V)
  entries_with name value entries =
      cond (list_any (λ entry. bytes_eq entry.0 name) entries)
      (map (λ entry. cond (bytes_eq entry.0 name) (entry.0, value) entry) entries)
      (insertion by_key (name, value) entries)

  -- what is after the others is under a new name
  last_is_new : (name : List ℕ) (value : V) (entries : List (List ℕ × V))
      → is_sorted by_key (entries ++ (name, value) ∷ []) ≡ true → lookup (bytes_eq name) entries ≡ None
  last_is_new name value [] sorted = refl
  last_is_new name value (entry ∷ entries) sorted =
      let parts = and_parts _ _ sorted in
      rw (apart_back entry.0 name (last entries parts.0)) (last_is_new name value entries parts.1)
    where
      last : (more : List (List ℕ × V)) → all_above by_key entry (more ++ (name, value) ∷ []) ≡ true
          → is_lt (by_bytes entry.0 name) ≡ true
      last [] above = (and_parts _ _ above).0
      last (other ∷ more) above = last more (and_parts _ _ above).1

  pub added_is_new : (name : List ℕ) (value : V) (entries : List (List ℕ × V))
      → ascends by_key (entries ++ (name, value) ∷ []) ≡ true → lookup (bytes_eq name) entries ≡ None
  added_is_new name value entries ascend =
      last_is_new name value entries (sorted_ascends by_key by_key_total (entries ++ (name, value) ∷ []) ascend)

  -- names that ascend are distinct
  apart_from_all : (entry : List ℕ × V) (more : List (List ℕ × V)) → all_above by_key entry more ≡ true
      → AllByRecursion (λ other. bytes_eq entry.0 other ≡ false) (keys_of more)
  apart_from_all entry [] above = tt
  apart_from_all entry (other ∷ more) above =
      let parts = and_parts _ _ above in
      (apart entry.0 other.0 parts.0, apart_from_all entry more parts.1)

  are_distinct : (entries : List (List ℕ × V)) → is_sorted by_key entries ≡ true → IsDistinct bytes_eq (keys_of entries)
  unfolding IsDistinct
  are_distinct [] sorted = tt
  are_distinct (entry ∷ entries) sorted =
      let parts = and_parts _ _ sorted in
      (apart_from_all entry entries parts.0, are_distinct entries parts.1)

  -- and none is below the one before it
  keys_sorted : (entries : List (List ℕ × V)) → is_sorted by_key entries ≡ true → IsSorted by_bytes (keys_of entries)
  keys_sorted entries sorted = λ k d low high. next entries sorted k d high
    where
      not_below : (name other : List ℕ) → is_lt (by_bytes name other) ≡ true → is_lt (by_bytes other name) ≡ false
      not_below name other below = by (by_bytes other name) refl
        where
          by : (o : Ordering) → by_bytes other name ≡ o → is_lt o ≡ false
          by Less is =
              let chain : by_bytes name name ≡ Less = nat_list_cmp_total.trans name other name (is_lt-true _ below) is in
              let same : is_eq (by_bytes name name) ≡ true = sym (texts_ties name name) ∙ nat_list_eq_equiv.refl name in
              absurd (true≢false (sym same ∙ ap is_eq chain))
          by Equal is = refl
          by Greater is = refl

      next : (entries : List (List ℕ × V)) → is_sorted by_key entries ≡ true → (k : ℕ) (d : List ℕ) → k + 1 < length (keys_of entries)
          → is_lt (by_bytes (get_or (keys_of entries) (k + 1) d) (get_or (keys_of entries) k d)) ≡ false
      next [] sorted k d below = absurd (omega arith)
      next (entry ∷ []) sorted k d below = absurd (omega arith)
      next (entry ∷ other ∷ entries) sorted zero d below =
          not_below entry.0 other.0 (and_parts _ _ (and_parts _ _ sorted).0).0
      next (entry ∷ other ∷ entries) sorted (suc k) d below =
          let step : suc k + 1 ≡ suc (k + 1) = omega arith in
          rw step (next (other ∷ entries) (and_parts _ _ sorted).1 k d (omega arith))

  -- where the name is there, its value is another
  none_above : (name : List ℕ) (value : V) (entry : List ℕ × V) (more : List (List ℕ × V)) → bytes_eq name entry.0 ≡ true
      → all_above by_key entry more ≡ true
      → map (λ (other : List ℕ × V). cond (bytes_eq other.0 name) (other.0, value) other) more ≡ more
  none_above name value entry [] same above = refl
  none_above name value entry (other ∷ more) same above =
      let parts = and_parts _ _ above in
      let is : name ≡ entry.0 = (bytes_eq-Decides name entry.0).0 same in
      let differs : bytes_eq other.0 name ≡ false = ap (bytes_eq other.0) is ∙ apart_back entry.0 other.0 parts.0 in
      rw differs (ap (λ (rest : List (List ℕ × V)). other ∷ rest) (none_above name value entry more same parts.1))

  -- an entry takes another value
  abbrev pub put : List ℕ → V → List ℕ × V → List ℕ × V
  put name value entry = cond (bytes_eq entry.0 name) (entry.0, value) entry

  put_there : (name : List ℕ) (value : V) (entries : List (List ℕ × V)) → is_sorted by_key entries ≡ true
      → position_or_len (bytes_eq name) (keys_of entries) < length (keys_of entries)
      → insert_entry bytes_eq entries name value ≡ map (put name value) entries
  put_there name value [] sorted there = absurd (omega arith)
  put_there name value (entry ∷ entries) sorted there =
      by (bytes_eq name entry.0) refl there (put_there name value entries parts.1)
    where
      parts : (all_above by_key entry entries ≡ true) × (is_sorted by_key entries ≡ true)
      parts = and_parts _ _ sorted

      by : (is : Bool) → bytes_eq name entry.0 ≡ is
          → cond (not is) (1 + position_or_len (bytes_eq name) (keys_of entries)) 0 < length (keys_of (entry ∷ entries))
          → (position_or_len (bytes_eq name) (keys_of entries) < length (keys_of entries)
          → insert_entry bytes_eq entries name value ≡ map (put name value) entries)
          → cond is ((entry.0, value) ∷ entries) (entry ∷ insert_entry bytes_eq entries name value)
          ≡ map (put name value) (entry ∷ entries)
      by true is there rest =
          let back : bytes_eq entry.0 name ≡ true = nat_list_eq_equiv.symm entry.0 name ∙ is in
          rw (back, none_above name value entry entries is parts.0) refl
      by false is there rest =
          let back : bytes_eq entry.0 name ≡ false = nat_list_eq_equiv.symm entry.0 name ∙ is in
          rw (back, rest (omega arith)) refl

  there_is : (name : List ℕ) (entries : List (List ℕ × V))
      → position_or_len (bytes_eq name) (keys_of entries) < length (keys_of entries)
      → list_any (λ entry. bytes_eq entry.0 name) entries ≡ true
  there_is name [] there = absurd (omega arith)
  there_is name (entry ∷ entries) there = by (bytes_eq name entry.0) refl there (there_is name entries)
    where
      by : (is : Bool) → bytes_eq name entry.0 ≡ is
          → cond (not is) (1 + position_or_len (bytes_eq name) (keys_of entries)) 0 < length (keys_of (entry ∷ entries))
          → (position_or_len (bytes_eq name) (keys_of entries) < length (keys_of entries)
          → list_any (λ other. bytes_eq other.0 name) entries ≡ true)
          → list_any (λ other. bytes_eq other.0 name) (entry ∷ entries) ≡ true
      by true is there rest = rw (nat_list_eq_equiv.symm entry.0 name, is) refl
      by false is there rest = rw (nat_list_eq_equiv.symm entry.0 name, is) (rest (omega arith))

  none_is : (name : List ℕ) (entries : List (List ℕ × V))
      → length (keys_of entries) ≤ position_or_len (bytes_eq name) (keys_of entries)
      → list_any (λ entry. bytes_eq entry.0 name) entries ≡ false
  none_is name [] past = refl
  none_is name (entry ∷ entries) past = by (bytes_eq name entry.0) refl past (none_is name entries)
    where
      by : (is : Bool) → bytes_eq name entry.0 ≡ is
          → length (keys_of (entry ∷ entries)) ≤ cond (not is) (1 + position_or_len (bytes_eq name) (keys_of entries)) 0
          → (length (keys_of entries) ≤ position_or_len (bytes_eq name) (keys_of entries)
          → list_any (λ other. bytes_eq other.0 name) entries ≡ false)
          → list_any (λ other. bytes_eq other.0 name) (entry ∷ entries) ≡ false
      by true is past rest = absurd (omega arith)
      by false is past rest = rw (nat_list_eq_equiv.symm entry.0 name, is) (rest (omega arith))

  -- where a search ends that does not find the name, is its place
  place_found : (name : List ℕ) (value : V) (entries : List (List ℕ × V)) (i : ℕ) → is_sorted by_key entries ≡ true
      → length (keys_of entries) ≤ position_or_len (bytes_eq name) (keys_of entries)
      → IsSearchIndex (λ other. by_bytes other name) (keys_of entries) i → i ≡ place_by by_key (name, value) entries
  place_found name value entries i sorted past search =
      let keys = keys_of entries in
      let sizes = length-map entries (λ (entry : List ℕ × V). entry.0) in
      let absent = λ (q : ℕ) (inside : q < length keys) (same : by_bytes (get_or keys q name) name ≡ Equal).
      let equal : bytes_eq (get_or keys q name) name ≡ true = texts_ties (get_or keys q name) name ∙ ap is_eq same in
      true≢false (sym (nat_list_eq_equiv.symm name (get_or keys q name) ∙ equal) ∙ fails_before_first (bytes_eq name) keys q name (omega arith)) in
      ⊎_elim
      (λ at. ⊎_elim
      (λ inside. absurd (absent i inside (at name)))
      (λ outside.
      let longer : bytes_eq (0 ∷ name) name ≡ true =
      texts_ties (0 ∷ name) name
      ∙ ap is_eq (ap (λ other. by_bytes other name) (sym (get_or_past keys i (0 ∷ name) outside)) ∙ at (0 ∷ name)) in
      let same : length (0 ∷ name) ≡ length name = ap length ((bytes_eq-Decides (0 ∷ name) name).0 longer) in
      absurd (omega (arith, same)))
      (cases_lt i (length keys)))
      (λ place.
      let parts = place (searchable_from_sorted nat_list_cmp_total (λ other. other) keys name (keys_sorted entries sorted)) in
      sym (place_keys entries i
      (omega (arith, search.0, sizes))
      (λ q below. ap is_lt (parts.0 q name (omega (arith, search.0)) below))
      (λ inside. ap is_lt (parts.1 i name (omega arith) (omega (arith, sizes, inside))))))
      search.1
    where
      place_keys : (entries : List (List ℕ × V)) (i : ℕ) → i ≤ length entries
          → ((q : ℕ) → q < i → is_lt (by_bytes (get_or (keys_of entries) q name) name) ≡ true)
          → (i < length entries → is_lt (by_bytes (get_or (keys_of entries) i name) name) ≡ false)
          → place_by by_key (name, value) entries ≡ i
      place_keys [] i within below not_below = omega arith
      place_keys (entry ∷ entries) zero within below not_below = rw (not_below (omega arith)) refl
      place_keys (entry ∷ entries) (suc i) within below not_below =
          let rest = place_keys entries i (omega arith) (λ q under. below (suc q) (omega arith)) (λ inside. not_below (omega arith)) in
          rw (below 0 (omega arith), rest) (omega arith)

  -- what `insert_sorted` makes of entries that ascend
  pub inserted : (name : List ℕ) (value : V) (entries : List (List ℕ × V)) (i to : ℕ) → ascends by_key entries ≡ true
      → IsSearchIndex (λ other. by_bytes other name) (keys_of entries) i
      → to ≡ index_before (position_or_len (bytes_eq name) (keys_of entries)) i
      → move_index (insert_entry bytes_eq entries name value) (position_or_len (bytes_eq name) (keys_of entries)) to
      ≡ entries_with name value entries
  inserted name value entries i to ascend search place =
      let sorted = sorted_ascends by_key by_key_total entries ascend in
      let keys = keys_of entries in
      let at = position_or_len (bytes_eq name) keys in
      let sizes : length keys ≡ length entries = length-map entries (λ (entry : List ℕ × V). entry.0) in
      let most : at ≤ length keys = prefix_len-le-length _ keys in
      ⊎_elim
      (λ there.
      let same = found_stays by_bytes bytes_eq nat_list_cmp_total texts_ties keys name i name (keys_sorted entries sorted) (are_distinct entries sorted) search there in
      let made = put_there name value entries sorted there in
      let count : length (insert_entry bytes_eq entries name value) ≡ length entries =
      ap length made ∙ length-map entries (put name value) in
      rw (place, same, move_same (insert_entry bytes_eq entries name value) at (omega arith), made, there_is name entries there) refl)
      (λ past.
      let none = λ (j : ℕ) (d : List ℕ) (inside : j < length entries). fails_before_first (bytes_eq name) keys j d (omega arith) in
      let pushed = absent_pushes bytes_eq name value entries none in
      let at_end : at ≡ length entries = omega arith in
      let goes : to ≡ i = place ∙ index_past at i (omega (arith, search.0, most, past)) in
      let within : i ≤ length entries = omega (arith, search.0, sizes) in
      rw (pushed, at_end, goes, push_moved entries (name, value) i within, none_is name entries past)
      (ap (λ (at : ℕ). insert entries at (name, value)) (place_found name value entries i sorted past search)
      ∙ inserted_there by_key (name, value) entries))
      (cases_lt at (length keys))
    where
      index_past : (n i : ℕ) → i ≤ n → index_before n i ≡ i
      index_past n i within = rw (le-ltb n i within) refl
