-- The generations of one name as rows: what is done with the one is done with the others.
-- What is done with one family is done with its rows: rows_own, and files_added of FilesOfLaws.
use Rattle.std.proofs.Common.{◌≡◌, ℕ, ◌<◌, ◌≤◌, ◌==◌, ◌&&◌, ◌||◌, Bool, true, false, not, cond, List, [], ◌∷◌, length, map, find, None, Some, Ok, refl, ap, arith, ◌∙◌, sym, subst, Option}
use Rattle.std.specs.List.{list_all}
use Rattle.std.specs.Option.{option_map, option_map_or}
use Rattle.std.specs.Ordering.{is_eq, is_lt, nat_cmp, ordering_reverse, ordering_then}
use Rattle.std.specs.declared.cmp.Ordering.{Ordering}
use Rattle.std.specs.declared.cmp.Ordering.TheVariants.{Less, Equal, Greater}
use Rattle.std.proofs.lemmas.Bool.{and_from, and_parts, eqb-true, ne_eqb, or_parts}
use Rattle.std.proofs.lemmas.Bool.Decides.{nat_tests}
use Rattle.std.proofs.lemmas.Map.Lookups.{exact_bytes}
use Rattle.cm_lists.proofs.Ascents.{all_above, is_sorted}
use Rattle.cm_lists.specs.Ascent.{ascends}
use Rattle.cm_files.specs.Catalogue.{by_bytes}
use Rattle.ex_generations.specs.declared.file.File.{File}
use Rattle.ex_generations.specs.declared.file.TheConstants.{FILE_LIMIT}
use Rattle.ex_generations.specs.Generations.{IsAscending, has, is_generation, unmarked}
use Rattle.ex_generations.specs.Generations as generations
use Rattle.ex_generations.specs.Retention as retaining
use Rattle.ex_store.specs.declared.key.Key.{Key}
use Rattle.ex_store.specs.declared.row.Row.{Row}
use Rattle.cm_fields.specs.declared.value.Gen.{Gen}
use Rattle.cm_fields.specs.declared.value.Gen.TheVariants as gens
use Rattle.ex_store.specs.Appending.{bytes_at, found}
use Rattle.ex_store.specs.Families.{row_under}
use Rattle.ex_store.specs.Rows.{added, by_key, by_row, filled, files, files_of, is_full, is_of, row_at, without}
use Rattle.cm_lists.proofs.Ascents.{ascends_sorted}
use Rattle.ex_store.proofs.AreRowsLaws.{all_added, by_key_total, full_parts}
use Rattle.ex_store.proofs.FilesOfLaws.{files_added}

-- keys that are at one place are one
is_equal : (o : Ordering) → is_eq o ≡ true → o ≡ Equal
is_equal Less is = absurd (cc)
is_equal Equal is = refl
is_equal Greater is = absurd (cc)

then_parts : (o p : Ordering) → is_eq (ordering_then o p) ≡ true → (is_eq o ≡ true) × (is_eq p ≡ true)
then_parts Less p is = absurd (cc)
then_parts Equal p is = (refl, is)
then_parts Greater p is = absurd (cc)

pub key_is : (a b : Key) → is_eq (by_key a b) ≡ true → a ≡ b
key_is a b is =
    let first = then_parts (by_bytes a.directory b.directory) _ is in
    let rest = then_parts (by_bytes a.name b.name) _ first.1 in
    λ j. record {
      directory = exact_bytes a.directory b.directory (is_equal _ first.0) j;
      name = exact_bytes a.name b.name (is_equal _ rest.0) j;
      kind = exact_bytes a.kind b.kind (is_equal _ rest.1) j;
    }

own_place : (o : Ordering) → o ≡ ordering_reverse o → o ≡ Equal
own_place Less is = absurd (cc)
own_place Equal is = refl
own_place Greater is = absurd (cc)

pub key_itself : (key : Key) → by_key key key ≡ Equal
key_itself key = own_place (by_key key key) (by_key_total.antisymm key key)

pub key_own : (key : Key) → is_eq (by_key key key) ≡ true
key_own key = ap is_eq (key_itself key)

-- the generations of a name as rows
pub under_own : (key : Key) (own : List File) → list_all (is_of key) (map (row_under key) own) ≡ true
under_own key [] = refl
under_own key (file ∷ own) = and_from _ _ (key_own key) (under_own key own)

pub files_under : (key : Key) (own : List File) → files (map (row_under key) own) ≡ own
files_under key [] = refl
files_under key (file ∷ own) = ap (λ more. file ∷ more) (files_under key own)

-- rows of one key are its files
pub rows_own : (key : Key) (rows : List Row) → list_all (is_of key) rows ≡ true → rows ≡ map (row_under key) (files rows)
rows_own key [] all = refl
rows_own key (row ∷ rows) all =
    let parts : (is_of key row ≡ true) × (list_all (is_of key) rows ≡ true) = and_parts _ _ all in
    let here = key_is row.key key parts.0 in
    let rest = rows_own key rows parts.1 in
    λ j. record { key = here j; file = row.file } ∷ rest j

files_all : (key : Key) (rows : List Row) → list_all (is_of key) rows ≡ true → files_of key rows ≡ files rows
files_all key [] all = refl
files_all key (row ∷ rows) all =
    let parts : (is_of key row ≡ true) × (list_all (is_of key) rows ≡ true) = and_parts _ _ all in
    rw parts.0 (ap (λ rest. row.file ∷ rest) (files_all key rows parts.1))

pub files_of_under : (key : Key) (own : List File) → files_of key (map (row_under key) own) ≡ own
files_of_under key own = files_all key (map (row_under key) own) (under_own key own) ∙ files_under key own

above_file : (key : Key) (file : File) (own : List File) → IsAscending file.generation own
    → all_above by_row (row_under key file) (map (row_under key) own) ≡ true
above_file key file own ascend = from file.generation own (omega arith) ascend
  where
    from : (low : ℕ) (more : List File) → file.generation ≤ low → IsAscending low more
        → all_above by_row (row_under key file) (map (row_under key) more) ≡ true
    from low [] most ascend = refl
    from low (other ∷ more) most ascend =
        let less : is_lt (nat_cmp file.generation other.generation) ≡ true = grind (arith, nat_tests, ascend.0) in
        and_from _ _ (rw (key_itself key) less) (from other.generation more (omega (arith, ascend.0)) ascend.3)

sorted_under : (key : Key) (low : ℕ) (own : List File) → IsAscending low own → is_sorted by_row (map (row_under key) own) ≡ true
sorted_under key low [] ascend = refl
sorted_under key low (file ∷ own) ascend =
    and_from _ _ (above_file key file own ascend.3) (sorted_under key file.generation own ascend.3)

pub ascends_under : (key : Key) (own : List File) → IsAscending 0 own → ascends by_row (map (row_under key) own) ≡ true
ascends_under key own ascend = ascends_sorted by_row (map (row_under key) own) (sorted_under key 0 own ascend)

-- a file is added to the generations of a name
pub added_under : (retention : ℕ) (key : Key) (file : File) (own : List File) → IsAscending 0 own → has file.generation own ≡ false
    → map (row_under key) (retaining.retained retention (generations.inserted file own)) ≡ added retention (row_under key file) (map (row_under key) own)
added_under retention key file own ascend none =
    let rows = map (row_under key) own in
    let new = added retention (row_under key file) rows in
    let all : list_all (is_of key) new ≡ true =
    all_added (is_of key) (λ row. refl) retention (row_under key file) rows (key_own key) (under_own key own) in
    let is : files_of key new ≡ retaining.retained retention (generations.inserted file own) =
    files_added retention (row_under key file) rows (ascends_under key own ascend) (ap (has file.generation) (files_of_under key own) ∙ none)
    ∙ ap (λ (files : List File). retaining.retained retention (generations.inserted file files)) (files_of_under key own) in
    sym (rows_own key new all ∙ ap (map (row_under key)) (sym (files_all key new all) ∙ is))

-- a file is taken out of the generations of a name
other_number : (low high : ℕ) → low < high → (high == low) ≡ false
other_number low high less = grind (arith, nat_tests)

without_higher : (generation low : ℕ) (own : List File) → generation ≤ low → IsAscending low own
    → generations.without generation own ≡ own
without_higher generation low [] most ascend = refl
without_higher generation low (file ∷ own) most ascend =
    rw (other_number generation file.generation (omega (arith, ascend.0)))
    (ap (λ rest. file ∷ rest) (without_higher generation file.generation own (omega (arith, ascend.0)) ascend.3))

same_number : (a b : ℕ) → (a == b) ≡ true → a ≡ b
same_number a b is = grind (arith, nat_tests)

full_under : (key : Key) (generation : ℕ) (file : File)
    → is_full (record { key = key; generation = generation }) (row_under key file) ≡ is_generation generation file
full_under key generation file = full_parts key generation (row_under key file) ∙ ap (λ b. b && is_generation generation file) (key_own key)

pub without_under : (key : Key) (generation low : ℕ) (own : List File) → IsAscending low own
    → map (row_under key) (generations.without generation own)
    ≡ without (record { key = key; generation = generation }) (map (row_under key) own)
without_under key generation low [] ascend = refl
without_under key generation low (file ∷ own) ascend =
    rw (full_under key generation file) (by (is_generation generation file) refl (without_under key generation file.generation own ascend.3))
  where
    by : (b : Bool) → is_generation generation file ≡ b
        → map (row_under key) (generations.without generation own)
        ≡ without (record { key = key; generation = generation }) (map (row_under key) own)
        → map (row_under key) (cond (not b) (file ∷ generations.without generation own) (generations.without generation own))
        ≡ cond b (map (row_under key) own) (row_under key file ∷ without (record { key = key; generation = generation }) (map (row_under key) own))
    by true is rest =
        ap (map (row_under key)) (without_higher generation file.generation own (omega (arith, same_number file.generation generation is)) ascend.3)
    by false is rest = ap (λ more. row_under key file ∷ more) rest

pub row_at_under : (key : Key) (generation : ℕ) (own : List File)
    → option_map (row_under key) (find (is_generation generation) own)
    ≡ row_at (record { key = key; generation = generation }) (map (row_under key) own)
row_at_under key generation [] = refl
row_at_under key generation (file ∷ own) =
    rw (full_under key generation file) (by (is_generation generation file) (row_at_under key generation own))
  where
    by : (b : Bool) → option_map (row_under key) (find (is_generation generation) own)
        ≡ row_at (record { key = key; generation = generation }) (map (row_under key) own)
        → option_map (row_under key) (cond b (Some file) (find (is_generation generation) own))
        ≡ cond b (Some (row_under key file)) (row_at (record { key = key; generation = generation }) (map (row_under key) own))
    by true rest = refl
    by false rest = rest

-- and where it has none of that generation nothing is
none_found : (generation : ℕ) (own : List File) → has generation own ≡ false → find (is_generation generation) own ≡ None
none_found generation [] none = refl
none_found generation (file ∷ own) none =
    let parts : (is_generation generation file ≡ false) × (has generation own ≡ false) = or_parts _ _ none in
    rw parts.0 (none_found generation own parts.1)

none_without : (generation : ℕ) (own : List File) → has generation own ≡ false → generations.without generation own ≡ own
none_without generation [] none = refl
none_without generation (file ∷ own) none =
    let parts : (is_generation generation file ≡ false) × (has generation own ≡ false) = or_parts _ _ none in
    rw parts.0 (ap (λ rest. file ∷ rest) (none_without generation own parts.1))

pub row_at_none : (key : Key) (generation : ℕ) (own : List File) → has generation own ≡ false
    → None ≡ row_at (record { key = key; generation = generation }) (map (row_under key) own)
row_at_none key generation own none =
    sym (ap (option_map (row_under key)) (none_found generation own none)) ∙ row_at_under key generation own

pub without_none : (key : Key) (generation : ℕ) (own : List File) → IsAscending 0 own → has generation own ≡ false
    → map (row_under key) own ≡ without (record { key = key; generation = generation }) (map (row_under key) own)
without_none key generation own ascend none =
    sym (ap (map (row_under key)) (none_without generation own none)) ∙ without_under key generation 0 own ascend

-- a file that is found is short
pub short_found : (generation low : ℕ) (own : List File) (file : File) → IsAscending low own
    → find (is_generation generation) own ≡ Some file → length file.bytes ≤ FILE_LIMIT
short_found generation low [] file ascend found = absurd (cc)
short_found generation low (first ∷ own) file ascend found =
    by (is_generation generation first) found (λ found. short_found generation first.generation own file ascend.3 found)
  where
    by : (b : Bool) → cond b (Some first) (find (is_generation generation) own) ≡ Some file
        → (find (is_generation generation) own ≡ Some file → length file.bytes ≤ FILE_LIMIT) → length file.bytes ≤ FILE_LIMIT
    by true is rest =
        let same : first ≡ file = cc in subst (λ (it : File). length it.bytes ≤ FILE_LIMIT) same ascend.2
    by false is rest = rest is

-- a file is given a moment and bytes
changed_higher : (generation moment low : ℕ) (bytes : List ℕ) (own : List File) → generation ≤ low → IsAscending low own
    → generations.changed generation (generations.rewritten moment bytes) own ≡ own
changed_higher generation moment low bytes [] most ascend = refl
changed_higher generation moment low bytes (file ∷ own) most ascend =
    rw (other_number generation file.generation (omega (arith, ascend.0)))
    (ap (λ rest. file ∷ rest) (changed_higher generation moment file.generation bytes own (omega (arith, ascend.0)) ascend.3))

pub filled_under : (key : Key) (generation moment low : ℕ) (bytes : List ℕ) (own : List File) → IsAscending low own
    → map (row_under key) (generations.changed generation (generations.rewritten moment bytes) own)
    ≡ filled (record { key = key; generation = generation }) moment bytes (map (row_under key) own)
filled_under key generation moment low bytes [] ascend = refl
filled_under key generation moment low bytes (file ∷ own) ascend =
    rw (full_under key generation file) (by (is_generation generation file) refl (filled_under key generation moment file.generation bytes own ascend.3))
  where
    by : (b : Bool) → is_generation generation file ≡ b
        → map (row_under key) (generations.changed generation (generations.rewritten moment bytes) own)
        ≡ filled (record { key = key; generation = generation }) moment bytes (map (row_under key) own)
        → row_under key (cond b (generations.rewritten moment bytes file) file)
        ∷ map (row_under key) (generations.changed generation (generations.rewritten moment bytes) own)
        ≡ cond b ((record (row_under key file) { file = generations.rewritten moment bytes file }) ∷ map (row_under key) own)
        (row_under key file ∷ filled (record { key = key; generation = generation }) moment bytes (map (row_under key) own))
    by true is rest =
        ap (λ (it : List File). row_under key (generations.rewritten moment bytes file) ∷ map (row_under key) it)
        (changed_higher generation moment file.generation bytes own (omega (arith, same_number file.generation generation is)) ascend.3)
    by false is rest = ap (λ more. row_under key file ∷ more) rest

pub filled_none : (key : Key) (generation moment : ℕ) (bytes : List ℕ) (own : List File) → has generation own ≡ false
    → map (row_under key) own ≡ filled (record { key = key; generation = generation }) moment bytes (map (row_under key) own)
filled_none key generation moment bytes [] none = refl
filled_none key generation moment bytes (file ∷ own) none =
    let parts : (is_generation generation file ≡ false) × (has generation own ≡ false) = or_parts _ _ none in
    rw (full_under key generation file, parts.0) (ap (λ more. row_under key file ∷ more) (filled_none key generation moment bytes own parts.1))

-- what a file of a name holds
pub bytes_under : (key : Key) (generation : ℕ) (own : List File)
    → bytes_at (record { key = key; generation = generation }) (map (row_under key) own)
    ≡ option_map_or (λ (file : File). file.bytes) (find (is_generation generation) own) []
bytes_under key generation own =
    ap (λ (it : Option Row). option_map_or (λ (row : Row). row.file.bytes) it []) (sym (row_at_under key generation own))
    ∙ by (find (is_generation generation) own)
  where
    by : (it : Option File) → option_map_or (λ (row : Row). row.file.bytes) (option_map (row_under key) it) []
        ≡ option_map_or (λ (file : File). file.bytes) it []
    by None = refl
    by (Some file) = refl

-- of no files none is put after
pub found_none : (generation : Gen) → found generation [] ≡ Ok None
found_none gens.Missing = refl
found_none gens.Highest = refl
found_none gens.Next = refl
found_none gens.Lowest = refl
found_none gens.All = refl
found_none (gens.Number number) = refl

-- a generation that is found is among the unmarked ones where it has no mark
unmarked_above : (n low : ℕ) (own : List File) → n ≤ low → IsAscending low own → has n (unmarked own) ≡ false
unmarked_above n low [] below ascending = refl
unmarked_above n low (file ∷ own) below ascending = by file.deleted (unmarked_above n file.generation own (omega (arith, below, ascending.0)) ascending.3)
  where
    by : (b : Bool) → has n (unmarked own) ≡ false → has n (cond (not b) (file ∷ unmarked own) (unmarked own)) ≡ false
    by true rest = rest
    by false rest = rw (ne_eqb file.generation n (λ same. omega (arith, below, ascending.0, same))) rest

-- what is found among a file and others
first_is : (b : Bool) (first file : File) (rest : Option File) → b ≡ true → cond b (Some first) rest ≡ Some file → first ≡ file
first_is true first file rest is there = cc
first_is false first file rest is there = absurd (cc)

rest_is : (b : Bool) (first : File) (rest it : Option File) → b ≡ false → cond b (Some first) rest ≡ it → rest ≡ it
rest_is true first rest it is there = absurd (cc)
rest_is false first rest it is there = there

none_first : (b : Bool) (first : File) (rest : Option File) → cond b (Some first) rest ≡ None → b ≡ false
none_first true first rest there = absurd (cc)
none_first false first rest there = refl

pub found_live : (n low : ℕ) (own : List File) (file : File) → IsAscending low own → find (is_generation n) own ≡ Some file
    → has n (unmarked own) ≡ not file.deleted
found_live n low [] file ascending there = absurd (cc)
found_live n low (first ∷ own) file ascending there =
    by (is_generation n first) refl first.deleted refl
    (λ apart. found_live n first.generation own file ascending.3 (rest_is (is_generation n first) first (find (is_generation n) own) (Some file) apart there))
  where
    by : (b : Bool) → is_generation n first ≡ b → (d : Bool) → first.deleted ≡ d
        → (is_generation n first ≡ false → has n (unmarked own) ≡ not file.deleted)
        → has n (unmarked (first ∷ own)) ≡ not file.deleted
    by true is true marked rest =
        let same : first ≡ file = first_is (is_generation n first) first file (find (is_generation n) own) is there in
        let at : first.generation ≡ n = eqb-true first.generation n is in
        ap (λ (it : Bool). has n (cond (not it) (first ∷ unmarked own) (unmarked own))) marked
        ∙ unmarked_above n first.generation own (omega (arith, at)) ascending.3
        ∙ ap not (sym marked) ∙ ap (λ (it : File). not it.deleted) same
    by true is false marked rest =
        let same : first ≡ file = first_is (is_generation n first) first file (find (is_generation n) own) is there in
        ap (λ (it : Bool). has n (cond (not it) (first ∷ unmarked own) (unmarked own))) marked
        ∙ ap (λ (it : Bool). it || has n (unmarked own)) is
        ∙ ap not (sym marked) ∙ ap (λ (it : File). not it.deleted) same
    by false is true marked rest =
        ap (λ (it : Bool). has n (cond (not it) (first ∷ unmarked own) (unmarked own))) marked ∙ rest is
    by false is false marked rest =
        ap (λ (it : Bool). has n (cond (not it) (first ∷ unmarked own) (unmarked own))) marked
        ∙ ap (λ (it : Bool). it || has n (unmarked own)) is
        ∙ rest is

pub found_there : (n : ℕ) (own : List File) (file : File) → find (is_generation n) own ≡ Some file → has n own ≡ true
found_there n [] file there = absurd (cc)
found_there n (first ∷ own) file there =
    by (is_generation n first) refl
    (λ apart. found_there n own file (rest_is (is_generation n first) first (find (is_generation n) own) (Some file) apart there))
  where
    by : (b : Bool) → is_generation n first ≡ b → (is_generation n first ≡ false → has n own ≡ true) → has n (first ∷ own) ≡ true
    by true is rest = ap (λ (it : Bool). it || has n own) is
    by false is rest = ap (λ (it : Bool). it || has n own) is ∙ rest is

pub found_nowhere : (n : ℕ) (own : List File) → find (is_generation n) own ≡ None → (has n own ≡ false) × (has n (unmarked own) ≡ false)
found_nowhere n [] none = (refl, refl)
found_nowhere n (first ∷ own) none =
    let apart = none_first (is_generation n first) first (find (is_generation n) own) none in
    let rest = found_nowhere n own (rest_is (is_generation n first) first (find (is_generation n) own) None apart none) in
    (ap (λ (it : Bool). it || has n own) apart ∙ rest.0, mark first.deleted apart rest.1)
  where
    mark : (d : Bool) → is_generation n first ≡ false → has n (unmarked own) ≡ false → has n (cond (not d) (first ∷ unmarked own) (unmarked own)) ≡ false
    mark true apart rest = rest
    mark false apart rest = ap (λ (it : Bool). it || has n (unmarked own)) apart ∙ rest
