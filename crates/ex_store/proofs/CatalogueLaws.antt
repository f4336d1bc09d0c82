-- The catalogue of a state that is well formed is a catalogue.
use Rattle.std.proofs.Common.{◌≡◌, ℕ, suc, ◌+◌, ◌<◌, Bool, true, false, not, ◌||◌, cond, List, [], ◌∷◌, length, map, refl, ap, arith, ◌∙◌, sym, subst}
use Rattle.std.specs.List.{list_all}
use Rattle.std.specs.Ordering.{is_lt, nat_cmp, ordering_reverse, ordering_then}
use Rattle.std.specs.declared.cmp.Ordering.{Ordering}
use Rattle.std.specs.declared.cmp.Ordering.TheVariants.{Less}
use Rattle.std.proofs.lemmas.Bool.{and_from, and_parts, le-leb, lt-ltb}
use Rattle.std.proofs.lemmas.Cmp.{nat_list_cmp_total}
use Rattle.std.proofs.lemmas.List.{length-map}
use Rattle.std.proofs.lemmas.Slice.Eq.{bytes_eq-Decides}
use Rattle.cm_lists.proofs.Ascents.{all_above, is_sorted}
use Rattle.cm_lists.proofs.Numbers.{nat_cmp-one_add, nat_cmp_one_add_zero, nat_cmp_zero_one_add}
use Rattle.cm_lists.proofs.Orders.{is_lt-true, then_grouped}
use Rattle.cm_lists.proofs.Quantifiers.{all_map}
use Rattle.cm_lists.specs.Ascent.{ascends}
use Rattle.cm_files.specs.Catalogue.{IsCatalogue, by_bytes, by_file, is_directory_name, is_logical, is_row}
use Rattle.cm_files.proofs.LogicalNames.{short_name}
use Rattle.cm_files.proofs.RowOrder.{text_itself}
use Rattle.ex_store.specs.declared.directory.Definition.{Definition}
use Rattle.ex_store.specs.declared.directory.Directory.{Directory}
use Rattle.ex_store.specs.declared.row.Row.{Row}
use Rattle.ex_store.specs.Building.{by_directory}
use Rattle.ex_store.specs.Rows.{by_row}
use Rattle.ex_store.specs.State.{State, catalogue_of, file_row, has_directory, is_named, logical_name, number_of}
use Rattle.ex_store.specs.WellFormed.{IsWellFormed, is_definition_among, is_directory, is_row_among}
use Rattle.cm_lists.proofs.Ascents.{ascends_map, sorted_ascends}
use Rattle.ex_store.proofs.BuiltLaws.{by_directory_total}

pub named : (name : List ℕ) (directory : Directory) → is_named name directory ≡ true → directory.name ≡ name
named name directory is = (bytes_eq-Decides directory.name name).0 is

-- a directory that is below others, and the name of one of them
pub below_name : (directory : Directory) (directories : List Directory) (name : List ℕ)
    → all_above by_directory directory directories ≡ true → has_directory name directories ≡ true
    → by_bytes directory.name name ≡ Less
below_name directory [] name above there = absurd (cc)
below_name directory (first ∷ directories) name above there =
    by (is_named name first) refl (and_parts _ _ above).0
    (λ later. below_name directory directories name (and_parts _ _ above).1 later) there
  where
    by : (is : Bool) → is_named name first ≡ is → is_lt (by_directory directory first) ≡ true
        → (has_directory name directories ≡ true → by_bytes directory.name name ≡ Less)
        → (is || has_directory name directories) ≡ true → by_bytes directory.name name ≡ Less
    by true is less rest there =
        subst (λ text. by_bytes directory.name text ≡ Less) (named name first is) (is_lt-true _ less)
    by false is less rest there = rest there

-- numbers of directories stand as their names do

pub number_order : (directories : List Directory) (a b : List ℕ) → is_sorted by_directory directories ≡ true
    → has_directory a directories ≡ true → has_directory b directories ≡ true
    → nat_cmp (number_of a directories) (number_of b directories) ≡ by_bytes a b
number_order [] a b sorted has_a has_b = absurd (cc)
number_order (first ∷ directories) a b sorted has_a has_b =
    by (is_named a first) (is_named b first) refl refl (and_parts _ _ sorted).0
    (λ later_a later_b. number_order directories a b (and_parts _ _ sorted).1 later_a later_b) has_a has_b
  where
    by : (is_a is_b : Bool) → is_named a first ≡ is_a → is_named b first ≡ is_b
        → all_above by_directory first directories ≡ true
        → (has_directory a directories ≡ true → has_directory b directories ≡ true
        → nat_cmp (number_of a directories) (number_of b directories) ≡ by_bytes a b)
        → (is_a || has_directory a directories) ≡ true → (is_b || has_directory b directories) ≡ true
        → nat_cmp (cond (not is_a) (1 + number_of a directories) 0) (cond (not is_b) (1 + number_of b directories) 0)
        ≡ by_bytes a b
    by true true same_a same_b above rest has_a has_b =
        let same : a ≡ b = sym (named a first same_a) ∙ named b first same_b in
        sym (ap (by_bytes a) (sym same) ∙ text_itself a)
    by true false same_a other_b above rest has_a has_b =
        nat_cmp_zero_one_add (number_of b directories)
        ∙ sym (subst (λ text. by_bytes text b ≡ Less) (named a first same_a) (below_name first directories b above has_b))
    by false true other_a same_b above rest has_a has_b =
        let less = subst (λ text. by_bytes text a ≡ Less) (named b first same_b) (below_name first directories a above has_a) in
        nat_cmp_one_add_zero (number_of a directories)
        ∙ sym (nat_list_cmp_total.antisymm a b ∙ ap ordering_reverse less)
    by false false other_a other_b above rest has_a has_b =
        nat_cmp-one_add (number_of a directories) (number_of b directories)
        ∙ rest has_a has_b

pub number_within : (directories : List Directory) (name : List ℕ) → has_directory name directories ≡ true
    → number_of name directories < length directories
number_within [] name there = absurd (cc)
number_within (first ∷ directories) name there =
    by (is_named name first) (λ later. number_within directories name later) there
  where
    by : (is : Bool) → (has_directory name directories ≡ true → number_of name directories < length directories)
        → (is || has_directory name directories) ≡ true → cond (not is) (1 + number_of name directories) 0 < suc (length directories)
    by true rest there = omega arith
    by false rest there = let below = rest there in omega arith

-- rows of directories that are there stand as their rows in the catalogue do
pub row_order : (directories : List Directory) (row other : Row) → is_sorted by_directory directories ≡ true
    → has_directory row.key.directory directories ≡ true → has_directory other.key.directory directories ≡ true
    → by_file (file_row directories row) (file_row directories other) ≡ by_row row other
row_order directories row other sorted there other_there =
    ap (λ (o : Ordering). ordering_then o (ordering_then (by_bytes row.key.name other.key.name) (ordering_then (by_bytes row.key.kind other.key.kind) (nat_cmp row.file.generation other.file.generation))))
    (number_order directories row.key.directory other.key.directory sorted there other_there)
    ∙ then_grouped (by_bytes row.key.directory other.key.directory) (by_bytes row.key.name other.key.name)
    (by_bytes row.key.kind other.key.kind) (nat_cmp row.file.generation other.file.generation)

-- what a row of one of these directories is
pub directory_there : (directories : List Directory) (row : Row) → is_row_among directories row ≡ true
    → has_directory row.key.directory directories ≡ true
directory_there directories row is =
    (and_parts _ _ (and_parts _ _ (and_parts _ _ (and_parts _ _ (and_parts _ _ is).0).0).0).0).0

rows_ascend : (directories : List Directory) (rows : List Row) → is_sorted by_directory directories ≡ true
    → list_all (is_row_among directories) rows ≡ true → ascends by_row rows ≡ true
    → ascends by_file (map (file_row directories) rows) ≡ true
rows_ascend directories [] sorted within ascend = refl
rows_ascend directories (row ∷ []) sorted within ascend = refl
rows_ascend directories (row ∷ other ∷ rows) sorted within ascend =
    let parts = and_parts _ _ ascend in
    let all = and_parts _ _ within in
    let same = row_order directories row other sorted (directory_there directories row all.0)
    (directory_there directories other (and_parts _ _ all.1).0) in
    and_from _ _ (ap is_lt same ∙ parts.0) (rows_ascend directories (other ∷ rows) sorted all.1 parts.1)

row_within : (directories : List Directory) (row : Row) → is_row_among directories row ≡ true
    → is_row (length directories) (file_row directories row) ≡ true
row_within directories row is =
    let first = and_parts _ _ (and_parts _ _ (and_parts _ _ is).0).0 in
    let second = and_parts _ _ first.0 in
    let third = and_parts _ _ second.0 in
    let name = and_parts _ _ third.1 in
    let size = and_parts _ _ name.0 in
    let kind = and_parts _ _ second.1 in
    let number = and_parts _ _ first.1 in
    let directory = lt-ltb _ _ (number_within directories row.key.directory third.0) in
    and_from _ _ (and_from _ _ (and_from _ _ (and_from _ _ (and_from _ _ (and_from _ _ (and_from _ _
    directory size.0) size.1) name.1) kind.0) kind.1) number.0) number.1

definition_within : (directories : List Directory) (entry : Definition) → is_definition_among directories entry ≡ true
    → is_logical (length directories) (logical_name directories entry) ≡ true
definition_within directories entry is =
    let parts = and_parts _ _ is in
    let first = and_parts _ _ parts.0 in
    and_from _ _ (lt-ltb _ _ (number_within directories entry.directory first.0)) (le-leb _ _ (short_name entry.name first.1))

pub catalogue_lawful : (state : State) → IsWellFormed state → IsCatalogue (catalogue_of state)
catalogue_lawful state well =
    let sorted = sorted_ascends by_directory by_directory_total state.directories well.draft.directories_ascend in
    let many : length (map (λ (directory : Directory). directory.name) state.directories) ≡ length state.directories =
    length-map state.directories (λ directory. directory.name) in
    record {
      directories_ascend = ascends_map by_bytes by_directory (λ directory. directory.name) (λ a b. refl) state.directories
          ∙ well.draft.directories_ascend;
      directory_names = all_map is_directory is_directory_name (λ directory. directory.name) (λ directory is. (and_parts _ _ is).0)
          state.directories well.draft.directories_within;
      connected_within = rw many (number_within state.directories state.connected well.connected_there);
      logical_within = rw many (all_map (is_definition_among state.directories) (is_logical (length state.directories))
          (logical_name state.directories) (definition_within state.directories) state.logical well.draft.logical_within);
      rows_ascend = rows_ascend state.directories state.rows sorted well.draft.rows.within well.draft.rows.ascend;
      rows_within = rw many (all_map (is_row_among state.directories) (is_row (length state.directories))
          (file_row state.directories) (row_within state.directories) state.rows well.draft.rows.within);
    }

-- the number that a search gives for a directory that is there
pub number_found : (directories : List Directory) (name : List ℕ) → has_directory name directories ≡ true
    → (n : ℕ) (text : List ℕ) (items : List Directory) → n ≡ number_of text items → text ≡ name → items ≡ directories
    → n < length (map (λ (directory : Directory). directory.name) directories)
number_found directories name there n text items is texts lists =
    let within = number_within directories name there in
    let sizes = length-map directories (λ (directory : Directory). directory.name) in
    let same : n ≡ number_of name directories =
    is ∙ ap (λ each. number_of each items) texts ∙ ap (number_of name) lists in
    omega arith
