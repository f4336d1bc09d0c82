-- The catalogue of many files is one.
use Rattle.std.proofs.Common.{◌≡◌, ℕ, zero, suc, ◌+◌, ◌<◌, ◌≤◌, true, ◌==◌, ◌∷◌, Some, length, filter, slice_get, refl, ap, arith, ◌∙◌, sym}
use Rattle.std.specs.List.{list_all}
use Rattle.std.specs.Ordering.{is_lt}
use Rattle.std.proofs.lemmas.Bool.{and_from, le-leb, lt-ltb}
use Rattle.cm_lists.proofs.Numbers.{nat_cmp_suc}
use Rattle.cm_text.specs.Bytes.{is_name, is_word}
use Rattle.cm_files.specs.declared.generation.TheConstants.{GENERATION_LIMIT}
use Rattle.cm_lists.specs.Ascent.{ascends}
use Rattle.cm_files.specs.Catalogue.{IsCatalogue, by_file, is_row, rows_of}
use Rattle.cm_blocks_tests.specs.Many.{many_catalogue, many_from, many_row}

ascend : (unmarked generation count : ℕ) → ascends by_file (many_from unmarked generation count) ≡ true
ascend unmarked generation zero = refl
ascend unmarked generation (suc zero) = refl
ascend unmarked generation (suc (suc count)) =
    and_from _ _ (ap is_lt (nat_cmp_suc generation)) (ascend unmarked (suc generation) (suc count))

are_rows : (unmarked generation count : ℕ) → 1 ≤ generation → generation + count ≤ GENERATION_LIMIT + 1
    → list_all (is_row 1) (many_from unmarked generation count) ≡ true
unfolding is_name is_word
are_rows unmarked generation zero low high = refl
are_rows unmarked generation (suc count) low high =
    and_from _ _
    (and_from _ _ (lt-ltb 0 generation low) (le-leb generation GENERATION_LIMIT (omega arith)))
    (are_rows unmarked (suc generation) count (omega arith) (omega arith))

pub many_is_catalogue : (unmarked count : ℕ) → count ≤ GENERATION_LIMIT → IsCatalogue (many_catalogue unmarked count)
unfolding is_name is_word
many_is_catalogue unmarked count few = record {
  directories_ascend = refl;
  directory_names = refl;
  connected_within = omega arith;
  logical_within = refl;
  rows_ascend = ascend unmarked 1 count;
  rows_within = are_rows unmarked 1 count (omega arith) (omega arith);
}

all_here : (unmarked generation count : ℕ)
    → filter (λ row. row.directory == 0) (many_from unmarked generation count) ≡ many_from unmarked generation count
all_here unmarked generation zero = refl
all_here unmarked generation (suc count) =
    ap (λ rows. many_row unmarked generation ∷ rows) (all_here unmarked (suc generation) count)

counted : (unmarked generation count : ℕ) → length (many_from unmarked generation count) ≡ count
counted unmarked generation zero = refl
counted unmarked generation (suc count) = ap suc (counted unmarked (suc generation) count)

row_at : (unmarked generation count i : ℕ) → i < count
    → slice_get (many_from unmarked generation count) i ≡ Some (many_row unmarked (i + generation))
row_at unmarked generation zero i within = absurd (omega arith)
row_at unmarked generation (suc count) zero within =
    ap (λ n. Some (many_row unmarked n)) (omega arith)
row_at unmarked generation (suc count) (suc i) within =
    row_at unmarked (suc generation) count i (omega arith) ∙ ap (λ n. Some (many_row unmarked n)) (omega arith)

pub many_counted : (unmarked count directory : ℕ) → directory < 1
    → count ≡ length (rows_of (many_catalogue unmarked count) directory)
many_counted unmarked count directory one =
    let first : directory ≡ 0 = omega arith in
    rw first (sym (ap length (all_here unmarked 1 count) ∙ counted unmarked 1 count))

pub many_at : (unmarked count directory i : ℕ) → directory < 1 → i < length (rows_of (many_catalogue unmarked count) directory)
    → slice_get (rows_of (many_catalogue unmarked count) directory) i ≡ Some (many_row unmarked (i + 1))
many_at unmarked count directory i one within =
    let first : directory ≡ 0 = omega arith in
    let size = many_counted unmarked count directory one in
    rw first (ap (λ rows. slice_get rows i) (all_here unmarked 1 count) ∙ row_at unmarked 1 count i (omega arith))
