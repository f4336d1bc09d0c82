-- The highest and the lowest generation, told by the neighbours of a row.
-- IsClear is a record over numbers, so that it is one fact for the search.
use Rattle.std.proofs.Common.{◌≡◌, ℕ, zero, suc, ◌+◌, ◌<◌, ◌≤◌, Bool, true, false, ◌&&◌, nat_le, cond, ◌⊎◌, inl, inr, List, [], ◌∷◌, length, filter, slice_get, Option, Some, None, option_and_then, refl, ap, arith, ◌∙◌, sym, subst}
use Rattle.std.specs.List.{list_all}
use Rattle.std.specs.Option.{option_map_or}
use Rattle.std.proofs.lemmas.Bool.{and_from, and_parts, and_left, and_right, cases_Bool, cases_lt, cases_order, le-leb, leb-true, false_from_ne_true}
use Rattle.std.proofs.lemmas.Option.{slice_get_within}
use Rattle.std.proofs.lemmas.Slice.Eq.{bytes_eq-Decides}
use Rattle.cm_lists.proofs.Quantifiers.{all_kept_at}
use Rattle.cm_files.specs.declared.row.FileRow.{FileRow}
use Rattle.cm_files.specs.Catalogue.{Catalogue, IsCatalogue, rows_of}
use Rattle.cm_files.specs.Neighbours.{is_bottom, is_top, mark_of_same}
use Rattle.cm_files.specs.RowTrials.{passes_at}
use Rattle.cm_files.specs.Pattern.{matches}
use Rattle.cm_files.specs.Selection.{Wanted, agree, is_same_file, is_seen, name_matches}
use Rattle.cm_files.proofs.RowOrder.{between, lower_generation, rows_ascend}

-- a row that is seen, and has the name and type of another
abbrev is_with : Wanted → FileRow → FileRow → Bool
is_with w row other = is_seen w other && is_same_file other row

same_texts : (row other : FileRow) → is_same_file row other ≡ true → (row.name ≡ other.name) × (row.kind ≡ other.kind)
same_texts row other same =
    ((bytes_eq-Decides row.name other.name).0 (and_parts _ _ same).0, (bytes_eq-Decides row.kind other.kind).0 (and_parts _ _ same).1)

pub texts_same : (row other : FileRow) → row.name ≡ other.name → row.kind ≡ other.kind → is_same_file row other ≡ true
texts_same row other name kind =
    and_from _ _ ((bytes_eq-Decides row.name other.name).1 name) ((bytes_eq-Decides row.kind other.kind).1 kind)

-- none of the rows from one number up to another is seen with the name and type of this one
pub record IsClear (w : Wanted) (rows : List FileRow) (row : FileRow) (start end : ℕ) : Type 0 where
  clear : (k : ℕ) (other : FileRow) → start ≤ k → k < end → slice_get rows k ≡ Some other → is_with w row other ≡ false

pub clear_none : (w : Wanted) (rows : List FileRow) (row : FileRow) (at : ℕ) → IsClear w rows row at at
clear_none w rows row at = record { clear = λ k other after before is. absurd (omega arith) }

-- the mark of a row as the walk has it
marked : (row : FileRow) (deleted : Bool) (rows : List FileRow) (i : ℕ) (other : FileRow) (mark : Option Bool)
    → mark ≡ option_and_then (mark_of_same row deleted) (slice_get rows i) → slice_get rows i ≡ Some other
    → mark ≡ mark_of_same row deleted other
marked row deleted rows i other mark is at = is ∙ ap (option_and_then (mark_of_same row deleted)) at

unlike : (row : FileRow) (deleted : Bool) (other : FileRow) → None ≡ mark_of_same row deleted other → is_same_file other row ≡ false
unlike row deleted other is = by (is_same_file other row) is
  where
    by : (same : Bool) → None ≡ cond same (Some (agree other.deleted deleted)) None → same ≡ false
    by true is = absurd (cc)
    by false is = refl

alike : (row : FileRow) (deleted mark : Bool) (other : FileRow) → Some mark ≡ mark_of_same row deleted other
    → (is_same_file other row ≡ true) × (agree other.deleted deleted ≡ mark)
alike row deleted mark other is = by (is_same_file other row) is
  where
    by : (same : Bool) → Some mark ≡ cond same (Some (agree other.deleted deleted)) None
        → (same ≡ true) × (agree other.deleted deleted ≡ mark)
    by true is = (refl, cc)
    by false is = absurd (cc)

unseen : (w : Wanted) (other : FileRow) → agree other.deleted w.deleted ≡ false → is_seen w other ≡ false
unfolding is_seen
unseen w other mark = rw mark refl

seen_alike : (w : Wanted) (row other : FileRow) → is_seen w row ≡ true → other.name ≡ row.name → other.kind ≡ row.kind
    → agree other.deleted w.deleted ≡ true → is_seen w other ≡ true
unfolding is_seen
seen_alike w row other seen name kind mark =
    let first = and_parts _ _ seen in
    let names : name_matches w.name other.name ≡ true = ap (name_matches w.name) name ∙ (and_parts _ _ first.0).1 in
    let kinds : matches w.kind other.kind ≡ true = ap (matches w.kind) kind ∙ first.1 in
    and_from _ _ (and_from _ _ mark names) kinds

-- a row that is not seen leaves the rows clear
pub clear_up : (w : Wanted) (rows : List FileRow) (row : FileRow) (start end : ℕ) → IsClear w rows row start end
    → Some false ≡ option_and_then (mark_of_same row w.deleted) (slice_get rows end) → IsClear w rows row start (end + 1)
clear_up w rows row start end clear is = record {
  clear = λ k other after before at. by k other after at (cases_lt k end) before;
}
  where
    by : (k : ℕ) (other : FileRow) → start ≤ k → slice_get rows k ≡ Some other → (k < end) ⊎ (end ≤ k) → k < end + 1
        → is_with w row other ≡ false
    by k other after at (inl below) before = clear.clear k other after below at
    by k other after at (inr above) before =
        let here : k ≡ end = omega arith in
        let there = subst (λ (n : ℕ). slice_get rows n ≡ Some other) here at in
        let mark = alike row w.deleted false other (marked row w.deleted rows end other (Some false) is there) in
        and_left _ _ (unseen w other mark.1)

pub clear_down : (w : Wanted) (rows : List FileRow) (row : FileRow) (start end : ℕ) → IsClear w rows row (start + 1) end
    → Some false ≡ option_and_then (mark_of_same row w.deleted) (slice_get rows start) → IsClear w rows row start end
clear_down w rows row start end clear is = record {
  clear = λ k other after before at. by k other before at (cases_lt start k) after;
}
  where
    by : (k : ℕ) (other : FileRow) → k < end → slice_get rows k ≡ Some other → (start < k) ⊎ (k ≤ start) → start ≤ k
        → is_with w row other ≡ false
    by k other before at (inl above) after = clear.clear k other (omega arith) before at
    by k other before at (inr below) after =
        let here : k ≡ start = omega arith in
        let there = subst (λ (n : ℕ). slice_get rows n ≡ Some other) here at in
        let mark = alike row w.deleted false other (marked row w.deleted rows start other (Some false) is there) in
        and_left _ _ (unseen w other mark.1)

-- the row that has a number
record HasRow (rows : List FileRow) (i : ℕ) : Type 0 where
  row : FileRow
  is : slice_get rows i ≡ Some row

has_row : (rows : List FileRow) (i : ℕ) → i < length rows → HasRow rows i
has_row [] i within = absurd (omega arith)
has_row (row ∷ rows) zero within = record { row = row; is = refl }
has_row (row ∷ rows) (suc i) within = let rest = has_row rows i (omega arith) in record { row = rest.row; is = rest.is }

-- a row that is not of the file of another is not seen with it, nor is one that would have it between them
not_with : (w : Wanted) (row other : FileRow) → (is_same_file other row ≡ true → ⊥) → is_with w row other ≡ false
not_with w row other unlike = by (cases_Bool (is_same_file other row))
  where
    by : (is_same_file other row ≡ true) ⊎ (is_same_file other row ≡ false) → is_with w row other ≡ false
    by (inl same) = absurd (unlike same)
    by (inr differ) = and_right _ _ differ

-- after a row of another file none is of the file of this one
clear_to_end : (c : Catalogue) → IsCatalogue c → (directory i j : ℕ) (w : Wanted) (row : FileRow)
    → slice_get (rows_of c directory) i ≡ Some row → i < j → j < length (rows_of c directory)
    → IsClear w (rows_of c directory) row (i + 1) j
    → None ≡ option_and_then (mark_of_same row w.deleted) (slice_get (rows_of c directory) j)
    → IsClear w (rows_of c directory) row (i + 1) (length (rows_of c directory))
clear_to_end c lawful directory i j w row at below within clear none =
    let middle = has_row (rows_of c directory) j within in
    let differs = unlike row w.deleted middle.row (marked row w.deleted (rows_of c directory) j middle.row None none middle.is) in
    record { clear = λ k other after before is. by middle.row middle.is differs k other after is (cases_order k j) }
  where
    by : (middle : FileRow) → slice_get (rows_of c directory) j ≡ Some middle → is_same_file middle row ≡ false
        → (k : ℕ) (other : FileRow) → i + 1 ≤ k → slice_get (rows_of c directory) k ≡ Some other
        → (k ≡ j) ⊎ ((k < j) ⊎ (j < k)) → is_with w row other ≡ false
    by middle there differs k other after is (inl here) =
        let same : middle ≡ other =
        (let first = subst (λ (n : ℕ). slice_get (rows_of c directory) n ≡ Some other) here is in cc) in
        and_right _ _ (subst (λ (each : FileRow). is_same_file each row ≡ false) same differs)
    by middle there differs k other after is (inr (inl before)) = clear.clear k other after before is
    by middle there differs k other after is (inr (inr beyond)) = not_with w row other (λ same.
        let texts = same_texts other row same in
        let texts_between = between row middle other (rows_ascend c lawful directory i j row middle below at there) (rows_ascend c lawful directory j k middle other beyond there is) texts.0 texts.1 in
        let alike : is_same_file middle row ≡ true = texts_same middle row (sym texts_between.0) (sym texts_between.1) in
        cc)

-- before a row of another file none is of the file of this one
clear_to_start : (c : Catalogue) → IsCatalogue c → (directory i j : ℕ) (w : Wanted) (row : FileRow)
    → slice_get (rows_of c directory) i ≡ Some row → j < i → IsClear w (rows_of c directory) row (j + 1) i
    → None ≡ option_and_then (mark_of_same row w.deleted) (slice_get (rows_of c directory) j)
    → IsClear w (rows_of c directory) row 0 i
clear_to_start c lawful directory i j w row at below clear none =
    let within = slice_get_within (rows_of c directory) i row at in
    let middle = has_row (rows_of c directory) j (omega arith) in
    let differs = unlike row w.deleted middle.row (marked row w.deleted (rows_of c directory) j middle.row None none middle.is) in
    record { clear = λ k other after before is. by middle.row middle.is differs k other before is (cases_order k j) }
  where
    by : (middle : FileRow) → slice_get (rows_of c directory) j ≡ Some middle → is_same_file middle row ≡ false
        → (k : ℕ) (other : FileRow) → k < i → slice_get (rows_of c directory) k ≡ Some other
        → (k ≡ j) ⊎ ((k < j) ⊎ (j < k)) → is_with w row other ≡ false
    by middle there differs k other before is (inl here) =
        let same : middle ≡ other =
        (let first = subst (λ (n : ℕ). slice_get (rows_of c directory) n ≡ Some other) here is in cc) in
        and_right _ _ (subst (λ (each : FileRow). is_same_file each row ≡ false) same differs)
    by middle there differs k other before is (inr (inr beyond)) = clear.clear k other (omega arith) before is
    by middle there differs k other before is (inr (inl ahead)) = not_with w row other (λ same.
        let texts = same_texts other row same in
        let texts_between = between other middle row (rows_ascend c lawful directory k j other middle ahead is there) (rows_ascend c lawful directory j i middle row below there at) (sym texts.0) (sym texts.1) in
        let alike : is_same_file middle row ≡ true =
        texts_same middle row (sym texts_between.0 ∙ texts.0) (sym texts_between.1 ∙ texts.1) in
        cc)

all_of_kept : (test keep : FileRow → Bool) (rows : List FileRow)
    → ((k : ℕ) (other : FileRow) → slice_get rows k ≡ Some other → keep other ≡ true → test other ≡ true)
    → list_all test (filter keep rows) ≡ true
all_of_kept test keep [] all = refl
all_of_kept test keep (row ∷ rows) all =
    by (keep row) refl (all_of_kept test keep rows (λ k other is kept. all (suc k) other is kept))
  where
    by : (kept : Bool) → keep row ≡ kept → list_all test (filter keep rows) ≡ true
        → list_all test (cond kept (row ∷ filter keep rows) (filter keep rows)) ≡ true
    by true kept rest = and_from _ _ (all 0 row refl kept) rest
    by false kept rest = rest

-- with no such row after it, a row has the highest generation
top_is : (c : Catalogue) → IsCatalogue c → (directory i : ℕ) (w : Wanted) (row : FileRow)
    → slice_get (rows_of c directory) i ≡ Some row
    → IsClear w (rows_of c directory) row (i + 1) (length (rows_of c directory)) → is_top w (rows_of c directory) row ≡ true
top_is c lawful directory i w row at clear =
    all_of_kept _ _ (rows_of c directory) (λ k other is kept. by k other is kept (cases_order k i))
  where
    by : (k : ℕ) (other : FileRow) → slice_get (rows_of c directory) k ≡ Some other → is_with w row other ≡ true
        → (k ≡ i) ⊎ ((k < i) ⊎ (i < k)) → nat_le other.generation row.generation ≡ true
    by k other is kept (inl here) =
        let same : other ≡ row =
        (let first = subst (λ (n : ℕ). slice_get (rows_of c directory) n ≡ Some other) here is in cc) in
        let equal = ap (λ each. each.generation) same in
        le-leb _ _ (omega arith)
    by k other is kept (inr (inl before)) =
        let texts = same_texts other row (and_parts _ _ kept).1 in
        let lower = lower_generation other row texts.0 texts.1 (rows_ascend c lawful directory k i other row before is at) in
        le-leb _ _ (omega arith)
    by k other is kept (inr (inr beyond)) =
        let none = clear.clear k other (omega arith) (slice_get_within (rows_of c directory) k other is) is in absurd (cc)

-- with no such row before it, it has the lowest
bottom_is : (c : Catalogue) → IsCatalogue c → (directory i : ℕ) (w : Wanted) (row : FileRow)
    → slice_get (rows_of c directory) i ≡ Some row → IsClear w (rows_of c directory) row 0 i
    → is_bottom w (rows_of c directory) row ≡ true
bottom_is c lawful directory i w row at clear =
    all_of_kept _ _ (rows_of c directory) (λ k other is kept. by k other is kept (cases_order k i))
  where
    by : (k : ℕ) (other : FileRow) → slice_get (rows_of c directory) k ≡ Some other → is_with w row other ≡ true
        → (k ≡ i) ⊎ ((k < i) ⊎ (i < k)) → nat_le row.generation other.generation ≡ true
    by k other is kept (inl here) =
        let same : other ≡ row =
        (let first = subst (λ (n : ℕ). slice_get (rows_of c directory) n ≡ Some other) here is in cc) in
        let equal = ap (λ each. each.generation) same in
        le-leb _ _ (omega arith)
    by k other is kept (inr (inr beyond)) =
        let texts = same_texts other row (and_parts _ _ kept).1 in
        let lower = lower_generation row other (sym texts.0) (sym texts.1) (rows_ascend c lawful directory i k row other beyond at is) in
        le-leb _ _ (omega arith)
    by k other is kept (inr (inl before)) = let none = clear.clear k other (omega arith) before is in absurd (cc)

-- another row that is seen with it
with_other : (c : Catalogue) (directory j : ℕ) (w : Wanted) (row other : FileRow) → is_seen w row ≡ true
    → slice_get (rows_of c directory) j ≡ Some other
    → Some true ≡ option_and_then (mark_of_same row w.deleted) (slice_get (rows_of c directory) j) → is_with w row other ≡ true
with_other c directory j w row other seen is mark =
    let found = alike row w.deleted true other (marked row w.deleted (rows_of c directory) j other (Some true) mark is) in
    let texts = same_texts other row found.0 in
    and_from _ _ (seen_alike w row other seen texts.0 texts.1 found.1) found.0

-- one of them after a row, and it has not the highest generation
top_is_not : (c : Catalogue) → IsCatalogue c → (directory i j : ℕ) (w : Wanted) (row : FileRow)
    → slice_get (rows_of c directory) i ≡ Some row → is_seen w row ≡ true → i < j → j < length (rows_of c directory)
    → Some true ≡ option_and_then (mark_of_same row w.deleted) (slice_get (rows_of c directory) j)
    → is_top w (rows_of c directory) row ≡ false
top_is_not c lawful directory i j w row at seen below within mark =
    let other = has_row (rows_of c directory) j within in
    let kept = with_other c directory j w row other.row seen other.is mark in
    let texts = same_texts other.row row (and_parts _ _ kept).1 in
    let lower = lower_generation row other.row (sym texts.0) (sym texts.1) (rows_ascend c lawful directory i j row other.row below at other.is) in
    false_from_ne_true _ (λ all.
    let under = leb-true _ _ (all_kept_at (λ each. nat_le each.generation row.generation) (is_with w row) (rows_of c directory) j other.row all other.is kept) in
    absurd (omega arith))

bottom_is_not : (c : Catalogue) → IsCatalogue c → (directory i j : ℕ) (w : Wanted) (row : FileRow)
    → slice_get (rows_of c directory) i ≡ Some row → is_seen w row ≡ true → j < i
    → Some true ≡ option_and_then (mark_of_same row w.deleted) (slice_get (rows_of c directory) j)
    → is_bottom w (rows_of c directory) row ≡ false
bottom_is_not c lawful directory i j w row at seen below mark =
    let within = slice_get_within (rows_of c directory) i row at in
    let other = has_row (rows_of c directory) j (omega arith) in
    let kept = with_other c directory j w row other.row seen other.is mark in
    let texts = same_texts other.row row (and_parts _ _ kept).1 in
    let lower = lower_generation other.row row texts.0 texts.1 (rows_ascend c lawful directory j i other.row row below other.is at) in
    false_from_ne_true _ (λ all.
    let over = leb-true _ _ (all_kept_at (λ each. nat_le row.generation each.generation) (is_with w row) (rows_of c directory) j other.row all other.is kept) in
    absurd (omega arith))

-- what a row passes that is there
passed : (test : FileRow → Bool) (rows : List FileRow) (i : ℕ) (row : FileRow) → slice_get rows i ≡ Some row
    → passes_at test rows i ≡ test row
passed test rows i row is = ap (λ found. option_map_or test found false) is

-- the walk after a row: it meets another file, one that is seen, or the end
pub top_ends : (c : Catalogue) → IsCatalogue c → (directory i j : ℕ) (w : Wanted) (row : FileRow)
    → slice_get (rows_of c directory) i ≡ Some row → IsClear w (rows_of c directory) row (i + 1) j → i < j
    → j < length (rows_of c directory)
    → None ≡ option_and_then (mark_of_same row w.deleted) (slice_get (rows_of c directory) j)
    → true ≡ passes_at (is_top w (rows_of c directory)) (rows_of c directory) i
top_ends c lawful directory i j w row at clear below within none =
    sym (passed _ (rows_of c directory) i row at
    ∙ top_is c lawful directory i w row at (clear_to_end c lawful directory i j w row at below within clear none))

pub top_fails : (c : Catalogue) → IsCatalogue c → (directory i j : ℕ) (w : Wanted) (row : FileRow)
    → slice_get (rows_of c directory) i ≡ Some row → passes_at (is_seen w) (rows_of c directory) i ≡ true → i < j
    → j < length (rows_of c directory)
    → Some true ≡ option_and_then (mark_of_same row w.deleted) (slice_get (rows_of c directory) j)
    → false ≡ passes_at (is_top w (rows_of c directory)) (rows_of c directory) i
top_fails c lawful directory i j w row at seen below within mark =
    sym (passed _ (rows_of c directory) i row at
    ∙ top_is_not c lawful directory i j w row at (sym (passed (is_seen w) (rows_of c directory) i row at) ∙ seen) below within mark)

pub top_past : (c : Catalogue) → IsCatalogue c → (directory i j : ℕ) (w : Wanted) (row : FileRow)
    → slice_get (rows_of c directory) i ≡ Some row → IsClear w (rows_of c directory) row (i + 1) j
    → length (rows_of c directory) ≤ j → true ≡ passes_at (is_top w (rows_of c directory)) (rows_of c directory) i
top_past c lawful directory i j w row at clear past =
    let all : IsClear w (rows_of c directory) row (i + 1) (length (rows_of c directory)) =
    record { clear = λ k other after before is. clear.clear k other after (omega arith) is } in
    sym (passed _ (rows_of c directory) i row at ∙ top_is c lawful directory i w row at all)

-- the walk before a row
pub bottom_ends : (c : Catalogue) → IsCatalogue c → (directory i j : ℕ) (w : Wanted) (row : FileRow)
    → slice_get (rows_of c directory) i ≡ Some row → IsClear w (rows_of c directory) row (j + 1) i → j < i
    → None ≡ option_and_then (mark_of_same row w.deleted) (slice_get (rows_of c directory) j)
    → true ≡ passes_at (is_bottom w (rows_of c directory)) (rows_of c directory) i
bottom_ends c lawful directory i j w row at clear below none =
    sym (passed _ (rows_of c directory) i row at
    ∙ bottom_is c lawful directory i w row at (clear_to_start c lawful directory i j w row at below clear none))

pub bottom_fails : (c : Catalogue) → IsCatalogue c → (directory i j : ℕ) (w : Wanted) (row : FileRow)
    → slice_get (rows_of c directory) i ≡ Some row → passes_at (is_seen w) (rows_of c directory) i ≡ true → j < i
    → Some true ≡ option_and_then (mark_of_same row w.deleted) (slice_get (rows_of c directory) j)
    → false ≡ passes_at (is_bottom w (rows_of c directory)) (rows_of c directory) i
bottom_fails c lawful directory i j w row at seen below mark =
    sym (passed _ (rows_of c directory) i row at
    ∙ bottom_is_not c lawful directory i j w row at (sym (passed (is_seen w) (rows_of c directory) i row at) ∙ seen) below mark)

pub bottom_past : (c : Catalogue) → IsCatalogue c → (directory i j : ℕ) (w : Wanted) (row : FileRow)
    → slice_get (rows_of c directory) i ≡ Some row → IsClear w (rows_of c directory) row j i → j ≤ 0
    → true ≡ passes_at (is_bottom w (rows_of c directory)) (rows_of c directory) i
bottom_past c lawful directory i j w row at clear none =
    let all : IsClear w (rows_of c directory) row 0 i =
    record { clear = λ k other after before is. clear.clear k other (omega arith) before is } in
    sym (passed _ (rows_of c directory) i row at ∙ bottom_is c lawful directory i w row at all)

-- the goals of the walk after a row, and of the one before it
pub ruleset walk_after = (clear_none, clear_up, top_ends, top_fails, top_past)

pub ruleset walk_before = (clear_none, clear_down, bottom_ends, bottom_fails, bottom_past)
