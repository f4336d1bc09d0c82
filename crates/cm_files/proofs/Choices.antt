-- [file-field] One pass tells whether a row is selected: where some row may be, one is.
-- That some row is selected is one lemma over may_pass, for any total order.
use Rattle.std.proofs.Common.{◌≡◌, ℕ, ◌<◌, ◌≤◌, Bool, true, false, ◌&&◌, ◌||◌, nat_le, ◌⊎◌, inl, inr, List, [], ◌∷◌, filter, refl, ap, arith, ◌∙◌, sym, subst}
use Rattle.std.specs.List.{list_all, list_any}
use Rattle.std.specs.Str.{bytes_eq}
use Rattle.std.proofs.lemmas.Bool.{and_from, and_parts, cases_lt, le-leb, leb-true, or_cases, or_left, or_right}
use Rattle.cm_lists.proofs.Bools.{same_truth}
use Rattle.cm_lists.proofs.Filters.{filter_of_none, some_of_filter}
use Rattle.cm_lists.proofs.Texts.{bytes_eq-true, bytes_eq_itself}
use Rattle.cm_fields.specs.declared.value.Gen.{Gen}
use Rattle.cm_fields.specs.declared.value.Gen.TheVariants.{Missing, Highest, Next, Lowest, All, Number}
use Rattle.cm_files.specs.declared.row.FileRow.{FileRow}
use Rattle.cm_files.specs.RowTrials.{may_pass, may_take}
use Rattle.cm_files.specs.Selection.{Wanted, is_same_file, is_seen, is_selected, seen_with, selects, takes}

-- a row of a list: where it passes a test, some row of the list does
abbrev IsIn : FileRow → List FileRow → Type 0
IsIn row rows = (test : FileRow → Bool) → test row ≡ true → list_any test rows ≡ true

in_more : (row first : FileRow) (rows : List FileRow) → IsIn row rows → IsIn row (first ∷ rows)
in_more row first rows inside test passes = or_right (test first) _ (inside test passes)

in_first : (row : FileRow) (rows : List FileRow) → IsIn row (row ∷ rows)
in_first row rows test passes = or_left (test row) _ passes

record Found (test : FileRow → Bool) (rows : List FileRow) : Type 0 where
  row : FileRow
  passes : test row ≡ true
  inside : IsIn row rows

found : (test : FileRow → Bool) (rows : List FileRow) → list_any test rows ≡ true → Found test rows
found test [] some = absurd (cc)
found test (row ∷ rows) some = by (or_cases (test row) (list_any test rows) some) (found test rows)
  where
    by : (test row ≡ true) ⊎ (list_any test rows ≡ true) → (list_any test rows ≡ true → Found test rows) → Found test (row ∷ rows)
    by (inl here) rest = record { row = row; passes = here; inside = in_first row rows }
    by (inr later) rest =
        let after = rest later in
        record { row = after.row; passes = after.passes; inside = in_more after.row row rows after.inside }

-- an order of generations, upward or downward
record IsOrder (below : ℕ → ℕ → Bool) : Type 0 where
  chain : (a b c : ℕ) → below a b ≡ true → below b c ≡ true → below a c ≡ true
  either : (a b : ℕ) → (below a b ≡ true) ⊎ (below b a ≡ true)

either_itself : (below : ℕ → ℕ → Bool) → IsOrder below → (a : ℕ) → below a a ≡ true
either_itself below order a = by (order.either a a)
  where
    by : (below a a ≡ true) ⊎ (below a a ≡ true) → below a a ≡ true
    by (inl is) = is
    by (inr is) = is

upward : IsOrder nat_le
upward =
    record {
      chain = λ (a b c : ℕ) (first : nat_le a b ≡ true) (second : nat_le b c ≡ true).
          le-leb a c (let x = leb-true a b first in let y = leb-true b c second in omega arith);
      either = λ (a b : ℕ). by a b (cases_lt a b);
    }
  where
    by : (a b : ℕ) → (a < b) ⊎ (b ≤ a) → (nat_le a b ≡ true) ⊎ (nat_le b a ≡ true)
    by a b (inl less) = inl (le-leb a b (omega arith))
    by a b (inr more) = inr (le-leb b a more)

downward : IsOrder (λ a b. nat_le b a)
downward =
    record {
      chain = λ (a b c : ℕ) (first : nat_le b a ≡ true) (second : nat_le c b ≡ true). upward.chain c b a second first;
      either = λ (a b : ℕ). upward.either b a;
    }

-- each of the rows is below this generation
abbrev are_below : (ℕ → ℕ → Bool) → ℕ → List FileRow → Bool
are_below below most rows = list_all (λ row. below row.generation most) rows

all_below : (below : ℕ → ℕ → Bool) → IsOrder below → (less most : ℕ) (rows : List FileRow) → below less most ≡ true
    → are_below below less rows ≡ true → are_below below most rows ≡ true
all_below below order less most [] under all = refl
all_below below order less most (row ∷ rows) under all =
    and_from _ _ (order.chain row.generation less most (and_parts _ _ all).0 under)
    (all_below below order less most rows under (and_parts _ _ all).1)

-- the row of those that pass that none of them is above
record Best (below : ℕ → ℕ → Bool) (test : FileRow → Bool) (rows : List FileRow) : Type 0 where
  row : FileRow
  passes : test row ≡ true
  inside : IsIn row rows
  above : are_below below row.generation (filter test rows) ≡ true

best : (below : ℕ → ℕ → Bool) → IsOrder below → (test : FileRow → Bool) (rows : List FileRow) → list_any test rows ≡ true
    → Best below test rows
best below order test [] some = absurd (cc)
best below order test (row ∷ rows) some =
    by (test row) refl (list_any test rows) refl some (best below order test rows)
  where
    either_best : test row ≡ true → (rest : Best below test rows)
        → (below row.generation rest.row.generation ≡ true) ⊎ (below rest.row.generation row.generation ≡ true)
        → Best below test (row ∷ rows)
    either_best here rest (inl under) = record {
      row = rest.row;
      passes = rest.passes;
      inside = in_more rest.row row rows rest.inside;
      above = rw here (and_from _ _ under rest.above);
    }
    either_best here rest (inr over) = record {
      row = row;
      passes = here;
      inside = in_first row rows;
      above = rw here (and_from _ _ (either_itself below order row.generation) (all_below below order _ _ (filter test rows) over rest.above));
    }

    by : (first : Bool) → test row ≡ first → (later : Bool) → list_any test rows ≡ later → (first || later) ≡ true
        → (list_any test rows ≡ true → Best below test rows) → Best below test (row ∷ rows)
    by true here true there is rest =
        either_best here (rest there) (order.either row.generation (rest there).row.generation)
    by true here false there is rest = record {
      row = row;
      passes = here;
      inside = in_first row rows;
      above = rw (here, filter_of_none test rows there) (and_from _ _ (either_itself below order row.generation) refl);
    }
    by false here later there is rest =
        let after = rest (there ∙ is) in
        record {
          row = after.row;
          passes = after.passes;
          inside = in_more after.row row rows after.inside;
          above = rw here after.above;
        }

itself : (row : FileRow) → is_same_file row row ≡ true
itself row = and_from _ _ (bytes_eq_itself row.name) (bytes_eq_itself row.kind)

-- rows of one name and type are seen with the same rows
same_seen : (w : Wanted) (rows : List FileRow) (row other : FileRow) → is_same_file row other ≡ true
    → seen_with w rows row ≡ seen_with w rows other
same_seen w rows row other same =
    let name = bytes_eq-true row.name other.name (and_parts _ _ same).0 in
    let kind = bytes_eq-true row.kind other.kind (and_parts _ _ same).1 in
    ap (λ text. filter (λ each. is_seen w each && (bytes_eq each.name text && bytes_eq each.kind row.kind)) rows) name
    ∙ ap (λ text. filter (λ each. is_seen w each && (bytes_eq each.name other.name && bytes_eq each.kind text)) rows) kind

-- a row that is seen and taken
record Taken (w : Wanted) (rows : List FileRow) (generation : Gen) (all : Bool) : Type 0 where
  row : FileRow
  seen : is_seen w row ≡ true
  taken : takes generation all (seen_with w rows row) row.generation ≡ true
  inside : IsIn row rows

-- the best of the rows seen with a row
best_with : (below : ℕ → ℕ → Bool) → IsOrder below → (w : Wanted) (rows : List FileRow) (row : FileRow) → is_seen w row ≡ true
    → IsIn row rows → Best below (λ other. is_seen w other && is_same_file other row) rows
best_with below order w rows row seen inside =
    best below order _ rows (inside (λ other. is_seen w other && is_same_file other row) (and_from _ _ seen (itself row)))

best_above : (below : ℕ → ℕ → Bool) (w : Wanted) (rows : List FileRow) (row : FileRow)
    → (top : Best below (λ other. is_seen w other && is_same_file other row) rows)
    → are_below below top.row.generation (seen_with w rows top.row) ≡ true
best_above below w rows row top =
    let same = same_seen w rows top.row row (and_parts _ _ top.passes).1 in
    subst (λ (seen : List FileRow). are_below below top.row.generation seen ≡ true) (sym same) top.above

some_taken : (w : Wanted) (rows : List FileRow) (row : FileRow) (generation : Gen) (all : Bool) → is_seen w row ≡ true
    → IsIn row rows → may_take generation row.generation ≡ true → Taken w rows generation all
some_taken w rows row Missing true seen inside may = record { row = row; seen = seen; taken = refl; inside = inside }
some_taken w rows row Missing false seen inside may =
    let top = best_with nat_le upward w rows row seen inside in
    record {
      row = top.row;
      seen = (and_parts _ _ top.passes).0;
      taken = best_above nat_le w rows row top;
      inside = top.inside;
    }
some_taken w rows row Highest all seen inside may =
    let top = best_with nat_le upward w rows row seen inside in
    record {
      row = top.row;
      seen = (and_parts _ _ top.passes).0;
      taken = best_above nat_le w rows row top;
      inside = top.inside;
    }
some_taken w rows row Next all seen inside may = absurd (cc)
some_taken w rows row Lowest all seen inside may =
    let top = best_with (λ a b. nat_le b a) downward w rows row seen inside in
    record {
      row = top.row;
      seen = (and_parts _ _ top.passes).0;
      taken = best_above (λ a b. nat_le b a) w rows row top;
      inside = top.inside;
    }
some_taken w rows row All all seen inside may = record { row = row; seen = seen; taken = refl; inside = inside }
some_taken w rows row (Number number) all seen inside may = record { row = row; seen = seen; taken = may; inside = inside }

-- what is taken may be taken
may_be_taken : (generation : Gen) (all : Bool) (seen : List FileRow) (number : ℕ) → takes generation all seen number ≡ true
    → may_take generation number ≡ true
may_be_taken Missing all seen number taken = refl
may_be_taken Highest all seen number taken = refl
may_be_taken Next all seen number taken = taken
may_be_taken Lowest all seen number taken = refl
may_be_taken All all seen number taken = refl
may_be_taken (Number wanted) all seen number taken = taken

selected_where_may : (w : Wanted) (rows : List FileRow) → list_any (may_pass w) rows ≡ true
    → list_any (is_selected w rows) rows ≡ true
unfolding may_pass is_selected
selected_where_may w rows some =
    let first = found (may_pass w) rows some in
    let parts = and_parts _ _ first.passes in
    let top = some_taken w rows first.row w.generation w.all_generations parts.0 first.inside parts.1 in
    top.inside (is_selected w rows) (and_from _ _ top.seen top.taken)

may_where_selected : (w : Wanted) (rows : List FileRow) → list_any (is_selected w rows) rows ≡ true
    → list_any (may_pass w) rows ≡ true
unfolding may_pass is_selected
may_where_selected w rows some =
    let first = found (is_selected w rows) rows some in
    let parts = and_parts _ _ first.passes in
    first.inside (may_pass w) (and_from _ _ parts.0 (may_be_taken w.generation w.all_generations _ _ parts.1))

-- some row is selected exactly where some row may be
pub any_may_pass : (w : Wanted) (rows : List FileRow) → list_any (may_pass w) rows ≡ selects w rows
any_may_pass w rows =
    same_truth _ _ (selected_where_may w rows) (may_where_selected w rows) ∙ sym (some_of_filter (is_selected w rows) rows)
