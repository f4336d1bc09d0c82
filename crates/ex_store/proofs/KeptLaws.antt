-- Retention changes the rows of one key, and looks at no others.
use Rattle.std.proofs.Common.{◌≡◌, ℕ, ◌&&◌, nat_le, Bool, true, false, not, cond, List, [], ◌∷◌, ◌++◌, map, filter, refl, ap}
use Rattle.std.specs.List.{list_all}
use Rattle.std.proofs.lemmas.Bool.{and_parts, not-true}
use Rattle.ex_generations.specs.Retention.{live}
use Rattle.ex_store.specs.declared.key.Key.{Key}
use Rattle.ex_store.specs.declared.row.Row.{Row}
use Rattle.ex_store.specs.Rows.{files_of, is_of, kept_newest, with_mark}

-- none of these rows is of the key
abbrev pub none_of : Key → List Row → Bool
none_of key rows = list_all (λ row. not (is_of key row)) rows

pub kept_lower : (count : ℕ) (key : Key) (lower more : List Row) → none_of key lower ≡ true
    → kept_newest count key (lower ++ more) ≡ lower ++ kept_newest count key more
kept_lower count key [] more none = refl
kept_lower count key (row ∷ lower) more none =
    let parts = and_parts _ _ none in
    rw (not-true (is_of key row) parts.0) (ap (λ rest. row ∷ rest) (kept_lower count key lower more parts.1))

kept_none : (count : ℕ) (key : Key) (rows : List Row) → none_of key rows ≡ true → kept_newest count key rows ≡ rows
kept_none count key [] none = refl
kept_none count key (row ∷ rows) none =
    let parts = and_parts _ _ none in
    rw (not-true (is_of key row) parts.0) (ap (λ rest. row ∷ rest) (kept_none count key rows parts.1))

pub files_none : (key : Key) (rows : List Row) → none_of key rows ≡ true → files_of key rows ≡ []
files_none key [] none = refl
files_none key (row ∷ rows) none =
    let parts = and_parts _ _ none in rw (not-true (is_of key row) parts.0) (files_none key rows parts.1)

pub files_upper : (key : Key) (middle upper : List Row) → none_of key upper ≡ true
    → files_of key (middle ++ upper) ≡ files_of key middle
files_upper key [] upper none = files_none key upper none
files_upper key (row ∷ middle) upper none = by (is_of key row) (files_upper key middle upper none)
  where
    by : (b : Bool) → files_of key (middle ++ upper) ≡ files_of key middle
        → map (λ (each : Row). each.file) (cond b (row ∷ filter (is_of key) (middle ++ upper)) (filter (is_of key) (middle ++ upper)))
        ≡ map (λ (each : Row). each.file) (cond b (row ∷ filter (is_of key) middle) (filter (is_of key) middle))
    by true rest = ap (λ files. row.file ∷ files) rest
    by false rest = rest

pub kept_upper : (count : ℕ) (key : Key) (middle upper : List Row) → none_of key upper ≡ true
    → kept_newest count key (middle ++ upper) ≡ kept_newest count key middle ++ upper
kept_upper count key [] upper none = kept_none count key upper none
kept_upper count key (row ∷ middle) upper none =
    rw (files_upper key middle upper none)
    (ap (λ rest. cond (is_of key row && nat_le count (live (files_of key middle))) (with_mark true row) row ∷ rest)
    (kept_upper count key middle upper none))
