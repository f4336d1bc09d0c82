-- The elements that pass a test.
use Rattle.std.proofs.Common.{Bool, Contains, List, Some, [], ap, arith, cond, false, filter, find, get_or, if◌then◌else◌, length, map, nat_lt, not, refl, slice_get, subst, suc, sym, true, zero, ℕ, ◌++◌, ◌+◌, ◌<◌, ◌||◌, ◌∙◌, ◌∷◌, ◌≡◌, ◌≤◌}
use Rattle.std.specs.List.{list_all, list_any}
use Rattle.std.proofs.lemmas.Bool.{and_parts, lt-ltb, not-true}
use Rattle.std.proofs.lemmas.List.Elements.{filter-append}

pub Contains-cons : {X : Type 0} (first x : X) (xs : List X) → Contains xs x → Contains (first ∷ xs) x
Contains-cons first x xs there = (suc there.0, omega (arith, there.1), there.2)

pub Contains-cond : {X : Type 0} (b : Bool) (first x : X) (rest : List X) → Contains rest x → Contains (cond b (first ∷ rest) rest) x
Contains-cond true first x rest there = Contains-cons first x rest there
Contains-cond false first x rest there = there

pub Contains_of_kept : {X : Type 0} (test : X → Bool) (first x : X) (xs rest : List X) (b : Bool) (k : ℕ) → test first ≡ b
    → k < length (cond b (first ∷ rest) rest) → get_or (cond b (first ∷ rest) rest) k x ≡ x
    → (Contains rest x → Contains xs x × (test x ≡ true)) → Contains (first ∷ xs) x × (test x ≡ true)
Contains_of_kept test first x xs rest true zero is lt at more = ((0, omega arith, at), subst (λ other. test other ≡ true) at is)
Contains_of_kept test first x xs rest true (suc k) is lt at more =
    let found : Contains xs x × (test x ≡ true) = more (k, omega arith, at) in
    (Contains-cons first x xs found.0, found.1)
Contains_of_kept test first x xs rest false k is lt at more =
    let found : Contains xs x × (test x ≡ true) = more (k, lt, at) in
    (Contains-cons first x xs found.0, found.1)

pub Contains_of_filter : {X : Type 0} (test : X → Bool) (x : X) (xs : List X) → Contains (filter test xs) x → Contains xs x × (test x ≡ true)
Contains_of_filter test x [] there = absurd (omega (arith, there.1))
Contains_of_filter test x (first ∷ xs) there =
    Contains_of_kept test first x xs (filter test xs) _ there.0 refl there.1 there.2 (Contains_of_filter test x xs)

pub Contains-filter : {X : Type 0} (test : X → Bool) (x : X) (xs : List X) (k : ℕ) → k < length xs → get_or xs k x ≡ x → test x ≡ true
    → Contains (filter test xs) x
Contains-filter test x [] k lt at is = absurd (omega arith)
Contains-filter test x (first ∷ xs) zero lt at is =
    let here : test first ≡ true = subst (λ other. test other ≡ true) (sym at) is in
    rw here (0, omega arith, at)
Contains-filter test x (first ∷ xs) (suc k) lt at is =
    Contains-cond (test first) first x (filter test xs) (Contains-filter test x xs k (omega arith) at is)

-- what passes a test is found among what passes a wider one
pub filter_within : {X : Type 0} (test keep : X → Bool) → ((x : X) → test x ≡ true → keep x ≡ true) → (xs : List X)
    → filter test (filter keep xs) ≡ filter test xs
filter_within test keep within [] = refl
filter_within {X} test keep within (x ∷ xs) = by (test x) (keep x) refl (within x) (filter_within test keep within xs)
  where
    by : (passes kept : Bool) → test x ≡ passes → (test x ≡ true → kept ≡ true) → filter test (filter keep xs) ≡ filter test xs
        → filter test (cond kept (x ∷ filter keep xs) (filter keep xs)) ≡ cond passes (x ∷ filter test xs) (filter test xs)
    by true true is here rest = rw is (ap (λ more. x ∷ more) rest)
    by true false is here rest = let never : false ≡ true = here is in absurd (cc)
    by false true is here rest = rw is rest
    by false false is here rest = rest

pub find_within : {X : Type 0} (test keep : X → Bool) → ((x : X) → test x ≡ true → keep x ≡ true) → (xs : List X)
    → find test (filter keep xs) ≡ find test xs
find_within test keep within [] = refl
find_within {X} test keep within (x ∷ xs) = by (test x) (keep x) refl (within x) (find_within test keep within xs)
  where
    by : (passes kept : Bool) → test x ≡ passes → (test x ≡ true → kept ≡ true) → find test (filter keep xs) ≡ find test xs
        → find test (cond kept (x ∷ filter keep xs) (filter keep xs)) ≡ cond passes (Some x) (find test xs)
    by true true is here rest = rw is refl
    by true false is here rest = let never : false ≡ true = here is in absurd (cc)
    by false true is here rest = rw is rest
    by false false is here rest = rest

pub filter-map : {X Y : Type 0} (test : Y → Bool) (f : X → Y) (xs : List X)
    → filter test (map f xs) ≡ map f (filter (λ x. test (f x)) xs)
filter-map test f [] = refl
filter-map {X} {Y} test f (x ∷ xs) = by (test (f x)) (filter-map test f xs)
  where
    by : (is : Bool) → filter test (map f xs) ≡ map f (filter (λ x. test (f x)) xs)
        → cond is (f x ∷ filter test (map f xs)) (filter test (map f xs))
        ≡ map f (cond is (x ∷ filter (λ x. test (f x)) xs) (filter (λ x. test (f x)) xs))
    by true rest = ap (λ more. f x ∷ more) rest
    by false rest = rest

pub filter_same : {X : Type 0} (all test other : X → Bool) → ((x : X) → all x ≡ true → test x ≡ other x) → (xs : List X)
    → list_all all xs ≡ true → filter test xs ≡ filter other xs
filter_same all test other same [] pass = refl
filter_same all test other same (x ∷ xs) pass =
    let parts = and_parts _ _ pass in
    ap (λ is. cond is (x ∷ filter test xs) (filter test xs)) (same x parts.0)
    ∙ ap (λ more. cond (other x) (x ∷ more) more) (filter_same all test other same xs parts.1)

-- an element that passes a test is among those that do
pub filter_stands : {X : Type 0} (test : X → Bool) (front back : List X) (x : X) → test x ≡ true
    → filter test (front ++ x ∷ back) ≡ filter test front ++ x ∷ filter test back
filter_stands test front back x passes = filter-append test front (x ∷ back) ∙ rw passes refl

-- where none passes none is kept, and where no two do at most one is
pub filter_none : {X : Type 0} (test : X → Bool) (xs : List X) → ((j : ℕ) (y : X) → slice_get xs j ≡ Some y → test y ≡ true → ⊥)
    → filter test xs ≡ []
filter_none test [] never = refl
filter_none {X} test (x ∷ xs) never = by (test x) refl (filter_none test xs (λ j y is. never (suc j) y is))
  where
    by : (passes : Bool) → test x ≡ passes → filter test xs ≡ [] → cond passes (x ∷ filter test xs) (filter test xs) ≡ []
    by true passes rest = absurd (never 0 x refl passes)
    by false passes rest = rest

pub none_kept : {X : Type 0} (test : X → Bool) (xs : List X) → list_all (λ x. not (test x)) xs ≡ true → filter test xs ≡ []
none_kept test [] none = refl
none_kept test (x ∷ xs) none =
    let parts = and_parts (not (test x)) (list_all (λ x. not (test x)) xs) none in
    rw (not-true (test x) parts.0) (none_kept test xs parts.1)

pub filter_at_most_one : {X : Type 0} (test : X → Bool) (xs : List X)
    → ((i j : ℕ) (x y : X) → i < j → slice_get xs i ≡ Some x → slice_get xs j ≡ Some y → test x ≡ true → test y ≡ true → ⊥)
    → length (filter test xs) ≤ 1
filter_at_most_one test [] never = omega arith
filter_at_most_one {X} test (x ∷ xs) never =
    by (test x) refl (filter_at_most_one test xs (λ i j a b less is is_other. never (suc i) (suc j) a b (omega arith) is is_other))
  where
    by : (passes : Bool) → test x ≡ passes → length (filter test xs) ≤ 1
        → length (cond passes (x ∷ filter test xs) (filter test xs)) ≤ 1
    by true passes rest =
        let none = filter_none test xs (λ j y is. never 0 (suc j) x y (omega arith) refl is passes) in
        let size = ap length none in
        omega arith
    by false passes rest = rest

-- one element more is counted alone
pub length-filter_cons : {X : Type 0} (test : X → Bool) (x : X) (more : List X)
    → length (filter test (x ∷ more)) ≡ length (filter test (x ∷ [])) + length (filter test more)
length-filter_cons {X} test x more = by (test x)
  where
    by : (passes : Bool) → length (if passes then x ∷ filter test more else filter test more)
        ≡ length (if passes then x ∷ [] else []) + length (filter test more)
    by true = omega arith
    by false = omega arith

pub filter_of_none : {X : Type 0} (test : X → Bool) (xs : List X) → list_any test xs ≡ false → filter test xs ≡ []
filter_of_none test [] none = refl
filter_of_none test (x ∷ xs) none = by (test x) none (filter_of_none test xs)
  where
    by : (first : Bool) → (first || list_any test xs) ≡ false → (list_any test xs ≡ false → filter test xs ≡ [])
        → cond first (x ∷ filter test xs) (filter test xs) ≡ []
    by true none rest = absurd (cc)
    by false none rest = rest none

pub some_of_filter : {X : Type 0} (test : X → Bool) (xs : List X) → nat_lt 0 (length (filter test xs)) ≡ list_any test xs
some_of_filter test [] = refl
some_of_filter test (x ∷ xs) = by (test x) (some_of_filter test xs)
  where
    by : (first : Bool) → nat_lt 0 (length (filter test xs)) ≡ list_any test xs
        → nat_lt 0 (length (cond first (x ∷ filter test xs) (filter test xs))) ≡ (first || list_any test xs)
    by true rest = lt-ltb 0 (suc (length (filter test xs))) (omega arith)
    by false rest = rest
