-- What all elements pass, and what none does.
use Rattle.std.proofs.Common.{Bool, List, Some, [], ap, append_assoc, arith, cond, drop, false, filter, get_or, length, map, nat_lt, not, refl, slice_get, subst, suc, sym, take, true, zero, ℕ, ◌&&◌, ◌++◌, ◌+◌, ◌<◌, ◌||◌, ◌∙◌, ◌∷◌, ◌≡◌, ◌≤◌}
use Rattle.std.specs.List.{AllByRecursion, AllWithin, list_all, list_any, remove}
use Rattle.std.proofs.lemmas.Bool.{and_from, and_parts, ltb-true}
use Rattle.std.proofs.lemmas.List.{at_drop_more, drop_all}
use Rattle.std.proofs.lemmas.List.Folds.{list_all-append}
use Rattle.std.proofs.lemmas.Option.{slice_get-get_or}

-- an element of a list of which a fact holds of each
pub AllByRecursion-at : {X : Type 0} (P : X → Type 0) (xs : List X) → AllByRecursion P xs → (i : ℕ) (d : X) → i < length xs
    → P (get_or xs i d)
AllByRecursion-at P [] all i d within = absurd (omega arith)
AllByRecursion-at P (x ∷ xs) all zero d within = all.0
AllByRecursion-at P (x ∷ xs) all (suc i) d within = AllByRecursion-at P xs all.1 i d (omega arith)

-- what holds of the elements within a range holds of those that are taken, or dropped
pub AllByRecursion-take : {X : Type 0} (P : X → Type 0) (xs : List X) (n : ℕ) → AllWithin P xs 0 n → n ≤ length xs
    → AllByRecursion P (take n xs)
AllByRecursion-take P [] zero all most = tt
AllByRecursion-take P [] (suc n) all most = absurd (omega arith)
AllByRecursion-take P (x ∷ xs) zero all most = tt
AllByRecursion-take P (x ∷ xs) (suc n) all most = (
  all 0 x (omega arith) (omega arith),
  AllByRecursion-take P xs n (λ k d low high. all (suc k) d (omega arith) (omega arith)) (omega arith),
)

pub AllByRecursion-drop_within : {X : Type 0} (P : X → Type 0) (xs : List X) (n : ℕ) → AllWithin P xs n (length xs)
    → AllByRecursion P (drop n xs)
AllByRecursion-drop_within P [] zero all = tt
AllByRecursion-drop_within P [] (suc n) all = tt
AllByRecursion-drop_within P (x ∷ xs) zero all =
    (all 0 x (omega arith) (omega arith), AllByRecursion-drop_within P xs 0 (λ k d low high. all (suc k) d (omega arith) (omega arith)))
AllByRecursion-drop_within P (x ∷ xs) (suc n) all = AllByRecursion-drop_within P xs n (λ k d low high. all (suc k) d (omega arith) (omega arith))

-- what holds of each holds in other words
pub AllByRecursion_then : {X : Type 0} (P Q : X → Type 0) → ((x : X) → P x → Q x) → (xs : List X) → AllByRecursion P xs
    → AllByRecursion Q xs
AllByRecursion_then P Q change [] all = tt
AllByRecursion_then P Q change (x ∷ xs) all = (change x all.0, AllByRecursion_then P Q change xs all.1)

pub AllByRecursion-drop : (P : ℕ → Type 0) (size : ℕ) (text : List ℕ) → AllByRecursion P text → AllByRecursion P (drop size text)
AllByRecursion-drop P zero text all = all
AllByRecursion-drop P (suc size) [] all = tt
AllByRecursion-drop P (suc size) (byte ∷ text) all = AllByRecursion-drop P size text all.1

pub AllByRecursion-append : (P : ℕ → Type 0) (text more : List ℕ) → AllByRecursion P text → AllByRecursion P more
    → AllByRecursion P (text ++ more)
AllByRecursion-append P [] more first second = second
AllByRecursion-append P (byte ∷ text) more first second = (first.0, AllByRecursion-append P text more first.1 second)

-- a weaker test is passed too
pub all_weaker : {X : Type 0} (p q : X → Bool) → ((x : X) → p x ≡ true → q x ≡ true) → (xs : List X) → list_all p xs ≡ true
    → list_all q xs ≡ true
all_weaker p q one [] all = refl
all_weaker p q one (x ∷ xs) all =
    let parts = and_parts (p x) (list_all p xs) all in
    and_from (q x) (list_all q xs) (one x parts.0) (all_weaker p q one xs parts.1)

pub all_drop : {X : Type 0} (test : X → Bool) (n : ℕ) (xs : List X) → list_all test xs ≡ true → list_all test (drop n xs) ≡ true
all_drop test zero [] all = refl
all_drop test zero (x ∷ xs) all = all
all_drop test (suc n) [] all = refl
all_drop test (suc n) (x ∷ xs) all = all_drop test n xs (and_parts _ _ all).1

pub all_take : {X : Type 0} (test : X → Bool) (k : ℕ) (bytes : List X) → list_all test bytes ≡ true → list_all test (take k bytes) ≡ true
all_take test zero bytes all = refl
all_take test (suc k) [] all = refl
all_take test (suc k) (byte ∷ bytes) all =
    let both = and_parts (test byte) (list_all test bytes) all in
    and_from (test byte) (list_all test (take k bytes)) both.0 (all_take test k bytes both.1)

pub all_append : {X : Type 0} (test : X → Bool) (xs ys : List X) → list_all test xs ≡ true → list_all test ys ≡ true
    → list_all test (xs ++ ys) ≡ true
all_append test xs ys first rest = list_all-append test xs ys ∙ and_from _ _ first rest

pub all_append_right : {X : Type 0} (p : X → Bool) (front rest : List X) → list_all p (front ++ rest) ≡ true → list_all p rest ≡ true
all_append_right p [] rest all = all
all_append_right p (byte ∷ front) rest all = all_append_right p front rest (and_parts (p byte) (list_all p (front ++ rest)) all).1

-- what is so of all is so of the last
pub all_last : {X : Type 0} (test : X → Bool) (xs : List X) (x : X) → list_all test (xs ++ x ∷ []) ≡ true → test x ≡ true
all_last test [] x all = (and_parts _ _ all).0
all_last test (other ∷ xs) x all = all_last test xs x (and_parts _ _ all).1

-- one more that passes
pub all_push : {X : Type 0} (test : X → Bool) (xs : List X) (x : X) → list_all test xs ≡ true → test x ≡ true
    → list_all test (xs ++ x ∷ []) ≡ true
all_push test xs x all passes = list_all-append test xs (x ∷ []) ∙ and_from _ _ all (and_from _ _ passes refl)

-- two parts, and a byte between them
pub all_joined : {X : Type 0} (p : X → Bool) (front : List X) (byte : X) (rest : List X) → list_all p front ≡ true → p byte ≡ true
    → list_all p rest ≡ true → list_all p (front ++ byte ∷ rest) ≡ true
all_joined p front byte rest one between two =
    list_all-append p front (byte ∷ rest)
    ∙ and_from (list_all p front) (list_all p (byte ∷ rest)) one (and_from (p byte) (list_all p rest) between two)

-- where there is none, each passes
pub all_none : {X : Type 0} (test : X → Bool) (xs : List X) → xs ≡ [] → list_all test xs ≡ true
all_none test xs none = rw none refl

pub all_true : {X : Type 0} (xs : List X) → list_all (λ _. true) xs ≡ true
all_true [] = refl
all_true (x ∷ xs) = all_true xs

pub all_kept : {X : Type 0} (keep : X → Bool) (xs : List X) → list_all keep (filter keep xs) ≡ true
all_kept keep [] = refl
all_kept {X} keep (x ∷ xs) = by (keep x) refl (all_kept keep xs)
  where
    by : (kept : Bool) → keep x ≡ kept → list_all keep (filter keep xs) ≡ true
        → list_all keep (cond kept (x ∷ filter keep xs) (filter keep xs)) ≡ true
    by true is rest = and_from _ _ is rest
    by false is rest = rest

-- what all elements pass, those that are kept pass
pub all_filter : {X : Type 0} (test keep : X → Bool) (xs : List X) → list_all test xs ≡ true
    → list_all test (filter keep xs) ≡ true
all_filter test keep [] all = refl
all_filter test keep (x ∷ xs) all = by (keep x) (all_filter test keep xs (and_parts _ _ all).1)
  where
    by : (kept : Bool) → list_all test (filter keep xs) ≡ true
        → list_all test (cond kept (x ∷ filter keep xs) (filter keep xs)) ≡ true
    by true rest = and_from _ _ (and_parts _ _ all).0 rest
    by false rest = rest

pub all_map : {X Y : Type 0} (test : X → Bool) (other : Y → Bool) (f : X → Y)
    → ((x : X) → test x ≡ true → other (f x) ≡ true) → (xs : List X) → list_all test xs ≡ true
    → list_all other (map f xs) ≡ true
all_map test other f each [] all = refl
all_map test other f each (x ∷ xs) all =
    let parts = and_parts _ _ all in and_from _ _ (each x parts.0) (all_map test other f each xs parts.1)

-- two functions that agree where a test is passed, of elements that all pass it
pub map_same : {X Y : Type 0} (all : X → Bool) (f g : X → Y) → ((x : X) → all x ≡ true → f x ≡ g x) → (xs : List X)
    → list_all all xs ≡ true → map f xs ≡ map g xs
map_same all f g same [] are = refl
map_same {X} {Y} all f g same (x ∷ xs) are =
    let parts = and_parts (all x) (list_all all xs) are in
    ap (λ (y : Y). y ∷ map f xs) (same x parts.0) ∙ ap (λ (more : List Y). g x ∷ more) (map_same all f g same xs parts.1)

-- what is so of all is so of all but one
pub all_remove : {X : Type 0} (test : X → Bool) (xs : List X) (i : ℕ) → list_all test xs ≡ true
    → list_all test (remove xs i) ≡ true
all_remove test [] zero all = refl
all_remove test [] (suc i) all = refl
all_remove test (x ∷ xs) zero all = (and_parts _ _ all).1
all_remove test (x ∷ xs) (suc i) all =
    and_from _ _ (and_parts _ _ all).0 (all_remove test xs i (and_parts _ _ all).1)

-- what all pass, one of them passes
pub all_at : {X : Type 0} (test : X → Bool) (xs : List X) (i : ℕ) (x : X) → list_all test xs ≡ true → slice_get xs i ≡ Some x
    → test x ≡ true
all_at test [] i x all is = absurd (cc)
all_at {X} test (first ∷ xs) zero x all is =
    let same : first ≡ x = cc in subst (λ (each : X). test each ≡ true) same (and_parts _ _ all).0
all_at test (first ∷ xs) (suc i) x all is = all_at test xs i x (and_parts _ _ all).1 is

-- a place among some that are within a list is within it
pub all_below : (positions : List ℕ) (n i at : ℕ) → list_all (λ position. nat_lt position n) positions ≡ true → i < length positions
    → at ≡ get_or positions i 0 → at < n
all_below positions n i at all within is =
    let passes = all_at (λ position. nat_lt position n) positions i (get_or positions i 0) all (slice_get-get_or positions i 0 within) in
    omega (arith, ltb-true (get_or positions i 0) n passes)

-- all places but the next pass a test, too
pub all_drop_next : {X : Type 0} (test : X → Bool) (xs : List X) (i : ℕ) (d : X) → i < length xs → list_all test (drop i xs) ≡ true
    → list_all test (drop (i + 1) xs) ≡ true
all_drop_next test xs i d lt all =
    (and_parts (test (get_or xs i d)) (list_all test (drop (i + 1) xs)) (sym (at_drop_more (list_all test) xs i d lt) ∙ all)).1

-- the next place, where all are within a list
pub all_below_next : (limit : ℕ) (positions : List ℕ) (i at : ℕ) → i < length positions → at ≡ get_or positions i 0 → list_all (λ place. nat_lt place limit) (drop i positions) ≡ true → at < limit
all_below_next limit positions i at lt place all =
    subst (λ other. other < limit) (sym place) (ltb-true _ _ ((and_parts (nat_lt (get_or positions i 0) limit) (list_all (λ other. nat_lt other limit) (drop (i + 1) positions)) (sym (at_drop_more (list_all (λ other. nat_lt other limit)) positions i 0 lt) ∙ all)).0))

-- an element of a list all of which pass
pub all_at_split : {X : Type 0} (test : X → Bool) (all before : List X) (x : X) (more : List X) → all ≡ before ++ x ∷ more
    → list_all test all ≡ true → test x ≡ true
all_at_split test all before x more same passes =
    let whole : list_all test (before ++ x ∷ more) ≡ true = subst (λ xs. list_all test xs ≡ true) same passes in
    let both = and_parts (list_all test before) (list_all test (x ∷ more))
    (sym (list_all-append test before (x ∷ more)) ∙ whole) in
    (and_parts (test x) (list_all test more) both.1).0

-- a byte further on that fails a test
pub not_all_at : {X : Type 0} (p : X → Bool) (at : ℕ) (text : List X) (first : X) (rest : List X) → drop at text ≡ first ∷ rest → p first ≡ false
    → list_all p text ≡ false
not_all_at p zero [] first rest is fails = cc
not_all_at p (suc at) [] first rest is fails = cc
not_all_at p zero (byte ∷ text) first rest is fails =
    let same : byte ≡ first = cc in rw (same, fails) refl
not_all_at p (suc at) (byte ∷ text) first rest is fails =
    by (p byte) (not_all_at p at text first rest is fails)
  where
    by : (here : Bool) → list_all p text ≡ false → (here && list_all p text) ≡ false
    by true later = later
    by false later = refl

-- a test that does not hold of any byte of a class
pub none_of_all : {X : Type 0} (p q : X → Bool) → ((x : X) → p x ≡ true → q x ≡ false) → (text : List X) → list_all p text ≡ true
    → list_any q text ≡ false
none_of_all p q one [] all = refl
none_of_all p q one (byte ∷ text) all =
    let parts = and_parts (p byte) (list_all p text) all in
    let here = one byte parts.0 in
    rw here (none_of_all p q one text parts.1)

-- where no element passes, however it is among the others, none does
pub none_passes : {X : Type 0} (test : X → Bool) (all front rest : List X) → front ++ rest ≡ all
    → ((before after : List X) (x : X) → before ++ x ∷ after ≡ all → test x ≡ false)
    → list_all (λ x. not (test x)) rest ≡ true
none_passes test all front [] joined fails = refl
none_passes test all front (x ∷ rest) joined fails =
    rw (fails front rest x joined)
    (none_passes test all (front ++ x ∷ []) rest (append_assoc front (x ∷ []) rest ∙ joined) fails)

pub any_past : {X : Type 0} (test : X → Bool) (xs : List X) (i : ℕ) (some : Bool)
    → list_any test (drop i xs) ≡ some → length xs ≤ i → false ≡ some
any_past test xs i some walk past = sym (ap (list_any test) (drop_all i xs past)) ∙ walk

pub any_after : {X : Type 0} (test : X → Bool) (before xs : List X) → AllByRecursion (λ y. test y ≡ false) before
    → list_any test (before ++ xs) ≡ list_any test xs
any_after test [] xs none = refl
any_after test (first ∷ before) xs none = rw none.0 (any_after test before xs none.1)

pub any_first : {X : Type 0} (test : X → Bool) (first : X) (more : List X)
    → AllByRecursion (λ y. test y ≡ false) more → list_any test (first ∷ more) ≡ test first
any_first {X} test first more none = by (test first) (no_other more none)
  where
    no_other : (more : List X) → AllByRecursion (λ y. test y ≡ false) more → list_any test more ≡ false
    no_other [] none = refl
    no_other (next ∷ more) none = rw none.0 (no_other more none.1)

    by : (passes : Bool) → list_any test more ≡ false → (passes || list_any test more) ≡ passes
    by true other = refl
    by false other = other

pub all_kept_at : {X : Type 0} (test keep : X → Bool) (xs : List X) (i : ℕ) (x : X) → list_all test (filter keep xs) ≡ true
    → slice_get xs i ≡ Some x → keep x ≡ true → test x ≡ true
all_kept_at test keep [] i x all is kept = absurd (cc)
all_kept_at {X} test keep (first ∷ xs) zero x all is kept =
    let same : first ≡ x = cc in
    let here : keep first ≡ true = ap keep same ∙ kept in
    let whole : (test first && list_all test (filter keep xs)) ≡ true =
    subst (λ (passes : Bool). list_all test (cond passes (first ∷ filter keep xs) (filter keep xs)) ≡ true) here all in
    subst (λ (each : X). test each ≡ true) same (and_parts (test first) _ whole).0
all_kept_at test keep (first ∷ xs) (suc i) x all is kept = all_kept_at test keep xs i x (by (keep first) all) is kept
  where
    by : (passes : Bool) → list_all test (cond passes (first ∷ filter keep xs) (filter keep xs)) ≡ true
        → list_all test (filter keep xs) ≡ true
    by true all = (and_parts (test first) _ all).1
    by false all = all
