-- The element at a place: after a front, of a part, changed, and the last.
use Rattle.std.proofs.Common.{List, None, Option, Some, [], ap, append_assoc, arith, drop, get_or, insert, length, map, refl, set, slice_get, subst, suc, sym, take, unwrap_or, zero, ℕ, ◌++◌, ◌+◌, ◌-◌, ◌<◌, ◌∙◌, ◌∷◌, ◌≡◌, ◌≤◌}
use Rattle.std.specs.List.{flat_map}
use Rattle.std.specs.Option.{option_map}
use Rattle.std.proofs.lemmas.List.{drop-set-lt, drop_more, take_more_set}
use Rattle.std.proofs.lemmas.Option.{get_or_from_slice_get, slice_get-get_or, slice_get_within, unwrap_or-slice_get}
use Rattle.cm_lists.proofs.Numbers.{add_one, one_add}

pub slice_get-append_left : {X : Type 0} (front more : List X) (i : ℕ) → i < length front → slice_get (front ++ more) i ≡ slice_get front i
slice_get-append_left [] more i within = absurd (omega arith)
slice_get-append_left (x ∷ front) more zero within = refl
slice_get-append_left (x ∷ front) more (suc i) within = slice_get-append_left front more i (omega arith)

pub slice_get-append_right : {X : Type 0} (front more : List X) (i : ℕ) → length front ≤ i → slice_get (front ++ more) i ≡ slice_get more (i - length front)
slice_get-append_right [] more i past = ap (slice_get more) (omega arith)
slice_get-append_right (x ∷ front) more zero past = absurd (omega arith)
slice_get-append_right (x ∷ front) more (suc i) past =
    slice_get-append_right front more i (omega arith) ∙ ap (slice_get more) (omega arith)

pub slice_get-append_add : {X : Type 0} (front more : List X) (i : ℕ) → slice_get (front ++ more) (length front + i) ≡ slice_get more i
slice_get-append_add [] more i = ap (slice_get more) (omega arith)
slice_get-append_add (x ∷ front) more i =
    let next : length (x ∷ front) + i ≡ suc (length front + i) = omega arith in
    ap (slice_get (x ∷ (front ++ more))) next ∙ slice_get-append_add front more i

-- the element after a front
pub slice_get_at : {X : Type 0} (x : X) (xs front : List X) → slice_get (front ++ x ∷ xs) (length front) ≡ Some x
slice_get_at x xs [] = refl
slice_get_at x xs (first ∷ front) = slice_get_at x xs front

-- an element after others
pub slice_get-drop : {X : Type 0} (n : ℕ) (xs : List X) (i : ℕ) → slice_get (drop n xs) i ≡ slice_get xs (n + i)
slice_get-drop zero xs i = ap (slice_get xs) (omega arith)
slice_get-drop (suc n) [] i = refl
slice_get-drop (suc n) (x ∷ xs) i =
    let next : suc n + i ≡ suc (n + i) = omega arith in
    slice_get-drop n xs i ∙ sym (ap (slice_get (x ∷ xs)) next)

-- the element at an index that is read
pub slice_get_some : {X : Type 0} (xs : List X) (i : ℕ) (x : X) → i < length xs → x ≡ get_or xs i x → slice_get xs i ≡ Some x
slice_get_some xs i x within is = slice_get-get_or xs i x within ∙ ap (λ y. Some y) (sym is)

-- the element that was read at an index
pub get_or_of_some : {X : Type 0} (xs : List X) (i : ℕ) (x : X) → slice_get xs i ≡ Some x → x ≡ get_or xs i x
get_or_of_some {X} xs i x is = ap (λ (it : Option X). unwrap_or it x) (sym is) ∙ unwrap_or-slice_get xs i x

pub map-drop : {X Y : Type 0} (f : X → Y) (xs : List X) (i : ℕ) (y : Y) → option_map f (slice_get xs i) ≡ Some y
    → map f (drop i xs) ≡ y ∷ map f (drop (suc i) xs)
map-drop f [] i y is = absurd (cc)
map-drop f (x ∷ xs) zero y is = let first : f x ≡ y = cc in ap (λ each. each ∷ map f xs) first
map-drop f (x ∷ xs) (suc i) y is = map-drop f xs i y is

-- what a list was mapped to so far, and one element more
pub map_drop_more : {X Y : Type 0} (f : X → Y) (xs : List X) (i : ℕ) (y : Y) (before after whole : List Y)
    → option_map f (slice_get xs i) ≡ Some y → after ≡ before ++ y ∷ [] → before ++ map f (drop i xs) ≡ whole
    → after ++ map f (drop (i + 1) xs) ≡ whole
map_drop_more f xs i y before after whole is pushed all =
    rw (add_one i, pushed)
    (append_assoc before (y ∷ []) (map f (drop (suc i) xs))
    ∙ ap (λ more. before ++ more) (sym (map-drop f xs i y is)) ∙ all)

-- one turn of a loop that changes each element in place
pub set_map_more : {X : Type 0} (f : X → X) (xs whole : List X) (i : ℕ) (item new : X) → i < length xs → item ≡ get_or xs i item → new ≡ f item
    → take i xs ++ map f (drop i xs) ≡ whole → take (i + 1) (set xs i new) ++ map f (drop (i + 1) (set xs i new)) ≡ whole
set_map_more {X} f xs whole i item new within is made so_far =
    let split : drop i xs ≡ item ∷ drop (i + 1) xs = drop_more xs i item within ∙ ap (λ (it : X). it ∷ drop (i + 1) xs) (sym is) in
    ap (λ (front : List X). front ++ map f (drop (i + 1) (set xs i new))) (take_more_set xs i new within)
    ∙ ap (λ (rest : List X). (take i xs ++ new ∷ []) ++ map f rest) (drop-set-lt (i + 1) xs i new (omega arith))
    ∙ ap (λ (it : X). (take i xs ++ it ∷ []) ++ map f (drop (i + 1) xs)) made
    ∙ append_assoc (take i xs) (f item ∷ []) (map f (drop (i + 1) xs))
    ∙ sym (ap (λ (rest : List X). take i xs ++ map f rest) split)
    ∙ so_far

-- a list with an element at its end
pub last_at : {X : Type 0} (xs : List X) (n : ℕ) (x : X) → slice_get xs n ≡ Some x → n + 1 ≡ length xs → xs ≡ take n xs ++ x ∷ []
last_at [] n x is size = absurd (cc)
last_at (one ∷ []) zero x is size = let same : one ≡ x = cc in ap (λ it. it ∷ []) same
last_at (one ∷ other ∷ xs) zero x is size = absurd (omega (arith, size))
last_at (one ∷ xs) (suc n) x is size = ap (λ it. one ∷ it) (last_at xs n x is (omega (arith, size)))

pub last_split : {X : Type 0} (xs : List X) (x : X) → slice_get xs (length xs - 1) ≡ Some x → xs ≡ take (length xs - 1) xs ++ x ∷ []
last_split xs x is = last_at xs (length xs - 1) x is (omega (arith, slice_get_within xs (length xs - 1) x is))

-- the text of the next element comes next
pub flat_map-drop : {X : Type 0} (line : X → List ℕ) (xs : List X) (i : ℕ) (x : X) → slice_get xs i ≡ Some x
    → flat_map line (drop i xs) ≡ line x ++ flat_map line (drop (i + 1) xs)
flat_map-drop line xs i x there =
    ap (flat_map line) (drop_more xs i x (slice_get_within xs i x there))
    ∙ ap (λ first. line first ++ flat_map line (drop (i + 1) xs)) (get_or_from_slice_get xs i x x there)

pub drop_suc_of_some : {X : Type 0} (xs : List X) (b : ℕ) (x : X) → slice_get xs b ≡ Some x
    → drop b xs ≡ x ∷ drop (suc b) xs
drop_suc_of_some [] b x is = cc
drop_suc_of_some {X} (first ∷ more) zero x is = let same : first ≡ x = cc in ap (λ (first : X). first ∷ more) same
drop_suc_of_some (first ∷ more) (suc b) x is = drop_suc_of_some more b x is

pub drop_at_some : {X : Type 0} (xs : List X) (number : ℕ) (x : X) → slice_get xs number ≡ Some x
    → drop number xs ≡ x ∷ drop (number + 1) xs
drop_at_some {X} xs number x is =
    drop_more xs number x (slice_get_within xs number x is)
    ∙ ap (λ (first : X). first ∷ drop (number + 1) xs) (get_or_from_slice_get xs number x x is)

pub slice_get_not_none : {X : Type 0} (xs : List X) (number : ℕ) → number < length xs → slice_get xs number ≡ None → ⊥
slice_get_not_none [] number within none = absurd (omega arith)
slice_get_not_none (x ∷ xs) zero within none = cc
slice_get_not_none (x ∷ xs) (suc number) within none = slice_get_not_none xs number (omega arith) none

pub slice_get-map_some : {X : Type 0} (xs : List X) (number : ℕ) (d : Option X) → number < length xs
    → slice_get xs number ≡ get_or (map (λ y. Some y) xs) number d
slice_get-map_some [] number d within = absurd (omega arith)
slice_get-map_some (x ∷ xs) zero d within = refl
slice_get-map_some (x ∷ xs) (suc number) d within = slice_get-map_some xs number d (omega arith)

pub slice_get_of_one : {X : Type 0} (it x : X) (place : ℕ) → slice_get (it ∷ []) place ≡ Some x → x ≡ it
slice_get_of_one it x zero is = cc
slice_get_of_one it x (suc place) is = cc

pub insert-cons : {X : Type 0} (x new : X) (more : List X) (n : ℕ) → insert (x ∷ more) (1 + n) new ≡ x ∷ insert more n new
insert-cons x new more n = rw (one_add n)

pub drop_here : {X : Type 0} (xs : List X) (i : ℕ) (x : X) → i < length xs → x ≡ get_or xs i x
    → drop i xs ≡ x ∷ drop (i + 1) xs
drop_here {X} xs i x within is =
    subst (λ (first : X). drop i xs ≡ first ∷ drop (i + 1) xs) (sym is) (drop_more xs i x within)
