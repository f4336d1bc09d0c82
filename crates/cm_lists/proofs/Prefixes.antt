-- How many elements at the beginning pass a test.
use Rattle.std.proofs.Common.{Bool, List, [], arith, cond, drop, false, get_or, if◌then◌else◌, length, length-append, not, refl, subst, suc, sym, take, true, zero, ℕ, ◌&&◌, ◌++◌, ◌+◌, ◌<◌, ◌∷◌, ◌≡◌, ◌≤◌}
use Rattle.std.specs.List.{list_all, prefix_len}
use Rattle.std.proofs.lemmas.Bool.{and_parts}
use Rattle.std.proofs.lemmas.Bool.Decides.{nat_tests}
use Rattle.std.proofs.lemmas.List.Folds.{prefix_len-append}
use Rattle.std.proofs.lemmas.List.Sums.{prefix_len_is}

-- a prefix of all that pass, and one after it that does not
pub prefix_len_stop : {X : Type 0} (p : X → Bool) (front : List X) (byte : X) (more : List X) → list_all p front ≡ true → p byte ≡ false
    → prefix_len p (front ++ byte ∷ more) ≡ length front
prefix_len_stop p [] byte more all stop = rw stop refl
prefix_len_stop p (first ∷ front) byte more all stop =
    let both = and_parts (p first) (list_all p front) all in
    let later = prefix_len_stop p front byte more both.1 stop in
    rw (both.0, later) (omega arith)

pub prefix_len_all : {X : Type 0} (test : X → Bool) (front more : List X) → list_all test front ≡ true
    → prefix_len test (front ++ more) ≡ length front + prefix_len test more
prefix_len_all test [] more all = omega arith
prefix_len_all test (x ∷ front) more all =
    let parts : (test x ≡ true) × (list_all test front ≡ true) = and_parts _ _ all in
    let rest = prefix_len_all test front more parts.1 in
    rw parts.0 (omega (arith, rest))

pub prefix_len_none : {X : Type 0} (test : X → Bool) (xs : List X) → list_all (λ x. not (test x)) xs ≡ true → prefix_len test xs ≡ 0
prefix_len_none test [] none = refl
prefix_len_none {X} test (x ∷ xs) none = by (test x) (and_parts _ _ none).0
  where
    by : (b : Bool) → not b ≡ true → cond b (1 + prefix_len test xs) 0 ≡ 0
    by true is = absurd (cc)
    by false is = refl

-- a run that stops, and one that is all
pub prefix_len_stops : {X : Type 0} (p : X → Bool) (text rest : List X) → list_all p text ≡ true → prefix_len p rest ≡ 0
    → prefix_len p (text ++ rest) ≡ length text
prefix_len_stops p [] rest all none = none
prefix_len_stops p (byte ∷ text) rest all none =
    let parts = and_parts (p byte) (list_all p text) all in
    let here = parts.0 in
    let later = prefix_len_stops p text rest parts.1 none in
    rw here (omega arith)

-- a run that ends in the front is the same whatever follows
pub prefix_len_inside : {X : Type 0} (is_part : X → Bool) (front more : List X) → prefix_len is_part front < length front
    → prefix_len is_part (front ++ more) ≡ prefix_len is_part front
prefix_len_inside is_part front more ends = let whole = prefix_len-append is_part front more in grind (arith, nat_tests)

-- a run that does not goes on with what follows
pub prefix_len_beyond : {X : Type 0} (is_part : X → Bool) (front more : List X) → prefix_len is_part front ≡ length front
    → length front ≤ prefix_len is_part (front ++ more)
prefix_len_beyond is_part front more ends = let whole = prefix_len-append is_part front more in grind (arith, nat_tests)

-- two runs are one
pub prefix_len_both : {X : Type 0} (p : X → Bool) (text more : List X) → prefix_len p text ≡ length text → prefix_len p more ≡ length more
    → prefix_len p (text ++ more) ≡ length (text ++ more)
prefix_len_both p text more first second =
    let both = prefix_len-append p text more in
    let size = length-append text more in
    grind (arith, nat_tests)

-- bytes of a smaller class are a run, and so is the rest of them
pub prefix_len_drop : {X : Type 0} (q p : X → Bool) → ((x : X) → q x ≡ true → p x ≡ true) → (size : ℕ) (text : List X)
    → list_all q text ≡ true → prefix_len p (drop size text) ≡ length (drop size text)
prefix_len_drop q p one zero [] all = refl
prefix_len_drop q p one zero (byte ∷ text) all =
    let parts = and_parts (q byte) (list_all q text) all in
    let here = one byte parts.0 in
    let later = prefix_len_drop q p one zero text parts.1 in
    rw here (omega arith)
prefix_len_drop q p one (suc size) [] all = refl
prefix_len_drop q p one (suc size) (byte ∷ text) all =
    prefix_len_drop q p one size text (and_parts (q byte) (list_all q text) all).1

-- a run has elements of its class alone
pub all_of_prefix_len : {X : Type 0} (p : X → Bool) (text : List X) → prefix_len p text ≡ length text → list_all p text ≡ true
all_of_prefix_len p [] run = refl
all_of_prefix_len p (byte ∷ text) run = by (p byte) (all_of_prefix_len p text) run
  where
    by : (test : Bool) → (prefix_len p text ≡ length text → list_all p text ≡ true)
        → cond test (1 + prefix_len p text) 0 ≡ length (byte ∷ text) → (test && list_all p text) ≡ true
    by true later run = later (omega arith)
    by false later run = absurd (omega arith)

-- and so has the longest one at the beginning
pub all_of_prefix : {X : Type 0} (p : X → Bool) (text : List X) → list_all p (take (prefix_len p text) text) ≡ true
all_of_prefix p [] = refl
all_of_prefix p (byte ∷ text) = by (p byte) refl (all_of_prefix p text)
  where
    by : (test : Bool) → p byte ≡ test → list_all p (take (prefix_len p text) text) ≡ true
        → list_all p (take (if test then 1 + prefix_len p text else 0) (byte ∷ text)) ≡ true
    by true is all =
        let size : 1 + prefix_len p text ≡ suc (prefix_len p text) = omega arith in
        subst (λ (n : ℕ). list_all p (take n (byte ∷ text)) ≡ true) (sym size) (rw is all)
    by false is all = refl

-- a point that all before it pass, and none after
pub prefix_len_at : {X : Type 0} (test : X → Bool) (xs : List X) (at : ℕ) → at ≤ length xs
    → ((k : ℕ) (d : X) → 0 ≤ k → k < at → test (get_or xs k d) ≡ true)
    → ((k : ℕ) (d : X) → at ≤ k → k < length xs → test (get_or xs k d) ≡ false) → prefix_len test xs ≡ at
prefix_len_at test [] at bound before after = omega arith
prefix_len_at test (x ∷ xs) at bound before after =
    prefix_len_is test (x ∷ xs) at x bound (λ k below. before k x (omega arith) below) (λ below. after at x (omega arith) below)
