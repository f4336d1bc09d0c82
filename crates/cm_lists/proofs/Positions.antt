-- The place of the first element that passes a test.
use Rattle.std.proofs.Common.{Bool, List, None, Option, Some, [], ap, arith, cond, drop, false, filter, find, is_some, length, nat_lt, not, position, refl, subst, suc, sym, true, ℕ, ◌+◌, ◌<◌, ◌||◌, ◌∙◌, ◌∷◌, ◌≡◌, ◌≤◌}
use Rattle.std.specs.Cmp.Lexicographic.{nat_list_eq_equiv}
use Rattle.std.specs.List.{list_all, list_any, position_from, position_or_len}
use Rattle.std.specs.Map.{keys_of, lookup}
use Rattle.std.specs.Option.{option_map}
use Rattle.std.specs.Str.{bytes_eq}
use Rattle.std.proofs.lemmas.Bool.{and_parts, le-ltb, lt-ltb, ltb-false}
use Rattle.std.proofs.lemmas.List.{drop_all}
use Rattle.cm_lists.proofs.Options.{cond_none}

pub none_any_cons : {X : Type 0} (p : X → Bool) (xs : List X) (b : Bool) → (length xs ≤ position_or_len p xs → list_any p xs ≡ false) → suc (length xs) ≤ cond (not b) (1 + position_or_len p xs) 0 → (b || list_any p xs) ≡ false
none_any_cons p xs true rest le = absurd (omega arith)
none_any_cons p xs false rest le = rest (omega arith)

pub none_any : {X : Type 0} (p : X → Bool) (xs : List X) → length xs ≤ position_or_len p xs → list_any p xs ≡ false
none_any p [] le = refl
none_any p (x ∷ xs) le = none_any_cons p xs (p x) (none_any p xs) le

-- where nothing passes
pub none_from_position : {X : Type 0} (p : X → Bool) (xs : List X) → position p xs ≡ None → list_any p xs ≡ false
none_from_position p xs e = none_any p xs (ltb-false _ _ (cond_none (nat_lt (position_or_len p xs) (length xs)) _ e))

-- where some element passes there is a first one
pub position_some : {X : Type 0} (test : X → Bool) (xs : List X) (from : ℕ) → list_any test xs ≡ true
    → (place : ℕ) × (position_from test from xs ≡ Some place)
position_some test [] from some = cc
position_some test (x ∷ xs) from some = by (test x) some (position_some test xs (from + 1))
  where
    by : (here : Bool) → (here || list_any test xs) ≡ true
        → (list_any test xs ≡ true → (place : ℕ) × (position_from test (from + 1) xs ≡ Some place))
        → (place : ℕ) × (cond here (Some from) (position_from test (from + 1) xs) ≡ Some place)
    by true some rest = (from, refl)
    by false some rest = rest some

-- where the first is that passes
pub position_within : {X : Type 0} (test : X → Bool) (xs : List X) (from place : ℕ) → position_from test from xs ≡ Some place
    → place < from + length xs
position_within test [] from place is = cc
position_within test (x ∷ xs) from place is = by (test x) is (position_within test xs (from + 1) place)
  where
    by : (here : Bool) → cond here (Some from) (position_from test (from + 1) xs) ≡ Some place
        → (position_from test (from + 1) xs ≡ Some place → place < from + 1 + length xs) → place < from + length (x ∷ xs)
    by true is later = let same : from ≡ place = cc in omega arith
    by false is later = let below = later is in omega arith

pub position_from_past : {X : Type 0} (test : X → Bool) (xs : List X) (i : ℕ) (first : Option ℕ)
    → position_from test i (drop i xs) ≡ first → length xs ≤ i → None ≡ first
position_from_past test xs i first walk past = sym (ap (position_from test i) (drop_all i xs past)) ∙ walk

pub filter_of_no_position : {X : Type 0} (test : X → Bool) (at : ℕ) (xs : List X) → position_from test at xs ≡ None → filter test xs ≡ []
filter_of_no_position test at [] is = refl
filter_of_no_position {X} test at (x ∷ xs) is = by (test x) is (λ later. filter_of_no_position test (at + 1) xs later)
  where
    by : (passes : Bool) → cond passes (Some at) (position_from test (at + 1) xs) ≡ None
        → (position_from test (at + 1) xs ≡ None → filter test xs ≡ []) → cond passes (x ∷ filter test xs) (filter test xs) ≡ []
    by true is rest = absurd (cc)
    by false is rest = rest is

-- what is found passes the test, and what all pass
pub find_passes : (X : Type 0) (p q : X → Bool) (xs : List X) (x : X) → find p xs ≡ Some x → list_all q xs ≡ true
    → (p x ≡ true) × (q x ≡ true)
find_passes X p q [] x is all = cc
find_passes X p q (first ∷ xs) x is all =
    let parts = and_parts (q first) (list_all q xs) all in by (p first) refl parts.0 is (λ is. find_passes X p q xs x is parts.1)
  where
    by : (test : Bool) → p first ≡ test → q first ≡ true → cond test (Some first) (find p xs) ≡ Some x
        → (find p xs ≡ Some x → (p x ≡ true) × (q x ≡ true)) → (p x ≡ true) × (q x ≡ true)
    by true here other is rest =
        let same : first ≡ x = cc in
        (subst (λ (x : X). p x ≡ true) same here, subst (λ (x : X). q x ≡ true) same other)
    by false here other is rest = rest is

-- where one passes, what is told of the first is told
pub find_any : {X Y : Type 0} (told : X → Y) (test : X → Bool) (xs : List X) → is_some (option_map told (find test xs)) ≡ list_any test xs
find_any told test [] = refl
find_any told test (x ∷ xs) = by (test x) (find_any told test xs)
  where
    by : (passes : Bool) → is_some (option_map told (find test xs)) ≡ list_any test xs
        → is_some (option_map told (cond passes (Some x) (find test xs))) ≡ (passes || list_any test xs)
    by true rest = refl
    by false rest = rest

pub position_at : {X : Type 0} (test : X → Bool) (xs : List X) (at : ℕ) → position_or_len test xs ≡ at → at < length xs
    → Some at ≡ position test xs
position_at test xs at is within =
    sym (ap (λ n. cond (nat_lt n (length xs)) (Some n) None) is ∙ ap (λ b. cond b (Some at) None) (lt-ltb at (length xs) within))

pub no_position : {X : Type 0} (test : X → Bool) (xs : List X) → position_or_len test xs ≡ length xs → None ≡ position test xs
no_position test xs is =
    sym (ap (λ n. cond (nat_lt n (length xs)) (Some n) None) is
    ∙ ap (λ b. cond b (Some (length xs)) None) (le-ltb (length xs) (length xs) (omega arith)))

-- a look-up with the two sides of its test turned round
pub lookup_turned : {V : Type 0} (name : List ℕ) (entries : List (List ℕ × V))
    → lookup (bytes_eq name) entries ≡ lookup (λ other. bytes_eq other name) entries
lookup_turned name [] = refl
lookup_turned {V = V} name (entry ∷ entries) =
    ap (λ (b : Bool). cond b (Some entry.1) (lookup (bytes_eq name) entries)) (nat_list_eq_equiv.symm name entry.0)
    ∙ ap (λ (rest : Option V). cond (bytes_eq entry.0 name) (Some entry.1) rest) (lookup_turned name entries)

pub position_or_len_turned : {V : Type 0} (name : List ℕ) (entries : List (List ℕ × V))
    → position_or_len (bytes_eq name) (keys_of entries) ≡ position_or_len (λ other. bytes_eq other name) (keys_of entries)
position_or_len_turned name [] = refl
position_or_len_turned name (entry ∷ entries) =
    ap (λ (n : ℕ). cond (not (bytes_eq name entry.0)) (1 + n) 0) (position_or_len_turned name entries)
    ∙ ap (λ (b : Bool). cond (not b) (1 + position_or_len (λ other. bytes_eq other name) (keys_of entries)) 0) (nat_list_eq_equiv.symm name entry.0)

pub position_turned : {V : Type 0} (name : List ℕ) (entries : List (List ℕ × V))
    → position (bytes_eq name) (keys_of entries) ≡ position (λ other. bytes_eq other name) (keys_of entries)
position_turned name entries =
    ap (λ (n : ℕ). cond (nat_lt n (length (keys_of entries))) (Some n) None) (position_or_len_turned name entries)

pub find_found : {X : Type 0} (found : X → Bool) (xs : List X) (x : X) → find found xs ≡ Some x → found x ≡ true
find_found found [] x is = absurd (cc)
find_found {X} found (first ∷ xs) x is = by (found first) refl (find_found found xs x) is
  where
    by : (b : Bool) → found first ≡ b → (find found xs ≡ Some x → found x ≡ true)
        → cond b (Some first) (find found xs) ≡ Some x → found x ≡ true
    by true here rest is =
        let same : first ≡ x = cc in subst (λ (each : X). found each ≡ true) same here
    by false here rest is = rest is

pub find_among : {X : Type 0} (test found : X → Bool) (xs : List X) (x : X) → list_all test xs ≡ true → find found xs ≡ Some x
    → test x ≡ true
find_among test found [] x all is = absurd (cc)
find_among {X} test found (first ∷ xs) x all is =
    by (found first) (λ rest. find_among test found xs x (and_parts _ _ all).1 rest) is
  where
    by : (b : Bool) → (find found xs ≡ Some x → test x ≡ true) → cond b (Some first) (find found xs) ≡ Some x → test x ≡ true
    by true rest is =
        let same : first ≡ x = cc in subst (λ (each : X). test each ≡ true) same (and_parts _ _ all).0
    by false rest is = rest is
