-- Lists put together and cut, and their lengths.
use Rattle.std.proofs.Common.{List, [], ap, append_assoc, arith, drop, false, length, length-append, nat_lt, refl, suc, sym, true, zero, ℕ, ◌++◌, ◌+◌, ◌<◌, ◌==◌, ◌∙◌, ◌∷◌, ◌≡◌, ◌≤◌}
use Rattle.std.specs.List.{flat_map}
use Rattle.std.proofs.lemmas.Bool.{eqb-true, lt-ltb, ltb-true}
use Rattle.std.proofs.lemmas.Bool.Decides.{nat_tests}
use Rattle.std.proofs.lemmas.Grind.{flat_map-append}
use Rattle.std.proofs.lemmas.List.{append-nil, drop-drop, drop_at, length_push}

pub drop_suc : {X : Type 0} (text : List X) (place : ℕ) (first : X) (rest : List X) → drop place text ≡ first ∷ rest → drop (suc place) text ≡ rest
drop_suc [] zero first rest is = cc
drop_suc [] (suc place) first rest is = cc
drop_suc (byte ∷ text) zero first rest is = cc
drop_suc (byte ∷ text) (suc place) first rest is = drop_suc text place first rest is

pub drop_next : {X : Type 0} (text : List X) (place : ℕ) (first : X) (rest : List X) → drop place text ≡ first ∷ rest
    → drop (place + 1) text ≡ rest
drop_next text place first rest is =
    let next : suc place ≡ place + 1 = omega arith in
    rw (← next) (drop_suc text place first rest is)

pub drop_part : {X : Type 0} (text : List X) (place : ℕ) (first rest : List X) → drop place text ≡ first ++ rest
    → drop (place + length first) text ≡ rest
drop_part text place first rest is =
    sym (drop-drop (length first) place text) ∙ ap (drop (length first)) is ∙ drop_at first rest (length first) refl

pub drop_of_some : {X : Type 0} (whole : List X) (at : ℕ) (first : X) (rest : List X) → drop at whole ≡ first ∷ rest → (length whole == 0) ≡ false
drop_of_some [] zero first rest is = cc
drop_of_some [] (suc at) first rest is = cc
drop_of_some (byte ∷ whole) at first rest is = grind (arith, nat_tests)

pub append_cons_first : {X : Type 0} (text : List X) (byte : X) (rest : List X) → (first : X) × (later : List X) × (text ++ byte ∷ rest ≡ first ∷ later)
append_cons_first [] byte rest = (byte, rest, refl)
append_cons_first (first ∷ text) byte rest = (first, text ++ byte ∷ rest, refl)

-- what a text begins with at a place is within it
pub drop_within : {X : Type 0} (at : ℕ) (text : List X) (first : X) (rest : List X) → drop at text ≡ first ∷ rest → at < length text
drop_within zero [] first rest is = cc
drop_within (suc at) [] first rest is = cc
drop_within zero (byte ∷ text) first rest is = omega arith
drop_within (suc at) (byte ∷ text) first rest is = let later = drop_within at text first rest is in omega arith

pub push_is_not_empty : {X : Type 0} (xs : List X) (x : X) → (length (xs ++ x ∷ []) == 0) ≡ false
push_is_not_empty xs x =
    let size : length (x ∷ []) ≡ 1 = refl in grind (arith, nat_tests, length-append xs (x ∷ []), size)

pub cons_is_not_empty : {X : Type 0} (x : X) (xs : List X) → (length (x ∷ xs) == 0) ≡ false
cons_is_not_empty x xs = let size : length (x ∷ xs) ≡ suc (length xs) = refl in grind (arith, nat_tests, size)

-- an element of a list of one has none before it, and is that one
pub single_split : {D : Type 0} (done rest : List D) (it one : D) → done ++ it ∷ rest ≡ one ∷ [] → (done ≡ []) × (it ≡ one)
single_split [] rest it one is = let same : it ≡ one = cc in (refl, same)
single_split (other ∷ []) rest it one is = let none : it ∷ rest ≡ [] = ap (drop 1) is in absurd (cc)
single_split (other ∷ more ∷ done) rest it one is = let none : more ∷ done ++ it ∷ rest ≡ [] = ap (drop 1) is in absurd (cc)

-- where the whole has no elements its front has none
pub nil_of_append : {X : Type 0} (first rest : List X) → first ++ rest ≡ [] → first ≡ []
nil_of_append [] rest none = refl
nil_of_append (x ∷ first) rest none = cc

-- a list of length 0 has no elements
pub nil_of_length : {X : Type 0} (xs : List X) → (length xs == 0) ≡ true → xs ≡ []
nil_of_length [] none = refl
nil_of_length (x ∷ xs) none = let size = eqb-true (length (x ∷ xs)) 0 none in absurd (cc)

-- one more where there is room
pub push_within : {X : Type 0} (xs : List X) (x : X) (limit : ℕ) → nat_lt (length xs) limit ≡ true
    → length (xs ++ x ∷ []) ≤ limit
push_within xs x limit room = let less = ltb-true (length xs) limit room in omega (arith, length_push xs x)

-- before an element of a list with few there are fewer
pub front_within : {X : Type 0} (all before : List X) (x : X) (more : List X) (limit : ℕ) → all ≡ before ++ x ∷ more
    → length all ≤ limit → nat_lt (length before) limit ≡ true
front_within all before x more limit same few =
    let size = ap length same in
    let parts = length-append before (x ∷ more) in
    lt-ltb (length before) limit (omega arith)

pub some_length : {X : Type 0} (xs : List X) → (length xs ≡ 0 → ⊥) → 0 < length xs
some_length [] some = absurd (some refl)
some_length (x ∷ xs) some = omega arith

pub length_of_cons : {X : Type 0} (xs left : List X) (x : X) → xs ≡ x ∷ left → length xs ≡ length left + 1
length_of_cons xs left x first = ap length first ∙ (omega arith)

-- one element more is taken
pub count_of_cons : {X : Type 0} (before turn : ℕ) (xs left : List X) (x : X) → before ≡ length xs + turn → xs ≡ x ∷ left → before ≡ length left + (turn + 1)
count_of_cons before turn xs left x taken first = let as_many : length xs ≡ length left + 1 = length_of_cons xs left x first in omega arith

pub flat_map_push : {X : Type 0} (text : X → List ℕ) (records : List X) (next : X) (rest : List ℕ)
    → flat_map text records ++ (text next ++ rest) ≡ flat_map text (records ++ next ∷ []) ++ rest
flat_map_push text records next rest = simp (flat_map-append, append_assoc, append-nil)
