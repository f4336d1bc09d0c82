-- What completes an atom to one of several names is taken.
use Rattle.std.proofs.Common.{◌≡◌, ℕ, ◌+◌, ◌<◌, ◌≤◌, Bool, true, false, ap, cond, ◌&&◌, ◌||◌, ◌==◌, ◌∙◌, sym, nat_le, List, [], ◌∷◌, ◌++◌, length, take, drop, zero, suc, None, Some, slice_get, get_or, map, refl, arith, filter, subst, length-append}
use Rattle.std.specs.Char.{to_ascii_lowercase}
use Rattle.std.specs.List.{enumerate_from, fold, list_all}
use Rattle.std.proofs.lemmas.Bool.Decides.{nat_tests}
use Rattle.std.proofs.lemmas.List.{append-nil, drop_all, length-map, take_all}
use Rattle.std.proofs.lemmas.Slice.Eq.{bytes_eq-Decides}
use Rattle.cm_text.specs.Bytes.{is_name}
use Rattle.cm_text.specs.Case.{begins_with, equals}
use Rattle.cm_text.specs.BeginLaws.{begins_longer, begins_whole, length-whole, lower, same_begins}
use Rattle.cm_text.specs.declared.name.TheConstants.{NAME_LIMIT}
use Rattle.cm_hooks.specs.Among.{are_names, choice_meanings, completion_among, goes_on, has_name, is_name_text, is_under, rests, shared, under, verdict_among}
use Rattle.cm_hooks.specs.declared.answer.Tail.TheVariants as tails
use Rattle.cm_hooks.specs.Meanings.{Completes, IsLawful, IsYes}

-- what all pass those after some pass, and the first of them
list_all-drop : (p : ℕ → Bool) (n : ℕ) (xs : List ℕ) → list_all p xs ≡ true → list_all p (drop n xs) ≡ true
list_all-drop p zero xs all = all
list_all-drop p (suc n) [] all = refl
list_all-drop p (suc n) (x ∷ xs) all = by (p x) (list_all-drop p n xs) all
  where
    by : (b : Bool) → (list_all p xs ≡ true → list_all p (drop n xs) ≡ true) → (b && list_all p xs) ≡ true
        → list_all p (drop n xs) ≡ true
    by true further rest = further rest
    by false further rest = cc

list_all-take : (p : ℕ → Bool) (n : ℕ) (xs : List ℕ) → list_all p xs ≡ true → list_all p (take n xs) ≡ true
list_all-take p zero xs all = refl
list_all-take p (suc n) [] all = refl
list_all-take p (suc n) (x ∷ xs) all = by (p x) (list_all-take p n xs) all
  where
    by : (b : Bool) → (list_all p xs ≡ true → list_all p (take n xs) ≡ true) → (b && list_all p xs) ≡ true
        → (b && list_all p (take n xs)) ≡ true
    by true further rest = further rest
    by false further rest = cc

both : (a b : Bool) → (a && b) ≡ true → (a ≡ true) × (b ≡ true)
both true b is = (refl, is)
both false b is = cc

-- those of some numbered names that pass a test
abbrev passing : (List ℕ → Bool) → List (ℕ × List ℕ) → List (ℕ × List ℕ)
passing test names = filter (λ (name : ℕ × List ℕ). test name.1) names

-- each is name bytes, at most 39
abbrev AreNames : List (ℕ × List ℕ) → Type 0
AreNames [] = Unit {0}
AreNames (name ∷ more) = (list_all is_name name.1 ≡ true) × (length name.1 ≤ NAME_LIMIT) × AreNames more

numbered_names : (number : ℕ) (names : List (List ℕ)) → are_names names ≡ true → AreNames (enumerate_from number names)
numbered_names number [] all = tt
numbered_names number (name ∷ more) all =
    let here = both (is_name_text name) (are_names more) all in
    let text = both (list_all is_name name) (nat_le (length name) NAME_LIMIT) here.0 in
    let short : length name ≤ NAME_LIMIT = grind (arith, nat_tests, text.1) in
    (text.0, short, numbered_names (number + 1) more here.1)

-- the text of the element with a number
pub text_at : {X : Type 0} (text : X → List ℕ) (xs : List X) (number : ℕ) (other : X) → number < length xs
    → slice_get (map text xs) number ≡ Some (text (get_or xs number other))
text_at text [] number other within = absurd (omega (arith, within))
text_at text (x ∷ xs) zero other within = refl
text_at text (x ∷ xs) (suc number) other within = text_at text xs number other (omega (arith, within))

-- there is none from their number on
pub text_past : {X : Type 0} (text : X → List ℕ) (xs : List X) (number : ℕ) → length xs ≤ number
    → slice_get (map text xs) number ≡ None
text_past text [] number past = refl
text_past text (x ∷ xs) zero past = absurd (omega (arith, past))
text_past text (x ∷ xs) (suc number) past = text_past text xs number (omega (arith, past))

-- one of them is short
pub name_short : (names : List (List ℕ)) (number : ℕ) (name : List ℕ) → are_names names ≡ true
    → slice_get names number ≡ Some name → length name ≤ NAME_LIMIT
name_short [] number name all is = cc
name_short (first ∷ more) zero name all is =
    let same : first ≡ name = cc in
    subst (λ (name : List ℕ). length name ≤ NAME_LIMIT) same (numbered_names 0 (first ∷ more) all).1
name_short (first ∷ more) (suc number) name all is =
    name_short more number name (both (is_name_text first) (are_names more) all).1 is

-- so are those that pass a test
passing_names : (test : List ℕ → Bool) (names : List (ℕ × List ℕ)) → AreNames names → AreNames (passing test names)
passing_names test [] all = tt
passing_names test (name ∷ more) (bytes, short, all) = by (test name.1) (passing_names test more all)
  where
    by : (b : Bool) → AreNames (passing test more) → AreNames (cond b (name ∷ passing test more) (passing test more))
    by true rest = (bytes, short, rest)
    by false rest = rest

-- what is left of each is name bytes
abbrev AreBytes : List (List ℕ) → Type 0
AreBytes [] = Unit {0}
AreBytes (text ∷ more) = (list_all is_name text ≡ true) × AreBytes more

rests_bytes : (size : ℕ) (names : List (ℕ × List ℕ)) → AreNames names → AreBytes (rests size names)
rests_bytes size [] all = tt
rests_bytes size (name ∷ more) (bytes, short, all) =
    (list_all-drop is_name size name.1 bytes, rests_bytes size more all)

-- and so is what they begin with alike
shared_bytes : (text : List ℕ) (more : List (List ℕ)) → list_all is_name text ≡ true → AreBytes more
    → list_all is_name (fold shared text more) ≡ true
shared_bytes text [] first all = first
shared_bytes text (other ∷ more) first (bytes, all) =
    shared_bytes (shared text other) more (list_all-take is_name _ other bytes) all

-- what no name passes, none passes that asks for more
none_stricter : (test strict : List ℕ → Bool) → ((name : List ℕ) → test name ≡ false → strict name ≡ false)
    → (names : List (ℕ × List ℕ)) → passing test names ≡ [] → passing strict names ≡ []
none_stricter test strict stricter [] none = refl
none_stricter test strict stricter (name ∷ names) none =
    by (test name.1) refl (none_stricter test strict stricter names) none
  where
    by : (b : Bool) → test name.1 ≡ b → (passing test names ≡ [] → passing strict names ≡ [])
        → cond b (name ∷ passing test names) (passing test names) ≡ [] → passing strict (name ∷ names) ≡ []
    by true is rest none = cc
    by false is rest none = rw (stricter name.1 is) (rest none)

-- where one name alone passes, it alone passes what asks for more, if it does
one_stricter : (test strict : List ℕ → Bool) → ((name : List ℕ) → test name ≡ false → strict name ≡ false)
    → (one : ℕ × List ℕ) → strict one.1 ≡ true → (names : List (ℕ × List ℕ)) → passing test names ≡ one ∷ []
    → passing strict names ≡ one ∷ []
one_stricter test strict stricter one passes [] is = cc
one_stricter test strict stricter one passes (name ∷ names) is =
    by (test name.1) refl (one_stricter test strict stricter one passes names) is
  where
    found : name ≡ one → passing test names ≡ [] → passing strict (name ∷ names) ≡ one ∷ []
    found same none =
        let here : strict name.1 ≡ true = subst (λ (it : ℕ × List ℕ). strict it.1 ≡ true) (sym same) passes in
        rw (here, none_stricter test strict stricter names none, same) refl

    by : (b : Bool) → test name.1 ≡ b → (passing test names ≡ one ∷ [] → passing strict names ≡ one ∷ [])
        → cond b (name ∷ passing test names) (passing test names) ≡ one ∷ []
        → passing strict (name ∷ names) ≡ one ∷ []
    by true is rest all =
        let same : name ≡ one = cc in
        let none : passing test names ≡ [] = cc in
        found same none
    by false is rest all = rw (stricter name.1 is) (rest all)

-- and that name passes
one_passes : (test : List ℕ → Bool) (one : ℕ × List ℕ) (names : List (ℕ × List ℕ)) → passing test names ≡ one ∷ []
    → test one.1 ≡ true
one_passes test one [] is = cc
one_passes test one (name ∷ names) is = by (test name.1) refl (one_passes test one names) is
  where
    by : (b : Bool) → test name.1 ≡ b → (passing test names ≡ one ∷ [] → test one.1 ≡ true)
        → cond b (name ∷ passing test names) (passing test names) ≡ one ∷ [] → test one.1 ≡ true
    by true is rest all =
        let same : name ≡ one = cc in
        subst (λ (it : ℕ × List ℕ). test it.1 ≡ true) same is
    by false is rest all = rest all

-- a name that is an atom begins with it, and is as long
equals_begins : (name atom : List ℕ) → equals name atom ≡ true
    → (begins_with name atom ≡ true) × (length name ≡ length atom)
unfolding equals
equals_begins name atom is =
    let same : lower name ≡ lower atom = (bytes_eq-Decides _ _).0 is in
    let lengths = ap length same in
    let size = length-map name to_ascii_lowercase in
    let other = length-map atom to_ascii_lowercase in
    let long : length name ≡ length atom = omega (arith, lengths, size, other) in
    let all : take (length atom) name ≡ name = take_all (length atom) name (omega (arith, long)) in
    (same_begins name atom (ap lower all ∙ same), long)

pub equal_begins : (name atom : List ℕ) → equals name atom ≡ true → begins_with name atom ≡ true
equal_begins name atom is = (equals_begins name atom is).0

-- a name that begins with an atom is the atom and what is left of it
pub whole_equals : (name atom : List ℕ) → begins_with name atom ≡ true
    → equals name (atom ++ drop (length atom) name) ≡ true
unfolding begins_with
whole_equals name atom begins =
    let whole : List ℕ = atom ++ drop (length atom) name in
    let size = length-whole name atom begins in
    let all : take (length whole) name ≡ name = take_all (length whole) name (omega (arith, size)) in
    ap (λ (text : List ℕ). equals text whole) (sym all) ∙ begins_whole name atom begins

-- a name that may not stand for an atom is not what is longer
longer_stricter : (whole : Bool) (atom rest : List ℕ) → (whole ≡ true → rest ≡ []) → (name : List ℕ)
    → is_under whole atom name ≡ false → equals name (atom ++ rest) ≡ false
longer_stricter true atom rest none name other =
    let same : atom ++ rest ≡ atom = rw (none refl) (append-nil atom) in
    rw same other
longer_stricter false atom rest none name other = by (equals name (atom ++ rest)) refl
  where
    by : (b : Bool) → equals name (atom ++ rest) ≡ b → b ≡ false
    by true is =
        let begins = (equals_begins name (atom ++ rest) is).0 in
        let longer = begins_longer name atom rest other in
        cc
    by false is = refl

-- the one name that an atom may stand for begins with it, and is it where a whole one is asked for
begins_under : (whole : Bool) (atom name : List ℕ) → is_under whole atom name ≡ true
    → (begins_with name atom ≡ true) × (whole ≡ true → drop (length atom) name ≡ [])
begins_under true atom name is =
    let both = equals_begins name atom is in
    (both.0, λ _. drop_all (length atom) name (omega (arith, both.1)))
begins_under false atom name is = (is, λ (e : false ≡ true). cc)

-- one of the names is the atom where one of them passes as it
has_passing : (atom : List ℕ) (number : ℕ) (names : List (List ℕ)) (one : ℕ × List ℕ)
    → passing (λ name. equals name atom) (enumerate_from number names) ≡ one ∷ [] → has_name names atom ≡ true
has_passing atom number [] one is = cc
has_passing atom number (name ∷ names) one is =
    by (equals name atom) (has_passing atom (number + 1) names one) is
  where
    others : List (ℕ × List ℕ)
    others = passing (λ name. equals name atom) (enumerate_from (number + 1) names)

    by : (b : Bool) → (others ≡ one ∷ [] → has_name names atom ≡ true)
        → cond b ((number, name) ∷ others) others ≡ one ∷ [] → (b || has_name names atom) ≡ true
    by true rest is = refl
    by false rest is = rest is

-- where an atom may stand for one name alone, the atom and the rest of the name are that name, and no other
pub one_whole : (names : List (List ℕ)) (atom : List ℕ) (one : ℕ × List ℕ) → under names atom ≡ one ∷ []
    → (begins_with one.1 atom ≡ true) × (under names (atom ++ drop (length atom) one.1) ≡ one ∷ [])
    × (has_name names (atom ++ drop (length atom) one.1) ≡ true)
one_whole names atom one is =
    let asked = has_name names atom in
    let rest = drop (length atom) one.1 in
    let numbered = enumerate_from 0 names in
    let passes = one_passes (is_under asked atom) one numbered is in
    let begins = begins_under asked atom one.1 passes in
    let alone : passing (λ name. equals name (atom ++ rest)) numbered ≡ one ∷ [] =
    one_stricter (is_under asked atom) (λ name. equals name (atom ++ rest))
    (longer_stricter asked atom rest begins.1) one (whole_equals one.1 atom begins.0) numbered is in
    let held = has_passing (atom ++ rest) 0 names one alone in
    (begins.0, rw held alone, held)

-- an atom that is not empty and may stand for one name is taken
one_taken : (names : List (List ℕ)) (atom : List ℕ) (one : ℕ × List ℕ) → 0 < length atom
    → under names atom ≡ one ∷ [] → IsYes (verdict_among names atom)
unfolding verdict_among
one_taken names atom one some is =
    let full : (length atom == 0) ≡ false = grind (arith, nat_tests) in
    rw (full, is) tt

-- by the names that an atom may stand for
found_completes : (names : List (List ℕ)) (atom : List ℕ) (found : List (ℕ × List ℕ)) → 0 < length atom
    → AreNames found → under names atom ≡ found
    → Completes is_name (verdict_among names) atom (goes_on (rests (length atom) found))
found_completes names atom [] some all is = tt
found_completes names atom (one ∷ []) some (bytes, short, all) is =
    let whole = one_whole names atom one is in
    let size = length-whole one.1 atom whole.0 in
    let more : 0 < length (atom ++ drop (length atom) one.1) = simp length-append (omega arith) in (
      list_all-drop is_name (length atom) one.1 bytes,
      record {
        short = omega (arith, size);
        taken = one_taken names (atom ++ drop (length atom) one.1) one more whole.1;
      },
    )
found_completes names atom (one ∷ other ∷ more) some all is =
    let rest = rests_bytes (length atom) (one ∷ other ∷ more) all in
    shared_bytes (drop (length atom) one.1) (rests (length atom) (other ∷ more)) rest.0 rest.1

-- what completes an atom to one of several names is name bytes, and where it completes it whole, the two together
-- are taken
pub among_completes : (names : List (List ℕ)) → are_names names ≡ true → (atom : List ℕ)
    → Completes is_name (verdict_among names) atom (completion_among names atom)
unfolding completion_among
among_completes names all atom = by (length atom == 0) refl
  where
    by : (b : Bool) → (length atom == 0) ≡ b → Completes is_name (verdict_among names) atom
        (cond b tails.None (goes_on (rests (length atom) (under names atom))))
    by true empty = tt
    by false full =
        found_completes names atom (under names atom) (grind (arith, nat_tests))
        (passing_names (is_under (has_name names atom) atom) (enumerate_from 0 names) (numbered_names 0 names all)) refl

-- so rules by which each field is one of them are lawful
pub choices_lawful : (names : List (List ℕ)) (help : List ℕ) → are_names names ≡ true
    → IsLawful (choice_meanings names help)
choices_lawful names help all = record { completes = λ id atom short. among_completes names all atom }
