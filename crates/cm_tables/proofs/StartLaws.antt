-- A filter that only entries pass that begin with an atom looks at those alone that a search finds.
use Rattle.std.proofs.Common.{◌≡◌, ℕ, ◌+◌, ◌<◌, Bool, true, false, cond, ◌&&◌, nat_eq, List, [], ◌∷◌, ◌++◌, length, get_or, drop, map, Option, Some, None, arith, refl, ap, sym, subst, ◌∙◌}
use Rattle.std.specs.Char.{to_ascii_lowercase}
use Rattle.std.specs.List.{AllByRecursion, enumerate_from, filter, list_any, position}
use Rattle.std.specs.Ordering.{is_eq, is_lt, nat_cmp, ordering_then}
use Rattle.std.specs.declared.cmp.Ordering.{Ordering}
use Rattle.std.specs.declared.cmp.Ordering.TheVariants.{Less, Equal, Greater}
use Rattle.std.proofs.lemmas.Bool.{and_parts, and_right}
use Rattle.std.proofs.lemmas.Bool.Decides.{nat_tests}
use Rattle.std.proofs.lemmas.Cmp.{nat_list_cmp_total}
use Rattle.std.proofs.lemmas.List.{drop_more}
use Rattle.cm_lists.proofs.Orders.{not_eq_by_index}
use Rattle.cm_lists.proofs.Quantifiers.{AllByRecursion_then, any_after, any_first}
use Rattle.cm_text.specs.BeginLaws.{lower}
use Rattle.cm_text.specs.Case.{begins_with, equals}
use Rattle.cm_tables.specs.Listing.{is_listed, is_plain}
use Rattle.cm_tables.specs.Look.{abbreviated, by_equal, candidates, equal_entries, exact, has_text, is_recognised, look}
use Rattle.cm_tables.specs.Order.{table_fault, text_order, texts_fault}
use Rattle.cm_tables.specs.Search.{AreNotBelow, Ascends, IsFrom, candidates_from, is_below, is_first, place, wholes}
use Rattle.cm_tables.specs.declared.entry.Entry.{Entry}
use Rattle.cm_tables.proofs.CommonLemmas.{rests_from}
use Rattle.cm_tables.proofs.FoundLemmas.{above_of, begins_of_equals, keyword_of, no-texts_fault}
use Rattle.cm_tables.proofs.PlaceLaws.{begins_at, rising}
use Rattle.cm_tables.proofs.ListedEntries.{listed_of}
use Rattle.cm_tables.proofs.WithinLemmas.{both-none}

-- the texts of a table ascend
above_all : (fault : ℕ) (before : List ℕ) (entries : List Entry) → texts_fault fault (Some before) entries ≡ None
    → AllByRecursion (λ (later : Entry). text_order before later.text ≡ Less) entries
above_all fault before [] none = tt
above_all fault before (first ∷ more) none =
    let both = both-none _ _ none in
    let text = keyword_of fault (Some before) first.text both.0 in
    let head = above_of fault _ text.1 in (
      head,
      AllByRecursion_then _ _ (λ (later : Entry) is. nat_list_cmp_total.trans (lower before) (lower first.text) (lower later.text) head is) more
          (above_all (fault + 1) first.text more both.1),
    )

ascends_from : (fault : ℕ) (before : Option (List ℕ)) (entries : List Entry)
    → texts_fault fault before entries ≡ None → Ascends entries
ascends_from fault before [] none = tt
ascends_from fault before (first ∷ more) none =
    let both = both-none _ _ none in (
      (keyword_of fault before first.text both.0).0,
      above_all (fault + 1) first.text more both.1,
      ascends_from (fault + 1) (Some first.text) more both.1,
    )

-- [look-up-cost]
pub ascends_of : (table : List Entry) → table_fault table ≡ None → Ascends table
ascends_of table none = ascends_from 0 None table (no-texts_fault table none)

-- the entries that pass a test, each with its position
abbrev passing : (Entry → Bool) → ℕ → List Entry → List (ℕ × Entry)
passing test place entries = filter (λ (e : ℕ × Entry). test e.1) (enumerate_from place entries)

-- those that do not pass may be left out before them
passing_after : (test : Entry → Bool) (place : ℕ) (before entries : List Entry)
    → AllByRecursion (λ entry. test entry ≡ false) before
    → passing test place (before ++ entries) ≡ passing test (place + length before) entries
passing_after test place [] entries none = ap (λ n. passing test n entries) (omega arith)
passing_after test place (first ∷ before) entries none =
    rw none.0 (passing_after test (place + 1) before entries none.1 ∙ ap (λ n. passing test n entries) (omega arith))

-- and after them
passing_none : (test : Entry → Bool) (place : ℕ) (entries : List Entry)
    → AllByRecursion (λ entry. test entry ≡ false) entries → passing test place entries ≡ []
passing_none test place [] none = refl
passing_none test place (first ∷ more) none = rw none.0 (passing_none test (place + 1) more none.1)

-- of all entries those pass that pass from the first on that is found
passing_in : (test : Entry → Bool) (atom : List ℕ) (entries : List Entry) (start : ℕ) (after : List Entry)
    → ((entry : Entry) → begins_with entry.text atom ≡ false → test entry ≡ false) → IsFrom atom entries start after
    → (place : ℕ) → passing test (place + start) after ≡ passing test place entries
passing_in test atom entries start after fails is place =
    sym
    (ap (passing test place) is.parts
    ∙ passing_after test place is.before after (AllByRecursion_then _ _ fails _ is.none_before)
    ∙ ap (λ n. passing test (place + n) after) (sym is.at))

-- so those that the atom may abbreviate
pub candidates_in : (atom : List ℕ) (entries : List Entry) (start : ℕ) (after : List Entry)
    → IsFrom atom entries start after → candidates_from start after atom ≡ candidates entries atom
candidates_in atom entries start after is =
    ap (λ n. candidates_from n after atom) (omega arith)
    ∙ passing_in (λ entry. is_recognised entry.flag && begins_with entry.text atom) atom entries start after
    (λ entry fails. and_right (is_recognised entry.flag) _ fails) is 0

-- and those that a list shows
pub listed_in : (atom : List ℕ) (entries : List Entry) (start : ℕ) (after : List Entry) (place : ℕ)
    → IsFrom atom entries start after → listed_of (place + start) after atom ≡ listed_of place entries atom
listed_in atom entries start after place is =
    passing_in (is_listed atom) atom entries start after (λ entry fails. and_right (is_plain entry.flag) _ fails) is place

-- what is after the atom is the same wherever the entries stand
rests_anywhere : (place other : ℕ) (entries : List Entry) (atom : List ℕ)
    → rests_from place entries atom ≡ rests_from other entries atom
rests_anywhere place other [] atom = refl
rests_anywhere place other (first ∷ more) atom =
    by (is_recognised first.flag && begins_with first.text atom) (rests_anywhere (place + 1) (other + 1) more atom)
  where
    after : ℕ × Entry → List ℕ
    after e = drop (length atom) e.1.text

    with_first : ℕ → Bool → List (ℕ × Entry)
    with_first n test = cond test ((n, first) ∷ candidates_from (n + 1) more atom) (candidates_from (n + 1) more atom)

    by : (test : Bool) → rests_from (place + 1) more atom ≡ rests_from (other + 1) more atom
        → map after (with_first place test) ≡ map after (with_first other test)
    by true later = ap (λ rest. after (0, first) ∷ rest) later
    by false later = later

pub rests_in : (atom : List ℕ) (entries : List Entry) (start : ℕ) (after : List Entry)
    → IsFrom atom entries start after → rests_from 0 after atom ≡ rests_from 0 entries atom
rests_in atom entries start after is =
    rests_anywhere 0 start after atom
    ∙ ap (map (λ (e : ℕ × Entry). drop (length atom) e.1.text)) (candidates_in atom entries start after is)

-- after an entry that does not begin with the atom none does
none_later : (text atom : List ℕ) (more : List Entry) → is_below text atom ≡ false → begins_with text atom ≡ false
    → AllByRecursion (λ (later : Entry). text_order text later.text ≡ Less) more
    → AllByRecursion (λ (later : Entry). begins_with later.text atom ≡ false) more
none_later text atom more below fails above =
    AllByRecursion_then _ _
    (λ (later : Entry) less. begins_at later.text atom
    ∙ not_eq_by_index _ _ (rising text later.text atom less) below (sym (begins_at text atom) ∙ fails)) more above

none_from : (atom : List ℕ) (first : Entry) (more : List Entry) → Ascends (first ∷ more)
    → is_below first.text atom ≡ false → begins_with first.text atom ≡ false
    → AllByRecursion (λ (later : Entry). begins_with later.text atom ≡ false) (first ∷ more)
none_from atom first more up below fails = (fails, none_later first.text atom more below fails up.1)

no_candidates : (position : ℕ) (atom : List ℕ) (entries : List Entry)
    → AllByRecursion (λ (entry : Entry). begins_with entry.text atom ≡ false) entries
    → candidates_from position entries atom ≡ []
no_candidates position atom entries none =
    passing_none _ position entries (AllByRecursion_then _ _ (λ (entry : Entry) fails. and_right (is_recognised entry.flag) _ fails) entries none)

none_listed : (position : ℕ) (atom : List ℕ) (entries : List Entry)
    → AllByRecursion (λ (entry : Entry). begins_with entry.text atom ≡ false) entries
    → listed_of position entries atom ≡ []
none_listed position atom entries none =
    passing_none _ position entries (AllByRecursion_then _ _ (λ (entry : Entry) fails. and_right (is_plain entry.flag) _ fails) entries none)

-- where a walk comes to one that does not begin with the atom, no other does
stops : (atom : List ℕ) (entries : List Entry) (i : ℕ) (entry : Entry) → i < length entries
    → entry ≡ get_or entries i entry → begins_with entry.text atom ≡ false → AreNotBelow atom (drop i entries)
    → Ascends (drop i entries)
    → AllByRecursion (λ (later : Entry). begins_with later.text atom ≡ false) (drop i entries)
stops atom entries i entry within is fails above up =
    let here : drop i entries ≡ entry ∷ drop (i + 1) entries =
    drop_more entries i entry within ∙ ap (λ first. first ∷ drop (i + 1) entries) (sym is) in
    subst (λ (xs : List Entry). AllByRecursion (λ (later : Entry). begins_with later.text atom ≡ false) xs) (sym here)
    (none_from atom entry (drop (i + 1) entries) (subst Ascends here up) (subst (AreNotBelow atom) here above).0 fails)

pub candidates_stop : (position : ℕ) (atom : List ℕ) (entries : List Entry) (i : ℕ) (entry : Entry) → i < length entries
    → entry ≡ get_or entries i entry → begins_with entry.text atom ≡ false → AreNotBelow atom (drop i entries)
    → Ascends (drop i entries) → candidates_from position (drop i entries) atom ≡ []
candidates_stop position atom entries i entry within is fails above up =
    no_candidates position atom (drop i entries) (stops atom entries i entry within is fails above up)

pub listed_stop : (position : ℕ) (atom : List ℕ) (entries : List Entry) (i : ℕ) (entry : Entry) → i < length entries
    → entry ≡ get_or entries i entry → begins_with entry.text atom ≡ false → AreNotBelow atom (drop i entries)
    → Ascends (drop i entries) → listed_of position (drop i entries) atom ≡ []
listed_stop position atom entries i entry within is fails above up =
    none_listed position atom (drop i entries) (stops atom entries i entry within is fails above up)

-- a text that is the atom has none below it that begins with the atom
none_shorter : (text other atom : List ℕ) → is_eq (place text atom) ≡ true → equals other atom ≡ true
    → is_lt (text_order text other) ≡ false
unfolding equals
none_shorter [] [] [] begins equal = refl
none_shorter (byte ∷ text) [] [] begins equal = refl
none_shorter text (its ∷ other) [] begins equal = cc
none_shorter text [] (next ∷ atom) begins equal = cc
none_shorter [] (its ∷ other) (next ∷ atom) begins equal = cc
none_shorter (byte ∷ text) (its ∷ other) (next ∷ atom) begins equal =
    let both = and_parts _ _ equal in
    by (nat_cmp (to_ascii_lowercase byte) (to_ascii_lowercase next)) refl begins both.0
    (λ begins. none_shorter text other atom begins both.1)
  where
    by : (order : Ordering) → nat_cmp (to_ascii_lowercase byte) (to_ascii_lowercase next) ≡ order
        → is_eq (ordering_then order (place text atom)) ≡ true
        → nat_eq (to_ascii_lowercase its) (to_ascii_lowercase next) ≡ true
        → (is_eq (place text atom) ≡ true → is_lt (text_order text other) ≡ false)
        → is_lt (ordering_then (nat_cmp (to_ascii_lowercase byte) (to_ascii_lowercase its)) (text_order text other)) ≡ false
    by Less is begins equal later = cc
    by Equal is begins equal later =
        let same : nat_cmp (to_ascii_lowercase byte) (to_ascii_lowercase its) ≡ Equal = grind (arith, nat_tests) in
        ap (λ (order : Ordering). is_lt (ordering_then order (text_order text other))) same ∙ later begins
    by Greater is begins equal later = cc

-- so only the first of those that begin with the atom may be the atom
none_equal : (text atom : List ℕ) (entries : List Entry) → begins_with text atom ≡ true
    → AllByRecursion (λ (later : Entry). text_order text later.text ≡ Less) entries
    → AllByRecursion (λ (entry : Entry). equals entry.text atom ≡ false) entries
none_equal text atom entries begins above = AllByRecursion_then _ _ (λ (entry : Entry) less. one entry less) entries above
  where
    one : (entry : Entry) → text_order text entry.text ≡ Less → equals entry.text atom ≡ false
    one entry less = by (equals entry.text atom) refl
      where
        by : (test : Bool) → equals entry.text atom ≡ test → test ≡ false
        by true equal =
            let not_lt = none_shorter text entry.text atom (sym (begins_at text atom) ∙ begins) equal in
            let is_below = ap is_lt less in
            cc
        by false equal = refl

unequal : (text atom : List ℕ) → begins_with text atom ≡ false → equals text atom ≡ false
unequal text atom fails = by (equals text atom) refl
  where
    by : (test : Bool) → equals text atom ≡ test → test ≡ false
    by true equal = let begins = begins_of_equals text atom equal in cc
    by false equal = refl

-- so the first of those that are found is the atom, or no entry is
none_after : (atom : List ℕ) (first : Entry) (more : List Entry) → Ascends (first ∷ more)
    → is_below first.text atom ≡ false → AllByRecursion (λ (later : Entry). equals later.text atom ≡ false) more
none_after atom first more up below = by (begins_with first.text atom) refl
  where
    by : (test : Bool) → begins_with first.text atom ≡ test
        → AllByRecursion (λ (later : Entry). equals later.text atom ≡ false) more
    by true begins = none_equal first.text atom more begins up.1
    by false fails =
        AllByRecursion_then _ _ (λ later fails. unequal later.text atom fails) more
        (none_later first.text atom more below fails up.1)

equal_in : (atom : List ℕ) (entries : List Entry) (start : ℕ) (after : List Entry) → IsFrom atom entries start after
    → passing (λ entry. equals entry.text atom) start after ≡ equal_entries entries atom
equal_in atom entries start after is =
    ap (λ n. passing (λ entry. equals entry.text atom) n after) (omega arith)
    ∙ passing_in (λ entry. equals entry.text atom) atom entries start after
    (λ entry fails. unequal entry.text atom fails) is 0

-- an entry whose text is the atom gives what it does
pub exact_is_look : (atom : List ℕ) (entries : List Entry) (start : ℕ) (after : List Entry) (d : Entry)
    → IsFrom atom entries start after → is_first after atom ≡ true
    → exact start (get_or after 0 d).flag ≡ look entries atom
unfolding look
exact_is_look atom entries start [] d is same = cc
exact_is_look atom entries start (first ∷ more) d is same =
    let all = equal_in atom entries start (first ∷ more) is in
    let found : passing (λ entry. equals entry.text atom) start (first ∷ more)
    ≡ (start, first) ∷ passing (λ entry. equals entry.text atom) (start + 1) more = rw same refl in
    ap (λ equals. by_equal equals (candidates entries atom)) (sym found ∙ all)

-- with none, those count that the atom may abbreviate
pub abbreviated_is_look : (atom : List ℕ) (entries : List Entry) (start : ℕ) (after : List Entry)
    → IsFrom atom entries start after → is_first after atom ≡ false
    → abbreviated (candidates_from start after atom) ≡ look entries atom
unfolding look
abbreviated_is_look atom entries start after is other =
    ap abbreviated (candidates_in atom entries start after is)
    ∙ ap (λ equals. by_equal equals (candidates entries atom)) (sym (none after is other) ∙ equal_in atom entries start after is)
  where
    none : (after : List Entry) → IsFrom atom entries start after → is_first after atom ≡ false
        → passing (λ entry. equals entry.text atom) start after ≡ []
    none [] is other = refl
    none (first ∷ more) is other =
        passing_none (λ entry. equals entry.text atom) start (first ∷ more)
        (other, none_after atom first more is.ascends is.above.0)

pub has_text_first : (atom : List ℕ) (entries : List Entry) (start : ℕ) (after : List Entry)
    → IsFrom atom entries start after → is_first after atom ≡ has_text entries atom
has_text_first atom entries start after is =
    sym
    (ap (list_any (λ entry. equals entry.text atom)) is.parts
    ∙ any_after _ is.before after (AllByRecursion_then _ _ (λ entry fails. unequal entry.text atom fails) _ is.none_before)
    ∙ by after is.ascends is.above)
  where
    by : (after : List Entry) → Ascends after → AreNotBelow atom after
        → list_any (λ (entry : Entry). equals entry.text atom) after ≡ is_first after atom
    by [] up above = refl
    by (first ∷ more) up above = any_first _ first more (none_after atom first more up above.0)

-- how many entries a walk reads that has found one so far or none, and comes to these
abbrev pub left : Option ℕ → List Entry → List ℕ → ℕ
left None entries atom = length (wholes entries atom) + 2
left (Some position) entries atom = length (wholes entries atom) + 1
