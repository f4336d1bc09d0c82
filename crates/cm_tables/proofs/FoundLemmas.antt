-- An atom that is found is a beginning of an entry, and the whole of its text finds that entry.
use Rattle.std.proofs.Common.{◌≡◌, ℕ, zero, suc, ◌+◌, Bool, true, false, cond, ◌&&◌, List, [], ◌∷◌, ◌++◌, length, take, drop, Option, Some, None, slice_get, arith, refl, ap, sym, subst, ◌∙◌}
use Rattle.std.specs.Char.{to_ascii_lowercase}
use Rattle.std.specs.Cmp.Lexicographic.{slice_cmp}
use Rattle.std.specs.List.{enumerate_from, filter}
use Rattle.std.specs.Ordering.{nat_cmp}
use Rattle.std.specs.declared.cmp.Ordering.{Ordering}
use Rattle.std.specs.declared.cmp.Ordering.TheVariants.{Less, Equal, Greater}
use Rattle.std.proofs.lemmas.Bool.{and_parts}
use Rattle.std.proofs.lemmas.Cmp.{nat_list_cmp_total, tied_itself}
use Rattle.std.proofs.lemmas.List.{length-map, map-append, take_all}
use Rattle.std.proofs.lemmas.Option.{same_Some}
use Rattle.std.proofs.lemmas.Slice.Eq.{bytes_eq-Decides}
use Rattle.cm_text.specs.BeginLaws.{begins_whole, length-whole, lower}
use Rattle.cm_text.specs.Case.{begins_with, equals}
use Rattle.cm_tables.specs.Look.{by_equal, candidates, equal_entries, exact, found_at, is_recognised, look}
use Rattle.cm_tables.specs.Order.{by_order, is_keyword, is_target, order_fault, table_fault, target_fault, targets_fault, text_fault, text_order, texts_fault}
use Rattle.cm_tables.specs.declared.entry.Entry.{Entry}
use Rattle.cm_tables.specs.declared.entry.Flag.{Flag}
use Rattle.cm_tables.specs.declared.entry.Flag.TheVariants.{Plain, Invisible, NoRecognise, Short}
use Rattle.cm_tables.specs.declared.table.Look.TheVariants as looks
use Rattle.cm_tables.specs.declared.table.TableFault.TheVariants.{BadText, BadTarget}
use Rattle.cm_tables.proofs.WithinLemmas.{both-none, no-faults, no-targets_fault}

-- texts that are one are the same without the case of their letters
pub lower_same : (text other : List ℕ) → equals text other ≡ true → lower text ≡ lower other
unfolding equals
lower_same text other equal = (bytes_eq-Decides _ _).0 equal

pub same_lower : (text other : List ℕ) → lower text ≡ lower other → equals text other ≡ true
unfolding equals
same_lower text other same = (bytes_eq-Decides _ _).1 same

pub length_same : (text other : List ℕ) → lower text ≡ lower other → length text ≡ length other
length_same text other same =
    sym (length-map text to_ascii_lowercase) ∙ ap length same ∙ length-map other to_ascii_lowercase

-- and each begins with the other
pub begins_of_equals : (text other : List ℕ) → equals text other ≡ true → begins_with text other ≡ true
unfolding begins_with
begins_of_equals text other equal =
    let size = length_same text other (lower_same text other equal) in
    rw (take_all (length other) text (omega (arith, size))) equal

-- what begins with a text begins with one that is the same
begins_of_same : (whole text other : List ℕ) → begins_with whole text ≡ true → equals text other ≡ true
    → begins_with whole other ≡ true
unfolding begins_with
begins_of_same whole text other begins equal =
    let same = lower_same text other equal in
    let size = length_same text other same in
    same_lower _ other (ap (λ n. lower (take n whole)) (sym size) ∙ lower_same _ text begins ∙ same)

-- what begins with a text of its own length is that text
equals_of_begins : (text other : List ℕ) → length other ≡ length text → begins_with text other ≡ true
    → equals text other ≡ true
unfolding begins_with
equals_of_begins text other size begins = rw (take_all (length other) text (omega (arith, size))) at begins

-- an atom with what is missing of a text that begins with it is that text
equals_whole : (text atom : List ℕ) → begins_with text atom ≡ true
    → equals text (atom ++ drop (length atom) text) ≡ true
equals_whole text atom begins = equals_of_begins text _ (length-whole text atom begins) (begins_whole text atom begins)

equals_more : (text atom rest : List ℕ) → begins_with text atom ≡ true → equals (drop (length atom) text) rest ≡ true
    → equals text (atom ++ rest) ≡ true
equals_more text atom rest begins same =
    same_lower text (atom ++ rest)
    (lower_same text _ (equals_whole text atom begins)
    ∙ map-append to_ascii_lowercase atom (drop (length atom) text)
    ∙ ap (λ (low : List ℕ). lower atom ++ low) (lower_same _ rest same)
    ∙ sym (map-append to_ascii_lowercase atom rest))

-- a text with no fault is a keyword
pub keyword_of : (place : ℕ) (before : Option (List ℕ)) (text : List ℕ) → text_fault place before text ≡ None
    → (is_keyword text ≡ true) × (order_fault place before text ≡ None)
keyword_of place before text none = by (is_keyword text) none
  where
    by : (test : Bool) → cond test (order_fault place before text) (Some (BadText place)) ≡ None
        → (test ≡ true) × (order_fault place before text ≡ None)
    by true none = (refl, none)
    by false none = cc

-- and is above the text before it
pub above_of : (place : ℕ) (order : Ordering) → by_order place order ≡ None → order ≡ Less
above_of place Less none = refl
above_of place Equal none = cc
above_of place Greater none = cc

-- each text is above the one before them all
all_above : (place : ℕ) (before : List ℕ) (entries : List Entry) (at : ℕ) (entry : Entry)
    → texts_fault place (Some before) entries ≡ None → slice_get entries at ≡ Some entry
    → text_order before entry.text ≡ Less
all_above place before [] at entry none is = cc
all_above place before (first ∷ more) zero entry none is =
    let both = both-none _ _ none in
    let text = keyword_of place (Some before) first.text both.0 in
    let same : first ≡ entry = same_Some first entry is in
    subst (λ (e : Entry). text_order before e.text ≡ Less) same (above_of place _ text.1)
all_above place before (first ∷ more) (suc at) entry none is =
    let both = both-none _ _ none in
    let text = keyword_of place (Some before) first.text both.0 in
    let later = all_above (place + 1) first.text more at entry both.1 is in
    nat_list_cmp_total.trans (lower before) (lower first.text) (lower entry.text) (above_of place _ text.1) later

-- the entries that pass a test, each with its position
abbrev passing : (Entry → Bool) → ℕ → List Entry → List (ℕ × Entry)
passing test place entries = filter (λ (e : ℕ × Entry). test e.1) (enumerate_from place entries)

-- in a table an entry is the first of its text
first_is : (whole : List ℕ) (fault place : ℕ) (before : Option (List ℕ)) (entries : List Entry) (at : ℕ) (entry : Entry)
    → texts_fault fault before entries ≡ None → slice_get entries at ≡ Some entry → equals entry.text whole ≡ true
    → (rest : List (ℕ × Entry)) × (passing (λ e. equals e.text whole) place entries ≡ (place + at, entry) ∷ rest)
first_is whole fault place before [] at entry none is equal = cc
first_is whole fault place before (first ∷ more) zero entry none is equal =
    let same : first ≡ entry = same_Some first entry is in
    let here : equals first.text whole ≡ true = ap (λ (e : Entry). equals e.text whole) same ∙ equal in
    let from : place + 0 ≡ place = omega arith in
    (passing (λ e. equals e.text whole) (place + 1) more, rw (here, from, same))
first_is whole fault place before (first ∷ more) (suc at) entry none is equal =
    let both = both-none _ _ none in
    let later = all_above (fault + 1) first.text more at entry both.1 is in
    let next = first_is whole (fault + 1) (place + 1) (Some first.text) more at entry both.1 is equal in
    by (equals first.text whole) refl later next
  where
    rest : List (ℕ × Entry)
    rest = passing (λ e. equals e.text whole) (place + 1) more

    by : (test : Bool) → equals first.text whole ≡ test → text_order first.text entry.text ≡ Less
        → (others : List (ℕ × Entry)) × (rest ≡ (place + 1 + at, entry) ∷ others)
        → (others : List (ℕ × Entry)) × (cond test ((place, first) ∷ rest) rest ≡ (place + suc at, entry) ∷ others)
    by true is_equal later next =
        let same = lower_same first.text whole is_equal ∙ sym (lower_same entry.text whole equal) in
        let tied = tied_itself nat_list_cmp_total (lower first.text) in
        let less = ap (slice_cmp nat_cmp (lower first.text)) same ∙ later in
        cc
    by false is_equal later next =
        let places : place + 1 + at ≡ place + suc at = omega arith in
        (next.0, next.1 ∙ ap (λ n. (n, entry) ∷ next.0) places)

-- each of these pairs is an entry of the table with its position, and passes the test
abbrev ArePassing : (Entry → Bool) → List Entry → List (ℕ × Entry) → Type 0
ArePassing test table [] = Unit {0}
ArePassing test table (e ∷ more) = (slice_get table e.0 ≡ Some e.1) × (test e.1 ≡ true) × ArePassing test table more

are-passing : (test : Entry → Bool) (table : List Entry) (place : ℕ) (entries : List Entry)
    → ((at : ℕ) → slice_get table (place + at) ≡ slice_get entries at)
    → ArePassing test table (passing test place entries)
are-passing test table place [] reads = tt
are-passing test table place (first ∷ more) reads =
    let later : (at : ℕ) → slice_get table (place + 1 + at) ≡ slice_get more at =
    λ at. ap (slice_get table) (omega arith) ∙ reads (suc at) in
    by (test first) refl (are-passing test table (place + 1) more later)
  where
    rest : List (ℕ × Entry)
    rest = passing test (place + 1) more

    by : (passes : Bool) → test first ≡ passes → ArePassing test table rest
        → ArePassing test table (cond passes ((place, first) ∷ rest) rest)
    by true passes all = (ap (slice_get table) (omega arith) ∙ reads 0, passes, all)
    by false passes all = all

-- what a Short entry stands for goes on from its text
abbrev IsBased : List Entry → List ℕ → Flag → Type 0
IsBased table text Plain = Unit {0}
IsBased table text Invisible = Unit {0}
IsBased table text NoRecognise = Unit {0}
IsBased table text (Short target) = is_target text (slice_get table target) ≡ true

is-based : (table : List Entry) (place : ℕ) (text : List ℕ) (flag : Flag)
    → target_fault table place text flag ≡ None → IsBased table text flag
is-based table place text Plain none = tt
is-based table place text Invisible none = tt
is-based table place text NoRecognise none = tt
is-based table place text (Short target) none = by (is_target text (slice_get table target)) none
  where
    by : (test : Bool) → cond test None (Some (BadTarget place)) ≡ None → test ≡ true
    by true none = refl
    by false none = cc

all-based : (table : List Entry) (place : ℕ) (entries : List Entry) (at : ℕ) (entry : Entry)
    → targets_fault table place entries ≡ None → slice_get entries at ≡ Some entry → IsBased table entry.text entry.flag
all-based table place [] at entry none is = cc
all-based table place (first ∷ more) zero entry none is =
    subst (λ (e : Entry). IsBased table e.text e.flag) (same_Some first entry is)
    (is-based table place first.text first.flag (both-none _ _ none).0)
all-based table place (first ∷ more) (suc at) entry none is =
    all-based table (place + 1) more at entry (both-none _ _ none).1 is

-- an abbreviation may stand for the entry, and its text begins with the atom
abbrev IsFound : List ℕ → Entry → Type 0
IsFound atom entry = (is_recognised entry.flag ≡ true) × (begins_with entry.text atom ≡ true)

exact_finds : (table : List Entry) (atom : List ℕ) (place : ℕ) (found : Entry) (at : ℕ) (entry : Entry)
    → slice_get table place ≡ Some found → equals found.text atom ≡ true → IsBased table found.text found.flag
    → found_at (exact place found.flag) ≡ Some at → slice_get table at ≡ Some entry → IsFound atom entry
exact_finds table atom place found at entry here equal based is reads = by found.flag refl based is
  where
    itself : is_recognised found.flag ≡ true → place ≡ at → IsFound atom entry
    itself recognised same =
        subst (IsFound atom) (same_Some found entry (sym here ∙ ap (slice_get table) same ∙ reads))
        (recognised, begins_of_equals found.text atom equal)

    by : (flag : Flag) → found.flag ≡ flag → IsBased table found.text flag → found_at (exact place flag) ≡ Some at
        → IsFound atom entry
    by Plain flag based is = itself (ap is_recognised flag) (same_Some place at is)
    by Invisible flag based is = itself (ap is_recognised flag) (same_Some place at is)
    by NoRecognise flag based is = cc
    by (Short target) flag based is =
        let stands : slice_get table target ≡ Some entry = ap (slice_get table) (same_Some target at is) ∙ reads in
        let parts = and_parts _ _ (sym (ap (is_target found.text) stands) ∙ based) in
        (parts.0, begins_of_same entry.text found.text atom parts.1 equal)

by_equal-finds : (table : List Entry) (atom : List ℕ) (same others : List (ℕ × Entry)) (at : ℕ) (entry : Entry)
    → targets_fault table 0 table ≡ None
    → ArePassing (λ (e : Entry). equals e.text atom) table same
    → ArePassing (λ (e : Entry). is_recognised e.flag && begins_with e.text atom) table others
    → found_at (by_equal same others) ≡ Some at → slice_get table at ≡ Some entry → IsFound atom entry
by_equal-finds table atom [] [] at entry none all more is reads = cc
by_equal-finds table atom [] (e ∷ []) at entry none all more is reads =
    let same : e.1 ≡ entry = same_Some e.1 entry (sym more.0 ∙ ap (slice_get table) (same_Some e.0 at is) ∙ reads) in
    subst (IsFound atom) same (and_parts _ _ more.1)
by_equal-finds table atom [] (e ∷ f ∷ rest) at entry none all more is reads = cc
by_equal-finds table atom (e ∷ rest) others at entry none all more is reads =
    exact_finds table atom e.0 e.1 at entry all.0 all.1 (all-based table 0 table e.0 e.1 none all.0) is reads

-- what the look-up finds
found : (table : List Entry) (atom : List ℕ) (at : ℕ) (entry : Entry) → table_fault table ≡ None
    → found_at (look table atom) ≡ Some at → slice_get table at ≡ Some entry → IsFound atom entry
unfolding look
found table atom at entry none is reads =
    let whole : (k : ℕ) → slice_get table (0 + k) ≡ slice_get table k = λ k. ap (slice_get table) (omega arith) in
    by_equal-finds table atom (equal_entries table atom) (candidates table atom) at entry (no-targets_fault table none)
    (are-passing _ table 0 table whole) (are-passing _ table 0 table whole) is reads

pub found_is_recognised : (table : List Entry) (atom : List ℕ) (at : ℕ) (entry : Entry) → table_fault table ≡ None
    → found_at (look table atom) ≡ Some at → slice_get table at ≡ Some entry → is_recognised entry.flag ≡ true
found_is_recognised table atom at entry none is reads = (found table atom at entry none is reads).0

pub found_begins : (table : List Entry) (atom : List ℕ) (at : ℕ) (entry : Entry) → table_fault table ≡ None
    → found_at (look table atom) ≡ Some at → slice_get table at ≡ Some entry → begins_with entry.text atom ≡ true
found_begins table atom at entry none is reads = (found table atom at entry none is reads).1

-- a list with no fault has none at its texts
pub no-texts_fault : (table : List Entry) → table_fault table ≡ None → texts_fault 0 None table ≡ None
no-texts_fault table none = (no-faults table none).0

exact_itself : (place : ℕ) (flag : Flag) → is_recognised flag ≡ true → exact place flag ≡ looks.Exact place
exact_itself place Plain recognised = refl
exact_itself place Invisible recognised = refl
exact_itself place NoRecognise recognised = cc
exact_itself place (Short target) recognised = cc

-- the whole text of an entry that may be abbreviated finds it
whole_finds : (table : List Entry) (whole : List ℕ) (at : ℕ) (entry : Entry) → table_fault table ≡ None
    → slice_get table at ≡ Some entry → is_recognised entry.flag ≡ true → equals entry.text whole ≡ true
    → look table whole ≡ looks.Exact at
unfolding look
whole_finds table whole at entry none reads recognised equal =
    let first = first_is whole 0 0 None table at entry (no-texts_fault table none) reads equal in
    let from : 0 + at ≡ at = omega arith in
    ap (λ (same : List (ℕ × Entry)). by_equal same (candidates table whole)) first.1
    ∙ exact_itself (0 + at) entry.flag recognised ∙ ap looks.Exact from

-- with what is missing of its text, in whatever case, an atom that is found finds the entry
pub completed_in_any_case : (table : List Entry) (atom : List ℕ) (at : ℕ) (entry : Entry) → table_fault table ≡ None
    → found_at (look table atom) ≡ Some at → slice_get table at ≡ Some entry → (rest : List ℕ)
    → equals (drop (length atom) entry.text) rest ≡ true → look table (atom ++ rest) ≡ looks.Exact at
completed_in_any_case table atom at entry none is reads rest same =
    let finds = found table atom at entry none is reads in
    whole_finds table _ at entry none reads finds.0 (equals_more entry.text atom rest finds.1 same)

pub completed_is_exact : (table : List Entry) (atom : List ℕ) (at : ℕ) (entry : Entry) → table_fault table ≡ None
    → found_at (look table atom) ≡ Some at → slice_get table at ≡ Some entry
    → look table (atom ++ drop (length atom) entry.text) ≡ looks.Exact at
completed_is_exact table atom at entry none is reads =
    completed_in_any_case table atom at entry none is reads _ (same_lower _ _ refl)
