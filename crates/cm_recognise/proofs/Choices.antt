-- What an atom may stand for, where some entries of a table may not come any more.
-- A walk steps by `pass`, `found_here` and `past`; where all entries remain the words are those of the whole table; and
-- whatever remains, what is found begins with the atom, and is found by the whole of its text.
use Rattle.std.proofs.Common.{◌≡◌, ℕ, zero, suc, ◌+◌, ◌<◌, ◌≤◌, Bool, true, false, cond, ◌&&◌, ◌||◌, List, [], ◌∷◌, ◌++◌, length, drop, map, Option, Some, None, is_some, slice_get, unwrap_or, arith, refl, ap, sym, subst, ◌∙◌}
use Rattle.std.specs.Char.{to_ascii_lowercase}
use Rattle.std.specs.Cmp.Lexicographic.{slice_cmp}
use Rattle.std.specs.List.{AllByRecursion, enumerate_from, filter, fold, list_any, reduce}
use Rattle.std.specs.Option.{option_map_or}
use Rattle.std.specs.Ordering.{nat_cmp}
use Rattle.std.specs.declared.cmp.Ordering.TheVariants.{Less}
use Rattle.std.proofs.lemmas.Bool.{and_parts}
use Rattle.std.proofs.lemmas.Cmp.{nat_list_cmp_total, tied_itself}
use Rattle.std.proofs.lemmas.List.{map-append}
use Rattle.std.proofs.lemmas.Option.{same_Some}
use Rattle.cm_text.specs.BeginLaws.{lower}
use Rattle.cm_text.specs.Case.{begins_with, equals}
use Rattle.cm_tables.specs.declared.entry.Entry.{Entry}
use Rattle.cm_tables.specs.declared.entry.Flag.{Flag}
use Rattle.cm_tables.specs.declared.entry.Flag.TheVariants.{Plain, Invisible, NoRecognise, Short}
use Rattle.cm_tables.specs.declared.table.Look.{Look}
use Rattle.cm_tables.specs.declared.table.Look.TheVariants as looks
use Rattle.cm_tables.specs.Common.{common, shared_letters}
use Rattle.cm_tables.specs.Look.{IsWithin, abbreviated, by_equal, candidates, equal_entries, exact, found_at, has_text, is_recognised, look}
use Rattle.cm_tables.specs.Order.{table_fault, text_order}
use Rattle.cm_tables.specs.Search.{Ascends}
use Rattle.cm_tables.proofs.FoundLemmas.{completed_in_any_case, found_begins, lower_same, same_lower}
use Rattle.cm_tables.proofs.StartLaws.{ascends_of}
use Rattle.cm_tables.proofs.WithinLemmas.{look-within}
use Rattle.cm_blocks.specs.declared.node.Block.{Block}
use Rattle.cm_blocks.specs.FieldView.{FieldView}
use Rattle.cm_blocks.specs.Grammar.{Graph}
use Rattle.cm_blocks.specs.Once.{may_come}
use Rattle.cm_recognise.specs.Outcome.{keyword_outcome, look_outcome, shared_outcome}
use Rattle.cm_recognise.specs.Remaining.{first_exact, has_text_among, look_among, remains, stands_for}
use Rattle.cm_recognise.proofs.LetterCase.{completed_lower}

-- of the entries from a position on, those that pass a test and remain
abbrev pub left_from : (ℕ × Entry → Bool) → (ℕ × Entry → Bool) → ℕ → List Entry → List (ℕ × Entry)
left_from left test position rest = filter left (filter test (enumerate_from position rest))

-- the tests of the two look-ups
abbrev pub is_equal : List ℕ → ℕ × Entry → Bool
is_equal atom e = equals e.1.text atom

abbrev pub is_candidate : List ℕ → ℕ × Entry → Bool
is_candidate atom e = is_recognised e.1.flag && begins_with e.1.text atom

first_kept : (left test : ℕ × Entry → Bool) (e : ℕ × Entry) (rest : List (ℕ × Entry))
    → filter left (filter test (e ∷ rest))
    ≡ (cond (test e && left e) (e ∷ filter left (filter test rest)) (filter left (filter test rest)))
first_kept left test e rest = by (test e)
  where
    by : (passes : Bool) → filter left (cond passes (e ∷ filter test rest) (filter test rest))
        ≡ (cond (passes && left e) (e ∷ filter left (filter test rest)) (filter left (filter test rest)))
    by true = refl
    by false = refl

kept_at : (left test : ℕ × Entry → Bool) (table : List Entry) (position i : ℕ) (entry : Entry) → slice_get table i ≡ Some entry
    → left_from left test position (drop i table)
    ≡ (cond (test (position, entry) && left (position, entry))
    ((position, entry) ∷ left_from left test (position + 1) (drop (i + 1) table))
    (left_from left test (position + 1) (drop (i + 1) table)))
kept_at left test [] position i entry is = cc
kept_at left test (first ∷ more) position zero entry is =
    subst (λ (it : Entry). left_from left test position (it ∷ more)
    ≡ (cond (test (position, entry) && left (position, entry)) ((position, entry) ∷ left_from left test (position + 1) more)
    (left_from left test (position + 1) more)))
    (sym (same_Some first entry is)) (first_kept left test (position, entry) (enumerate_from (position + 1) more))
kept_at left test (first ∷ more) position (suc i) entry is =
    let next : suc i + 1 ≡ suc (i + 1) = omega arith in
    rw next (kept_at left test more position i entry is)

-- an entry that does not pass, or does not remain
pub pass : (left test : ℕ × Entry → Bool) (table : List Entry) (i : ℕ) (entry : Entry) → slice_get table i ≡ Some entry
    → (test (i, entry) && left (i, entry)) ≡ false
    → left_from left test (i + 1) (drop (i + 1) table) ≡ left_from left test i (drop i table)
pass left test table i entry is differs =
    sym (kept_at left test table i i entry is ∙ ap (λ (passes : Bool). cond passes ((i, entry) ∷ left_from left test (i + 1) (drop (i + 1) table)) (left_from left test (i + 1) (drop (i + 1) table))) differs)

-- one that does both
pub found_here : (left test : ℕ × Entry → Bool) (table : List Entry) (i : ℕ) (entry : Entry) → slice_get table i ≡ Some entry
    → (test (i, entry) && left (i, entry)) ≡ true
    → left_from left test i (drop i table) ≡ (i, entry) ∷ left_from left test (i + 1) (drop (i + 1) table)
found_here left test table i entry is both =
    kept_at left test table i i entry is ∙ ap (λ (passes : Bool). cond passes ((i, entry) ∷ left_from left test (i + 1) (drop (i + 1) table)) (left_from left test (i + 1) (drop (i + 1) table))) both

-- past the last entry there is none
pub past : (left test : ℕ × Entry → Bool) (table : List Entry) (position i : ℕ) → length table ≤ i
    → left_from left test position (drop i table) ≡ []
past left test [] position zero most = refl
past left test [] position (suc i) most = refl
past left test (first ∷ more) position zero most = absurd (omega arith)
past left test (first ∷ more) position (suc i) most = past left test more position i (omega arith)

-- what a walk gives that has found a position so far, and comes to these
abbrev pub joined : Option ℕ → List (ℕ × Entry) → Look
joined None rest = abbreviated rest
joined (Some position) [] = looks.Abbrev position
joined (Some position) (e ∷ more) = looks.Ambiguous

-- what a walk gives that has found what all so far share, and comes to these
abbrev pub sharing : Option (List ℕ) → List (List ℕ) → Option (List ℕ)
sharing None texts = reduce shared_letters texts
sharing (Some text) texts = Some (fold shared_letters text texts)

-- the first that gives anything for its own text, or else what the others give
pub by_first : (same others : List (ℕ × Entry)) → unwrap_or (first_exact same) (abbreviated others) ≡ by_equal same others
by_first [] others = refl
by_first (e ∷ more) others = refl

-- where all entries remain, they are those of the whole table
all_kept : (left : ℕ × Entry → Bool) → ((e : ℕ × Entry) → left e ≡ true) → (xs : List (ℕ × Entry)) → filter left xs ≡ xs
all_kept left all [] = refl
all_kept left all (e ∷ more) =
    ap (λ (passes : Bool). cond passes (e ∷ filter left more) (filter left more)) (all e)
    ∙ ap (λ (rest : List (ℕ × Entry)). e ∷ rest) (all_kept left all more)

any_equal : (left : ℕ × Entry → Bool) → ((e : ℕ × Entry) → left e ≡ true) → (position : ℕ) (entries : List Entry) (atom : List ℕ)
    → list_any left (filter (λ (e : ℕ × Entry). equals e.1.text atom) (enumerate_from position entries))
    ≡ list_any (λ (entry : Entry). equals entry.text atom) entries
any_equal left all position [] atom = refl
any_equal left all position (entry ∷ more) atom = by (equals entry.text atom) (any_equal left all (position + 1) more atom)
  where
    rest : List (ℕ × Entry)
    rest = filter (λ (e : ℕ × Entry). equals e.1.text atom) (enumerate_from (position + 1) more)

    by : (test : Bool) → list_any left rest ≡ list_any (λ (entry : Entry). equals entry.text atom) more
        → list_any left (cond test ((position, entry) ∷ rest) rest)
        ≡ (test || list_any (λ (entry : Entry). equals entry.text atom) more)
    by true later = ap (λ (passes : Bool). passes || list_any left rest) (all (position, entry))
    by false later = later

whole_is : (left : ℕ × Entry → Bool) → ((e : ℕ × Entry) → left e ≡ true) → (switch : Bool) (table : List Entry) (atom : List ℕ)
    → look_outcome switch table atom (shared_outcome (has_text table atom) atom (common table atom)) (look table atom)
    ≡ keyword_outcome switch left table atom
unfolding look common
whole_is left all switch table atom =
    let same = all_kept left all (equal_entries table atom) in
    let others = all_kept left all (candidates table atom) in
    let has : has_text_among left table atom ≡ has_text table atom = any_equal left all 0 table atom in
    rw (same, others, has) refl

once_only : (graph : Graph) (fields : List FieldView) (block : Block) (position : ℕ) → block.once ≡ false
    → may_come graph fields block position ≡ true
unfolding may_come
once_only graph fields block position not_once = rw not_once refl

pub all_remain : (graph : Graph) (fields : List FieldView) (block : Block) → block.once ≡ false → (switch : Bool)
    → (table : List Entry) (atom : List ℕ)
    → look_outcome switch table atom (shared_outcome (has_text table atom) atom (common table atom)) (look table atom)
    ≡ keyword_outcome switch (remains graph fields block) table atom
all_remain graph fields block not_once switch table atom =
    whole_is (remains graph fields block) (λ e. once_only graph fields block (stands_for e.0 e.1.flag) not_once) switch table atom

-- some entry remains that has the atom for its text, where the first gives anything
pub first_is_any : (left : ℕ × Entry → Bool) (xs : List (ℕ × Entry)) → is_some (first_exact (filter left xs)) ≡ list_any left xs
first_is_any left [] = refl
first_is_any left (e ∷ more) = by (left e) (first_is_any left more)
  where
    by : (test : Bool) → is_some (first_exact (filter left more)) ≡ list_any left more
        → is_some (first_exact (cond test (e ∷ filter left more) (filter left more))) ≡ (test || list_any left more)
    by true later = refl
    by false later = later

-- each of these pairs is an entry of the table with its position, and passes the test
abbrev AreEntries : (ℕ × Entry → Bool) → List Entry → List (ℕ × Entry) → Type 0
AreEntries test table [] = Unit {0}
AreEntries test table (e ∷ more) = (slice_get table e.0 ≡ Some e.1) × (test e ≡ true) × AreEntries test table more

are_entries : (test : ℕ × Entry → Bool) (table : List Entry) (place : ℕ) (entries : List Entry)
    → ((at : ℕ) → slice_get table (place + at) ≡ slice_get entries at) → AreEntries test table (filter test (enumerate_from place entries))
are_entries test table place [] reads = tt
are_entries test table place (first ∷ more) reads =
    let later : (at : ℕ) → slice_get table (place + 1 + at) ≡ slice_get more at =
    λ at. ap (slice_get table) (omega arith) ∙ reads (suc at) in
    by (test (place, first)) refl (are_entries test table (place + 1) more later)
  where
    rest : List (ℕ × Entry)
    rest = filter test (enumerate_from (place + 1) more)

    by : (passes : Bool) → test (place, first) ≡ passes → AreEntries test table rest
        → AreEntries test table (cond passes ((place, first) ∷ rest) rest)
    by true passes all = (ap (slice_get table) (omega arith) ∙ reads 0, passes, all)
    by false passes all = all

left_entries : (left test : ℕ × Entry → Bool) (table : List Entry) (xs : List (ℕ × Entry)) → AreEntries test table xs
    → AreEntries test table (filter left xs)
left_entries left test table [] all = tt
left_entries left test table (e ∷ more) all = by (left e) (left_entries left test table more all.2)
  where
    by : (passes : Bool) → AreEntries test table (filter left more)
        → AreEntries test table (cond passes (e ∷ filter left more) (filter left more))
    by true later = (all.0, all.1, later)
    by false later = later

all_read : (P : Entry → Type 0) (entries : List Entry) (at : ℕ) (entry : Entry) → AllByRecursion P entries
    → slice_get entries at ≡ Some entry → P entry
all_read P [] at entry all is = cc
all_read P (first ∷ more) zero entry all is = subst P (same_Some first entry is) all.0
all_read P (first ∷ more) (suc at) entry all is = all_read P more at entry all.1 is

-- in a table an entry is the first of its text
first_named : (whole : List ℕ) (place : ℕ) (entries : List Entry) (at : ℕ) (entry : Entry) → Ascends entries
    → slice_get entries at ≡ Some entry → equals entry.text whole ≡ true
    → (rest : List (ℕ × Entry))
    × (filter (λ (e : ℕ × Entry). equals e.1.text whole) (enumerate_from place entries) ≡ (place + at, entry) ∷ rest)
first_named whole place [] at entry up is equal = cc
first_named whole place (first ∷ more) zero entry up is equal =
    let same : first ≡ entry = same_Some first entry is in
    let here : equals first.text whole ≡ true = ap (λ (e : Entry). equals e.text whole) same ∙ equal in
    let from : place + 0 ≡ place = omega arith in
    (filter (λ (e : ℕ × Entry). equals e.1.text whole) (enumerate_from (place + 1) more), rw (here, from, same))
first_named whole place (first ∷ more) (suc at) entry up is equal =
    let less = all_read (λ (later : Entry). text_order first.text later.text ≡ Less) more at entry up.1 is in
    by (equals first.text whole) refl less (first_named whole (place + 1) more at entry up.2 is equal)
  where
    rest : List (ℕ × Entry)
    rest = filter (λ (e : ℕ × Entry). equals e.1.text whole) (enumerate_from (place + 1) more)

    by : (test : Bool) → equals first.text whole ≡ test → text_order first.text entry.text ≡ Less
        → (others : List (ℕ × Entry)) × (rest ≡ (place + 1 + at, entry) ∷ others)
        → (others : List (ℕ × Entry)) × (cond test ((place, first) ∷ rest) rest ≡ (place + suc at, entry) ∷ others)
    by true is_equal later next =
        let same = lower_same first.text whole is_equal ∙ sym (lower_same entry.text whole equal) in
        let tied = tied_itself nat_list_cmp_total (lower first.text) in
        let less = ap (slice_cmp nat_cmp (lower first.text)) same ∙ later in
        cc
    by false is_equal later next =
        let places : place + 1 + at ≡ place + suc at = omega arith in
        (next.0, next.1 ∙ ap (λ n. (n, entry) ∷ next.0) places)

-- what is found begins with the atom, and the whole of its text finds it in the table, in whatever case its rest is
pub record Finds (table : List Entry) (atom : List ℕ) (found : Look) : Type 0 where
  pub within : IsWithin found (length table)
  pub begins : (at : ℕ) (entry : Entry) → found_at found ≡ Some at → slice_get table at ≡ Some entry
      → begins_with entry.text atom ≡ true
  pub whole : (at : ℕ) (entry : Entry) → found_at found ≡ Some at → slice_get table at ≡ Some entry → (rest : List ℕ)
      → equals (drop (length atom) entry.text) rest ≡ true → look table (atom ++ rest) ≡ looks.Exact at

look_finds : (table : List Entry) (atom : List ℕ) → table_fault table ≡ None → Finds table atom (look table atom)
look_finds table atom none = record {
  within = look-within table atom none;
  begins = λ at entry found is. found_begins table atom at entry none found is;
  whole = λ at entry found is rest same. completed_in_any_case table atom at entry none found is rest same;
}

exact_itself : (place : ℕ) (flag : Flag) → is_recognised flag ≡ true → exact place flag ≡ looks.Exact place
exact_itself place Plain recognised = refl
exact_itself place Invisible recognised = refl
exact_itself place NoRecognise recognised = cc
exact_itself place (Short target) recognised = cc

named_look : (table : List Entry) (whole : List ℕ) (at : ℕ) (entry : Entry) → table_fault table ≡ None
    → slice_get table at ≡ Some entry → equals entry.text whole ≡ true → look table whole ≡ exact at entry.flag
unfolding look
named_look table whole at entry none is equal =
    let first = first_named whole 0 table at entry (ascends_of table none) is equal in
    let from : 0 + at ≡ at = omega arith in
    ap (λ (same : List (ℕ × Entry)). by_equal same (candidates table whole)) first.1
    ∙ ap (λ (place : ℕ). exact place entry.flag) from

read_within : (table : List Entry) (at : ℕ) (entry : Entry) → slice_get table at ≡ Some entry → at < length table
read_within [] at entry is = cc
read_within (first ∷ more) zero entry is = omega arith
read_within (first ∷ more) (suc at) entry is = let later = read_within more at entry is in omega arith

equals_more : (text atom rest : List ℕ) → begins_with text atom ≡ true → equals (drop (length atom) text) rest ≡ true
    → equals text (atom ++ rest) ≡ true
equals_more text atom rest begins same =
    same_lower text (atom ++ rest)
    (sym (completed_lower text atom begins) ∙ map-append to_ascii_lowercase atom (drop (length atom) text)
    ∙ ap (λ (low : List ℕ). lower atom ++ low) (lower_same _ rest same) ∙ sym (map-append to_ascii_lowercase atom rest))

one_finds : (table : List Entry) (atom : List ℕ) (position : ℕ) (one : Entry) → table_fault table ≡ None
    → slice_get table position ≡ Some one → is_candidate atom (position, one) ≡ true → Finds table atom (looks.Abbrev position)
one_finds table atom position one none is passes =
    let parts = and_parts (is_recognised one.flag) (begins_with one.text atom) passes in
    record {
      within = read_within table position one is;
      begins = λ at entry found reads.
          subst (λ (entry : Entry). begins_with entry.text atom ≡ true) (same_one at entry found reads) parts.1;
      whole = λ at entry found reads rest same.
          let missed : equals (drop (length atom) one.text) rest ≡ true =
          subst (λ (entry : Entry). equals (drop (length atom) entry.text) rest ≡ true) (sym (same_one at entry found reads)) same in
          named_look table (atom ++ rest) position one none is (equals_more one.text atom rest parts.1 missed)
          ∙ exact_itself position one.flag parts.0 ∙ ap looks.Exact (same_Some position at found);
    }
  where
    same_one : (at : ℕ) (entry : Entry) → Some position ≡ Some at → slice_get table at ≡ Some entry → one ≡ entry
    same_one at entry found reads =
        same_Some one entry (sym is ∙ ap (slice_get table) (same_Some position at found) ∙ reads)

pub among_finds : (left : ℕ × Entry → Bool) (table : List Entry) (atom : List ℕ) → table_fault table ≡ None
    → Finds table atom (look_among left table atom)
among_finds left table atom none =
    by (filter left (equal_entries table atom)) (filter left (candidates table atom))
    (left_entries left (is_equal atom) table (equal_entries table atom) (are_entries (is_equal atom) table 0 table reads))
    (left_entries left (is_candidate atom) table (candidates table atom) (are_entries (is_candidate atom) table 0 table reads))
  where
    reads : (k : ℕ) → slice_get table (0 + k) ≡ slice_get table k
    reads k = ap (slice_get table) (omega arith)

    by : (same others : List (ℕ × Entry)) → AreEntries (is_equal atom) table same → AreEntries (is_candidate atom) table others
        → Finds table atom (by_equal same others)
    by [] [] all more = record { within = tt; begins = λ at entry found is. cc; whole = λ at entry found is rest same. cc }
    by [] (e ∷ f ∷ rest) all more = record { within = tt; begins = λ at entry found is. cc; whole = λ at entry found is rest same. cc }
    by [] (e ∷ []) all more = one_finds table atom e.0 e.1 none more.0 more.1
    by (e ∷ rest) others all more =
        subst (Finds table atom) (named_look table atom e.0 e.1 none all.0 all.1) (look_finds table atom none)

pub among_within : (graph : Graph) (fields : List FieldView) (block : Block) (table : List Entry) (atom : List ℕ)
    → table_fault table ≡ None → IsWithin (look_among (remains graph fields block) table atom) (length table)
among_within graph fields block table atom none = (among_finds (remains graph fields block) table atom none).within

-- a second that passes and remains
pub several_here : (left test : ℕ × Entry → Bool) (table : List Entry) (i : ℕ) (entry : Entry) (found : Option ℕ) (total : Look)
    → slice_get table i ≡ Some entry → (test (i, entry) && left (i, entry)) ≡ true → is_some found ≡ true
    → joined found (left_from left test i (drop i table)) ≡ total → looks.Ambiguous ≡ total
several_here left test table i entry None total is both some same = cc
several_here left test table i entry (Some position) total is both some same =
    sym (ap (joined (Some position)) (found_here left test table i entry is both)) ∙ same

one_first : (e : ℕ × Entry) (rest : List (ℕ × Entry)) → joined (Some e.0) rest ≡ abbreviated (e ∷ rest)
one_first e [] = refl
one_first e (f ∷ more) = refl

-- the first one
pub one_here : (left test : ℕ × Entry → Bool) (table : List Entry) (i : ℕ) (entry : Entry) (found now : Option ℕ) (total : Look)
    → slice_get table i ≡ Some entry → (test (i, entry) && left (i, entry)) ≡ true → is_some found ≡ false → now ≡ Some i
    → joined found (left_from left test i (drop i table)) ≡ total
    → joined now (left_from left test (i + 1) (drop (i + 1) table)) ≡ total
one_here left test table i entry (Some position) now total is both none becomes same = cc
one_here left test table i entry None now total is both none becomes same =
    ap (λ (now : Option ℕ). joined now (left_from left test (i + 1) (drop (i + 1) table))) becomes
    ∙ one_first (i, entry) (left_from left test (i + 1) (drop (i + 1) table))
    ∙ sym (ap abbreviated (found_here left test table i entry is both)) ∙ same

-- none
pub none_here : (left test : ℕ × Entry → Bool) (table : List Entry) (i : ℕ) (entry : Entry) (found now : Option ℕ) (total : Look)
    → slice_get table i ≡ Some entry → (test (i, entry) && left (i, entry)) ≡ false → now ≡ found
    → joined found (left_from left test i (drop i table)) ≡ total
    → joined now (left_from left test (i + 1) (drop (i + 1) table)) ≡ total
none_here left test table i entry found now total is differs stays same =
    ap (λ (now : Option ℕ). joined now (left_from left test (i + 1) (drop (i + 1) table))) stays
    ∙ ap (joined found) (pass left test table i entry is differs) ∙ same

-- what is after the atom in each of these
abbrev pub rests_of : List ℕ → List (ℕ × Entry) → List (List ℕ)
rests_of atom entries = map (λ (e : ℕ × Entry). drop (length atom) e.1.text) entries

share_more : (found : Option (List ℕ)) (text : List ℕ) (rest : List (List ℕ))
    → sharing (Some (option_map_or (λ before. shared_letters before text) found text)) rest ≡ sharing found (text ∷ rest)
share_more None text rest = refl
share_more (Some before) text rest = refl

-- what is shared with one that passes and remains
pub shares_here : (left test : ℕ × Entry → Bool) (table : List Entry) (atom : List ℕ) (i : ℕ) (entry : Entry)
    (found now : Option (List ℕ)) (total : Option (List ℕ))
    → slice_get table i ≡ Some entry → (test (i, entry) && left (i, entry)) ≡ true
    → now ≡ Some (option_map_or (λ before. shared_letters before (drop (length atom) entry.text)) found (drop (length atom) entry.text))
    → sharing found (rests_of atom (left_from left test i (drop i table))) ≡ total
    → sharing now (rests_of atom (left_from left test (i + 1) (drop (i + 1) table))) ≡ total
shares_here left test table atom i entry found now total is both becomes same =
    ap (λ (now : Option (List ℕ)). sharing now (rests_of atom (left_from left test (i + 1) (drop (i + 1) table)))) becomes
    ∙ share_more found (drop (length atom) entry.text) (rests_of atom (left_from left test (i + 1) (drop (i + 1) table)))
    ∙ sym (ap (λ (entries : List (ℕ × Entry)). sharing found (rests_of atom entries)) (found_here left test table i entry is both))
    ∙ same

pub shares_not : (left test : ℕ × Entry → Bool) (table : List Entry) (atom : List ℕ) (i : ℕ) (entry : Entry)
    (found now : Option (List ℕ)) (total : Option (List ℕ))
    → slice_get table i ≡ Some entry → (test (i, entry) && left (i, entry)) ≡ false → now ≡ found
    → sharing found (rests_of atom (left_from left test i (drop i table))) ≡ total
    → sharing now (rests_of atom (left_from left test (i + 1) (drop (i + 1) table))) ≡ total
shares_not left test table atom i entry found now total is differs stays same =
    ap (λ (now : Option (List ℕ)). sharing now (rests_of atom (left_from left test (i + 1) (drop (i + 1) table)))) stays
    ∙ ap (λ (entries : List (ℕ × Entry)). sharing found (rests_of atom entries)) (pass left test table i entry is differs)
    ∙ same

-- what the first gives that passes and remains
pub exact_here : (left test : ℕ × Entry → Bool) (table : List Entry) (i : ℕ) (entry : Entry) (total : List (ℕ × Entry))
    → slice_get table i ≡ Some entry → (test (i, entry) && left (i, entry)) ≡ true
    → left_from left test i (drop i table) ≡ total → Some (exact i entry.flag) ≡ first_exact total
exact_here left test table i entry total is both same =
    ap first_exact (sym (found_here left test table i entry is both) ∙ same)
