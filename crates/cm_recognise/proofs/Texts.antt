-- What goes into a line is bytes that are shown as they are.
use Rattle.std.proofs.Common.{◌≡◌, ℕ, zero, suc, ◌+◌, Bool, true, false, ◌==◌, if◌then◌else◌, nat_lt, List, [], ◌∷◌, ◌++◌, length, drop, take, map, filter, Option, Some, None, slice_get, unwrap_or, refl, ap, arith, ◌∙◌}
use Rattle.std.specs.List.{AllByRecursion, enumerate_from, flat_map, fold, list_all, reduce}
use Rattle.std.specs.Option.{option_map_or}
use Rattle.std.proofs.lemmas.Bool.{and_parts}
use Rattle.std.proofs.lemmas.Bool.Decides.{nat_tests}
use Rattle.cm_lists.proofs.Bools.{cond_each}
use Rattle.cm_lists.proofs.Quantifiers.{AllByRecursion-append, AllByRecursion-drop}
use Rattle.cm_text.specs.Bytes.{is_line_byte, is_name, is_shown, is_shown_byte, is_text, is_word}
use Rattle.cm_text.specs.ScreenBytes.{join_shown, shown_byte}
use Rattle.cm_text.specs.declared.text.TheConstants.{JOIN}
use Rattle.cm_text.proofs.LineBytes.{texts_in_line}
use Rattle.cm_tables.specs.declared.entry.Entry.{Entry}
use Rattle.cm_tables.specs.Common.{shared_letters}
use Rattle.cm_tables.specs.Look.{candidates}
use Rattle.cm_tables.specs.Order.{is_keyword, is_keyword_byte, table_fault, texts_fault}
use Rattle.cm_tables.proofs.FoundLemmas.{keyword_of, no-texts_fault}
use Rattle.cm_tables.proofs.WithinLemmas.{both-none}
use Rattle.cm_blocks.specs.Grammar.{Graph}
use Rattle.cm_blocks.specs.Trial.{table_of}
use Rattle.cm_blocks.specs.Well.{AreTables}
use Rattle.cm_recognise.specs.Outcome.{text_at}
use Rattle.cm_recognise.specs.Remaining.{common_among, rests_among}

-- bytes of a line
abbrev pub AreLineBytes : List ℕ → Type 0
AreLineBytes bytes = AllByRecursion (λ byte. is_line_byte byte ≡ true) bytes

-- bytes that may be typed into a line
abbrev pub AreTyped : List ℕ → Type 0
AreTyped bytes = AllByRecursion (λ byte. is_text byte ≡ true) bytes

-- bytes that are shown as they are
abbrev pub AreShown : List ℕ → Type 0
AreShown bytes = AllByRecursion (λ byte. is_shown_byte byte ≡ true) bytes

pub line_append : (text more : List ℕ) → AreLineBytes text → AreLineBytes more → AreLineBytes (text ++ more)
line_append = AllByRecursion-append (λ byte. is_line_byte byte ≡ true)

pub line_drop : (size : ℕ) (text : List ℕ) → AreLineBytes text → AreLineBytes (drop size text)
line_drop = AllByRecursion-drop (λ byte. is_line_byte byte ≡ true)

pub shown_append : (text more : List ℕ) → AreShown text → AreShown more → AreShown (text ++ more)
shown_append = AllByRecursion-append (λ byte. is_shown_byte byte ≡ true)

pub shown_drop : (size : ℕ) (text : List ℕ) → AreShown text → AreShown (drop size text)
shown_drop = AllByRecursion-drop (λ byte. is_shown_byte byte ≡ true)

pub shown_take : (size : ℕ) (text : List ℕ) → AreShown text → AreShown (take size text)
shown_take zero text all = tt
shown_take (suc size) [] all = tt
shown_take (suc size) (byte ∷ text) all = (all.0, shown_take size text all.1)

pub shown_of_all : (p : ℕ → Bool) → ((byte : ℕ) → p byte ≡ true → is_shown_byte byte ≡ true) → (text : List ℕ)
    → list_all p text ≡ true → AreShown text
shown_of_all p one [] all = tt
shown_of_all p one (byte ∷ text) all =
    let both = and_parts (p byte) (list_all p text) all in (one byte both.0, shown_of_all p one text both.1)

keyword_byte : (byte : ℕ) → is_keyword_byte byte ≡ true → is_shown_byte byte ≡ true
keyword_byte byte is = grind (arith, nat_tests)

name_byte : (byte : ℕ) → is_name byte ≡ true → is_shown_byte byte ≡ true
unfolding is_name is_word
name_byte byte is = grind (arith, nat_tests)

text_byte : (byte : ℕ) → is_shown_byte byte ≡ true → is_text byte ≡ true
unfolding is_text
text_byte byte is = grind (arith, nat_tests)

-- what is shown as it is may be typed, and so be in a line
pub typed_of_shown : (text : List ℕ) → AreShown text → AreTyped text
typed_of_shown [] all = tt
typed_of_shown (byte ∷ text) all = (text_byte byte all.0, typed_of_shown text all.1)

pub line_of_shown : (text : List ℕ) → AreShown text → AreLineBytes text
line_of_shown text all = texts_in_line text (typed_of_shown text all)

pub test_of_shown : (text : List ℕ) → AreShown text → is_shown text ≡ true
test_of_shown [] all = refl
test_of_shown (byte ∷ text) all = rw all.0 (test_of_shown text all.1)

-- a screen is given it as it is
as_it_is : (byte : ℕ) → is_shown_byte byte ≡ true → shown_byte byte ≡ byte ∷ []
unfolding shown_byte
as_it_is byte shown = by (byte == JOIN) refl (byte == 9) refl
  where
    by : (join : Bool) → (byte == JOIN) ≡ join → (tab : Bool) → (byte == 9) ≡ tab
        → (if join then join_shown else (if tab then 32 else byte) ∷ []) ≡ byte ∷ []
    by true joins tab is = absurd (grind (arith, nat_tests))
    by false joins true is = absurd (grind (arith, nat_tests))
    by false joins false is = refl

pub screen_of_shown : (text : List ℕ) → AreShown text → flat_map shown_byte text ≡ text
screen_of_shown [] all = refl
screen_of_shown (byte ∷ text) all =
    ap (λ (first : List ℕ). first ++ flat_map shown_byte text) (as_it_is byte all.0)
    ∙ ap (λ (more : List ℕ). byte ∷ more) (screen_of_shown text all.1)

pub name_shown : (text : List ℕ) → list_all is_name text ≡ true → AreShown text
name_shown = shown_of_all is_name name_byte

pub phrase_shown : (text : List ℕ) → is_shown text ≡ true → AreShown text
phrase_shown = shown_of_all is_shown_byte (λ byte shown. shown)

-- the texts of a table are keywords
abbrev pub AreKeywords : List Entry → Type 0
AreKeywords table = AllByRecursion (λ (entry : Entry). is_keyword entry.text ≡ true) table

keywords_from : (place : ℕ) (before : Option (List ℕ)) (entries : List Entry) → texts_fault place before entries ≡ None
    → AreKeywords entries
keywords_from place before [] none = tt
keywords_from place before (entry ∷ more) none =
    let both = both-none _ _ none in
    ((keyword_of place before entry.text both.0).0, keywords_from (place + 1) (Some entry.text) more both.1)

pub keywords_of : (table : List Entry) → table_fault table ≡ None → AreKeywords table
keywords_of table none = keywords_from 0 None table (no-texts_fault table none)

keyword_shown : (text : List ℕ) → is_keyword text ≡ true → AreShown text
keyword_shown text is = shown_of_all is_keyword_byte keyword_byte text (and_parts (nat_lt 0 (length text)) _ is).1

pub text_at_shown : (table : List Entry) (position : ℕ) → AreKeywords table → AreShown (text_at table position)
text_at_shown [] position all = tt
text_at_shown (entry ∷ more) zero all = keyword_shown entry.text all.0
text_at_shown (entry ∷ more) (suc position) all = text_at_shown more position all.1

-- what is after an atom in entries
rests_shown : (test : ℕ × Entry → Bool) (entries : List Entry) (position : ℕ) (atom : List ℕ) → AreKeywords entries
    → AllByRecursion AreShown (map (λ (e : ℕ × Entry). drop (length atom) e.1.text) (filter test (enumerate_from position entries)))
rests_shown test [] position atom all = tt
rests_shown test (entry ∷ more) position atom all =
    cond_each (λ (found : List (ℕ × Entry)). AllByRecursion AreShown (map (λ (e : ℕ × Entry). drop (length atom) e.1.text) found))
    (test (position, entry)) _ _
    (shown_drop (length atom) entry.text (keyword_shown entry.text all.0), rests_shown test more (position + 1) atom all.1)
    (rests_shown test more (position + 1) atom all.1)

left_shown : (left : ℕ × Entry → Bool) (atom : List ℕ) (xs : List (ℕ × Entry))
    → AllByRecursion AreShown (map (λ (e : ℕ × Entry). drop (length atom) e.1.text) xs)
    → AllByRecursion AreShown (map (λ (e : ℕ × Entry). drop (length atom) e.1.text) (filter left xs))
left_shown left atom [] all = tt
left_shown left atom (e ∷ more) all =
    cond_each (λ (found : List (ℕ × Entry)). AllByRecursion AreShown (map (λ (e : ℕ × Entry). drop (length atom) e.1.text) found))
    (left e) _ _ (all.0, left_shown left atom more all.1) (left_shown left atom more all.1)

fold_shown : (text : List ℕ) (texts : List (List ℕ)) → AreShown text → AreShown (fold shared_letters text texts)
fold_shown text [] shown = shown
fold_shown text (other ∷ texts) shown = fold_shown (shared_letters text other) texts (shown_take _ text shown)

-- what several of them share is bytes of one of them
pub among_shown : (left : ℕ × Entry → Bool) (table : List Entry) (atom : List ℕ) → AreKeywords table
    → AreShown (common_among left table atom)
among_shown left table atom all =
    by (rests_among left table atom) (left_shown left atom (candidates table atom) (rests_shown _ table 0 atom all))
  where
    by : (texts : List (List ℕ)) → AllByRecursion AreShown texts → AreShown (unwrap_or (reduce shared_letters texts) [])
    by [] all = tt
    by (text ∷ texts) all = fold_shown text texts all.0

-- a table that a block names has no fault, nor has one that is not there
pub table_none : (graph : Graph) (number : ℕ) → AreTables graph.tables → table_fault (table_of graph number) ≡ None
unfolding table_fault
table_none graph number tables = by graph.tables number tables
  where
    by : (tables : List (List Entry)) (number : ℕ) → AreTables tables
        → table_fault (option_map_or (λ (table : List Entry). table) (slice_get tables number) []) ≡ None
    by [] number tables = refl
    by (table ∷ more) zero tables = tables 0 table (omega arith)
    by (table ∷ more) (suc number) tables = by more number (λ k d below. tables (suc k) d (omega arith))
