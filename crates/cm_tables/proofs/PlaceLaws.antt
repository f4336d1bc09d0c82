-- The places of the entries of a table to an atom rise, so that halving finds the first that begins with it.
use Rattle.std.proofs.Common.{◌≡◌, ℕ, Bool, zero, suc, ◌≤◌, true, false, List, [], ◌∷◌, length, length-take, get_or, take, drop, arith, refl, sym, subst, ◌∙◌}
use Rattle.std.specs.Char.{to_ascii_lowercase}
use Rattle.std.specs.List.{list_all}
use Rattle.std.specs.List.Sorted.{IsNonDecreasingBy, IsPartitionedBy, IsPartitionPoint}
use Rattle.std.specs.Ordering.{is_eq, nat_cmp, ordering_index, ordering_then}
use Rattle.std.specs.declared.cmp.Ordering.{Ordering}
use Rattle.std.specs.declared.cmp.Ordering.TheVariants.{Less, Equal, Greater}
use Rattle.std.proofs.lemmas.Bool.{and_parts}
use Rattle.std.proofs.lemmas.Bool.Decides.{nat_tests}
use Rattle.std.proofs.lemmas.List.{take-append-drop}
use Rattle.cm_lists.proofs.Numbers.{nat_cmp_equal}
use Rattle.cm_lists.proofs.Orders.{is_lt_by_index, lt_is_not_eq, ordering_index_then_less, ordering_index_then_same}
use Rattle.cm_lists.proofs.Quantifiers.{AllByRecursion-at, AllByRecursion-drop_within, AllByRecursion-take, AllByRecursion_then}
use Rattle.cm_text.specs.Case.{begins_with, equals}
use Rattle.cm_tables.specs.Order.{is_keyword, is_keyword_byte, text_order}
use Rattle.cm_tables.specs.Search.{Ascends, IsFrom, is_below, place}
use Rattle.cm_tables.specs.declared.entry.Entry.{Entry}

-- of two texts the lower has no higher place
pub rising : (text other atom : List ℕ) → text_order text other ≡ Less
    → ordering_index (place text atom) ≤ ordering_index (place other atom)
rising text other [] less = omega arith
rising [] other (next ∷ atom) less = omega arith
rising (byte ∷ text) [] (next ∷ atom) less = cc
rising (byte ∷ text) (its ∷ other) (next ∷ atom) less = by (nat_cmp low second) refl less (rising text other atom)
  where
    low : ℕ
    low = to_ascii_lowercase byte

    second : ℕ
    second = to_ascii_lowercase its

    mark : ℕ
    mark = to_ascii_lowercase next

    by : (order : Ordering) → nat_cmp low second ≡ order → ordering_then order (text_order text other) ≡ Less
        → (text_order text other ≡ Less → ordering_index (place text atom) ≤ ordering_index (place other atom))
        → ordering_index (ordering_then (nat_cmp low mark) (place text atom))
        ≤ ordering_index (ordering_then (nat_cmp second mark) (place other atom))
    by Less is less later = ordering_index_then_less low second mark _ _ is
    by Equal is less later =
        subst (λ (byte : ℕ). ordering_index (ordering_then (nat_cmp byte mark) (place text atom))
        ≤ ordering_index (ordering_then (nat_cmp second mark) (place other atom))) (sym (nat_cmp_equal low second is))
        (ordering_index_then_same second mark _ _ (later less))
    by Greater is less later = cc

pub keyword_bytes : (text : List ℕ) → is_keyword text ≡ true → list_all is_keyword_byte text ≡ true
keyword_bytes text is = (and_parts _ _ is).1

-- the places of the entries rise
abbrev index_of : List ℕ → Entry → ℕ
index_of atom entry = ordering_index (place entry.text atom)

places_rise : (atom : List ℕ) (entries : List Entry) → Ascends entries → IsNonDecreasingBy (index_of atom) entries
places_rise atom [] up i j d le within = absurd (omega arith)
places_rise atom (x ∷ xs) up zero zero d le within = omega arith
places_rise atom (x ∷ xs) up zero (suc j) d le within =
    rising x.text (get_or xs j d).text atom
    (AllByRecursion-at (λ later. text_order x.text later.text ≡ Less) xs up.1 j d (omega arith))
places_rise atom (x ∷ xs) up (suc i) zero d le within = absurd (omega arith)
places_rise atom (x ∷ xs) up (suc i) (suc j) d le within =
    places_rise atom xs up.2 i j d (omega arith) (omega arith)

-- so the test parts them
parted : (atom : List ℕ) (entries : List Entry) → IsNonDecreasingBy (index_of atom) entries
    → IsPartitionedBy (λ entry. is_below entry.text atom) entries
parted atom entries rise i j d le within is = is_lt_by_index _ _ (rise i j d le within) is

-- an entry begins with the atom exactly where its place is among those that do
pub begins_at : (text atom : List ℕ) → begins_with text atom ≡ is_eq (place text atom)
unfolding begins_with equals
begins_at text [] = refl
begins_at [] (next ∷ atom) = refl
begins_at (byte ∷ text) (next ∷ atom) =
    by (nat_cmp (to_ascii_lowercase byte) (to_ascii_lowercase next)) refl (begins_at text atom)
  where
    by : (order : Ordering) → nat_cmp (to_ascii_lowercase byte) (to_ascii_lowercase next) ≡ order
        → begins_with text atom ≡ is_eq (place text atom)
        → begins_with (byte ∷ text) (next ∷ atom) ≡ is_eq (ordering_then order (place text atom))
    by Less is later = grind (arith, nat_tests)
    by Equal is later = grind (arith, nat_tests)
    by Greater is later = grind (arith, nat_tests)

-- those that a test passes are before this place, and the others from it on
abbrev pub IsPoint : (Entry → Bool) → List Entry → ℕ → Type 0
IsPoint test entries place = IsPartitionPoint (λ entry. test entry ≡ true) (λ entry. test entry ≡ false) entries place

pub ascends_dropped : (size : ℕ) (entries : List Entry) → Ascends entries → Ascends (drop size entries)
ascends_dropped zero entries up = up
ascends_dropped (suc size) [] up = tt
ascends_dropped (suc size) (first ∷ more) up = ascends_dropped size more up.2

-- the entries from the point on that the search finds
pub from_is : (atom : List ℕ) (entries after : List Entry) (start : ℕ) → Ascends entries → after ≡ drop start entries
    → start ≤ length entries
    → (IsPartitionedBy (λ entry. is_below entry.text atom) entries → IsPoint (λ entry. is_below entry.text atom) entries start)
    → IsFrom atom entries start after
from_is atom entries after start up rest most finds =
    let point = finds (parted atom entries (places_rise atom entries up)) in
    subst (IsFrom atom entries start) (sym rest) record {
      before = take start entries;
      parts = sym (take-append-drop start entries);
      at = simp length-take (omega (arith, most));
      none_before = AllByRecursion_then _ _ (λ e is. begins_at e.text atom ∙ lt_is_not_eq _ is) _ (AllByRecursion-take _ entries start point.0 most);
      above = AllByRecursion-drop_within _ entries start point.1;
      ascends = ascends_dropped start entries up;
    }
