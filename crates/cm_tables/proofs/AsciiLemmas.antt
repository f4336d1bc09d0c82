-- What the entries of a table share is ASCII.
use Rattle.std.proofs.Common.{◌≡◌, ℕ, zero, suc, ◌+◌, ◌<◌, Bool, true, false, cond, ◌&&◌, List, [], ◌∷◌, length, drop, map, arith}
use Rattle.std.specs.List.{AllByRecursion, fold, list_all, reduce}
use Rattle.std.specs.Option.{unwrap_or}
use Rattle.std.specs.Str.{IsAscii}
use Rattle.std.proofs.lemmas.Bool.{and_parts}
use Rattle.std.proofs.lemmas.Bool.Decides.{nat_tests}
use Rattle.std.proofs.lemmas.Str.Ascii.{IsAscii-nil}
use Rattle.std.proofs.lemmas.Str.{IsAscii-drop, IsAscii-take}
use Rattle.cm_text.specs.Case.{begins_with}
use Rattle.cm_tables.specs.Common.{common, rests, shared_letters}
use Rattle.cm_tables.specs.Look.{is_recognised}
use Rattle.cm_tables.specs.Order.{is_keyword_byte}
use Rattle.cm_tables.specs.Search.{Ascends}
use Rattle.cm_tables.specs.declared.entry.Entry.{Entry}
use Rattle.cm_tables.proofs.CommonLemmas.{rests_from}
use Rattle.cm_tables.proofs.PlaceLaws.{keyword_bytes}
use Rattle.cm_tables.specs.Search.{candidates_from}

keyword_byte_is_ascii : (byte : ℕ) → is_keyword_byte byte ≡ true → byte < 128
keyword_byte_is_ascii byte is = grind (arith, nat_tests)

keyword_is_ascii : (text : List ℕ) → list_all is_keyword_byte text ≡ true → IsAscii text
keyword_is_ascii [] all i = omega arith
keyword_is_ascii (byte ∷ text) all zero = keyword_byte_is_ascii byte (and_parts _ _ all).0
keyword_is_ascii (byte ∷ text) all (suc i) = keyword_is_ascii text (and_parts _ _ all).1 i

-- what is after an atom in the entries
rests_are_ascii : (place : ℕ) (entries : List Entry) (atom : List ℕ) → Ascends entries
    → AllByRecursion IsAscii (rests_from place entries atom)
rests_are_ascii place [] atom up = tt
rests_are_ascii place (first ∷ more) atom up =
    by (is_recognised first.flag && begins_with first.text atom)
    (IsAscii-drop first.text (length atom) (keyword_is_ascii first.text (keyword_bytes first.text up.0)))
    (rests_are_ascii (place + 1) more atom up.2)
  where
    after : ℕ × Entry → List ℕ
    after e = drop (length atom) e.1.text

    by : (test : Bool) → IsAscii (drop (length atom) first.text) → AllByRecursion IsAscii (rests_from (place + 1) more atom)
        → AllByRecursion IsAscii
        (map after (cond test ((place, first) ∷ candidates_from (place + 1) more atom) (candidates_from (place + 1) more atom)))
    by true here later = (here, later)
    by false here later = later

-- what they all share
shared_is_ascii : (text : List ℕ) (others : List (List ℕ)) → IsAscii text → IsAscii (fold shared_letters text others)
shared_is_ascii text [] is = is
shared_is_ascii text (other ∷ others) is = shared_is_ascii (shared_letters text other) others (IsAscii-take text _ is)

least_is_ascii : (texts : List (List ℕ)) → AllByRecursion IsAscii texts → IsAscii (unwrap_or (reduce shared_letters texts) [])
least_is_ascii [] all = IsAscii-nil
least_is_ascii (text ∷ others) all = shared_is_ascii text others all.0

pub common_is_ascii : (table : List Entry) (atom : List ℕ) → Ascends table → IsAscii (common table atom)
unfolding common
common_is_ascii table atom up = least_is_ascii (rests table atom) (rests_are_ascii 0 table atom up)
