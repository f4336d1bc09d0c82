-- The keyword tables of a place.
use Rattle.std.specs.Prelude.{ℕ, Bool, false, true, ◌==◌, ◌&&◌, List, ◌∷◌, ◌++◌, drop, take, length, not, min, Option, None, Some}
use Rattle.std.specs.List.{prefix_len}
use Rattle.std.specs.Str.{bytes_eq}
use Rattle.std.specs.declared.cmp.Ordering.{Ordering}
use Rattle.std.specs.declared.cmp.Ordering.TheVariants.{Less, Equal, Greater}
use Rattle.cm_tables.specs.Order.{text_order}
use Rattle.cm_tables.specs.Words.{entry}
use Rattle.cm_tables.specs.declared.entry.Entry.{Entry}

-- a node by the number of its place; a grammar has none so high as the last of these
abbrev pub node_of : ℕ → ℕ
node_of place = min place 65535

-- an entry with this text, which a colon may follow, its help, and the place behind it
abbrev pub entry_of : List ℕ → Bool → Option (List ℕ) → ℕ → Entry
entry_of text colon help place = record (entry text 0 (node_of place)) { colon = colon; help = help }

abbrev pub is_less : Ordering → Bool
is_less Less = true
is_less Equal = false
is_less Greater = false

-- how many entries stand before the first whose text is above this: letters have no case
abbrev pub rank_of : List Entry → List ℕ → ℕ
rank_of entries text = prefix_len (λ (one : Entry). not (is_less (text_order text one.text))) entries

-- an entry put there
abbrev pub inserted : List Entry → Entry → List Entry
inserted entries new = take (rank_of entries new.text) entries ++ new ∷ drop (rank_of entries new.text) entries

abbrev pub is_same_help : Option (List ℕ) → Option (List ℕ) → Bool
is_same_help None None = true
is_same_help (Some help) (Some other) = bytes_eq help other
is_same_help help other = false

abbrev pub is_same_colon : Bool → Bool → Bool
is_same_colon true other = other
is_same_colon false other = not other

-- two entries read the same, are shown alike and lead to one place
abbrev pub is_same_entry : Entry → Entry → Bool
is_same_entry one other =
    bytes_eq one.text other.text && is_same_colon one.colon other.colon && one.next == other.next
    && is_same_help one.help other.help

abbrev pub all_same : List Entry → List Entry → Bool
all_same (one ∷ ones) (other ∷ others) = is_same_entry one other && all_same ones others
all_same ones others = true

abbrev pub are_same_entries : List Entry → List Entry → Bool
are_same_entries ones others = length ones == length others && all_same ones others

-- the number of the first table with these entries, or that of the next
abbrev pub number_of : List (List Entry) → List Entry → ℕ
number_of tables entries = prefix_len (λ (table : List Entry). not (are_same_entries table entries)) tables
