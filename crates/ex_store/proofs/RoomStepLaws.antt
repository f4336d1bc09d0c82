-- A change puts at most one file under a key, and only under its own.
use Rattle.std.proofs.Common.{◌≡◌, ℕ, ◌<◌, ◌≤◌, ◌+◌, ◌==◌, ◌&&◌, nat_le, Bool, true, false, cond, List, [], ◌∷◌, ◌++◌, length, drop, get_or, map, take, Option, None, Some, refl, ap, arith, ◌∙◌, subst}
use Rattle.std.specs.Ordering.{is_eq, is_lt}
use Rattle.std.proofs.lemmas.List.Sums.{sum_by-cons}
use Rattle.ex_generations.specs.Generations.{rewritten}
use Rattle.ex_generations.specs.Retention.{live}
use Rattle.ex_store.specs.declared.key.FullName.{FullName}
use Rattle.ex_store.specs.declared.key.Key.{Key}
use Rattle.ex_store.specs.declared.ready.RowChange.{RowChange}
use Rattle.ex_store.specs.declared.ready.RowChange.TheVariants as changes
use Rattle.ex_store.specs.declared.row.Row.{Row}
use Rattle.ex_store.specs.Families.{room_at}
use Rattle.ex_store.specs.Ready.{count_under, puts_under, reinserted, rows_after, rows_after_all}
use Rattle.ex_store.specs.Rows.{added, by_key, by_row, filled, files_of, inserted, is_full, is_of, kept_newest, row_at, with_mark, with_name, without}
use Rattle.ex_store.specs.State.{FamilyRoom}
use Rattle.ex_store.proofs.DoableLaws.{split_at}

-- how many files there are under a key
abbrev size : Key → List Row → ℕ
size key rows = length (files_of key rows)

abbrev one : Key → Row → ℕ
one key row = cond (is_of key row) 1 0

count_more : (key : Key) (change : RowChange) (more : List RowChange)
    → count_under key (change ∷ more) ≡ cond (puts_under key change) 1 0 + count_under key more
count_more key change more = sum_by-cons (λ (it : RowChange). cond (puts_under key it) 1 0) change more

size_more : (key : Key) (row : Row) (rows : List Row) → size key (row ∷ rows) ≡ one key row + size key rows
size_more key row rows = by (is_of key row) refl
  where
    by : (b : Bool) → is_of key row ≡ b → size key (row ∷ rows) ≡ one key row + size key rows
    by true is = rw is (omega arith)
    by false is = rw is (omega arith)

size_inserted : (key : Key) (row : Row) (rows : List Row) → size key (inserted row rows) ≡ one key row + size key rows
size_inserted key row [] = size_more key row []
size_inserted key row (other ∷ rows) = by (is_lt (by_row other row)) (size_inserted key row rows)
  where
    by : (b : Bool) → size key (inserted row rows) ≡ one key row + size key rows
        → size key (cond b (other ∷ inserted row rows) (row ∷ other ∷ rows)) ≡ one key row + size key (other ∷ rows)
    by true rest = omega (arith, rest, size_more key other (inserted row rows), size_more key other rows)
    by false rest = size_more key row (other ∷ rows)

size_kept : (retention : ℕ) (own key : Key) (rows : List Row) → size key (kept_newest retention own rows) ≡ size key rows
size_kept retention own key [] = refl
size_kept retention own key (row ∷ rows) =
    by (is_of own row && nat_le retention (live (files_of own rows))) (size_kept retention own key rows)
  where
    by : (b : Bool) → size key (kept_newest retention own rows) ≡ size key rows
        → size key (cond b (with_mark true row) row ∷ kept_newest retention own rows) ≡ size key (row ∷ rows)
    by true rest =
        let same : one key (with_mark true row) ≡ one key row = refl in
        omega (arith, rest, same, size_more key (with_mark true row) (kept_newest retention own rows), size_more key row rows)
    by false rest = omega (arith, rest, size_more key row (kept_newest retention own rows), size_more key row rows)

size_added : (retention : ℕ) (key : Key) (row : Row) (rows : List Row) → size key (added retention row rows) ≡ one key row + size key rows
size_added retention key row rows = by (retention == 0)
  where
    by : (b : Bool) → size key (cond b (inserted row rows) (kept_newest retention row.key (inserted row rows))) ≡ one key row + size key rows
    by true = size_inserted key row rows
    by false = size_kept retention row.key key (inserted row rows) ∙ size_inserted key row rows

pub size_without : (full : FullName) (key : Key) (rows : List Row) → size key (without full rows) ≤ size key rows
size_without full key [] = omega arith
size_without full key (row ∷ rows) = by (is_full full row) (size_without full key rows)
  where
    by : (b : Bool) → size key (without full rows) ≤ size key rows
        → size key (cond b rows (row ∷ without full rows)) ≤ size key (row ∷ rows)
    by true rest = omega (arith, size_more key row rows)
    by false rest = omega (arith, rest, size_more key row rows, size_more key row (without full rows))

size_filled : (full : FullName) (moment : ℕ) (bytes : List ℕ) (key : Key) (rows : List Row) → size key (filled full moment bytes rows) ≡ size key rows
size_filled full moment bytes key [] = refl
size_filled full moment bytes key (row ∷ rows) = by (is_full full row) (size_filled full moment bytes key rows)
  where
    by : (b : Bool) → size key (filled full moment bytes rows) ≡ size key rows
        → size key (cond b ((record row { file = rewritten moment bytes row.file }) ∷ rows) (row ∷ filled full moment bytes rows)) ≡ size key (row ∷ rows)
    by true rest =
        let same : one key (record row { file = rewritten moment bytes row.file }) ≡ one key row = refl in
        omega (arith, same, size_more key (record row { file = rewritten moment bytes row.file }) rows, size_more key row rows)
    by false rest = omega (arith, rest, size_more key row rows, size_more key row (filled full moment bytes rows))

size_moved : (key : Key) (target : FullName) (rows : List Row) (row : Option Row)
    → size key (reinserted target rows row) ≤ cond (is_eq (by_key target.key key)) 1 0 + size key rows
size_moved key target rows None = omega arith
size_moved key target rows (Some row) =
    let same : one key (with_name target row.file) ≡ cond (is_eq (by_key target.key key)) 1 0 = refl in
    omega (arith, same, size_added row.file.keep key (with_name target row.file) rows)

pub size_after : (key : Key) (rows : List Row) (change : RowChange)
    → length (files_of key (rows_after rows change)) ≤ cond (puts_under key change) 1 0 + length (files_of key rows)
size_after key rows (changes.Add row) =
    let same : one key row ≡ cond (puts_under key (changes.Add row)) 1 0 = refl in
    omega (arith, same, size_added row.file.keep key row rows)
size_after key rows (changes.Move pair) =
    let same : cond {A = ℕ} (is_eq (by_key pair.target.key key)) 1 0 ≡ cond (puts_under key (changes.Move pair)) 1 0 = refl in
    omega (arith, same, size_moved key pair.target (without pair.source rows) (row_at pair.source rows), size_without pair.source key rows)
size_after key rows (changes.Fill target moment bytes) = omega (arith, size_filled target moment bytes key rows)

-- there is room under each key for what some changes put there
abbrev pub RoomFor : List FamilyRoom → List Row → List RowChange → Type 0
RoomFor rooms rows changes = (key : Key) → 0 < count_under key changes → length (files_of key rows) + count_under key changes ≤ room_at key rooms

pub room_after_change : (rooms : List FamilyRoom) (rows : List Row) (change : RowChange) (more : List RowChange)
    → RoomFor rooms rows (change ∷ more) → RoomFor rooms (rows_after rows change) more
room_after_change rooms rows change more room key some =
    let step = size_after key rows change in
    let counted = count_more key change more in
    omega (arith, step, some, counted, room key (omega (arith, some, counted)))

pub room_now : (rooms : List FamilyRoom) (rows : List Row) (change : RowChange) (more : List RowChange) (key : Key)
    → RoomFor rooms rows (change ∷ more) → puts_under key change ≡ true → length (files_of key rows) < room_at key rooms
room_now rooms rows change more key room puts =
    let first : count_under key (change ∷ more) ≡ 1 + count_under key more =
    count_more key change more ∙ ap (λ (b : Bool). cond b 1 0 + count_under key more) puts in
    omega (arith, first, room key (omega (arith, first)))

room_after : (rooms : List FamilyRoom) (rows : List Row) (done more : List RowChange)
    → RoomFor rooms rows (done ++ more) → RoomFor rooms (rows_after_all rows done) more
room_after rooms rows [] more room = room
room_after rooms rows (first ∷ done) more room =
    room_after rooms (rows_after rows first) done more (room_after_change rooms rows first (done ++ more) room)

pub room_turn : (rooms : List FamilyRoom) (rows : List Row) (items done : List RowChange) (change : RowChange)
    → RoomFor rooms rows items
    → map (λ (each : RowChange). each) done ≡ take (length done) items → length done < length items
    → change ≡ get_or items (length done) change
    → (key : Key) → puts_under key change ≡ true → length (files_of key (rows_after_all rows done)) < room_at key rooms
room_turn rooms rows items done change room so_far within is key puts =
    room_now rooms (rows_after_all rows done) change (drop (length done + 1) items) key
    (room_after rooms rows done (change ∷ drop (length done + 1) items)
    (subst (RoomFor rooms rows) (split_at items done change so_far within is) room)) puts
