-- Bytes are put after those of a file: the rows stay those of a store, and the outcome of the plan.
use Rattle.std.proofs.Common.{◌≡◌, ◌≤◌, ◌+◌, ◌&&◌, nat_le, ℕ, suc, Bool, true, false, not, cond, List, [], ◌∷◌, length, unwrap_or, Ok, Err, Option, Some, None, refl, ap, arith, ◌∙◌, subst}
use Rattle.std.specs.List.{list_all}
use Rattle.std.specs.Option.{option_map_or}
use Rattle.std.specs.Ordering.{is_lt}
use Rattle.std.proofs.lemmas.Bool.{and_from, and_parts, le-leb, leb-true, not-true}
use Rattle.std.proofs.lemmas.List.{length-map}
use Rattle.cm_lists.proofs.Ascents.{all_above, is_sorted}
use Rattle.cm_fields.specs.declared.code.Code.{Code}
use Rattle.ex_generations.specs.declared.file.File.{File}
use Rattle.ex_generations.specs.declared.file.TheConstants.{FILE_LIMIT}
use Rattle.cm_lists.specs.Ascent.{ascends}
use Rattle.ex_generations.specs.Generations.{has, rewritten}
use Rattle.ex_store.specs.declared.append.Opening.{Opening}
use Rattle.ex_store.specs.declared.directory.Directory.{Directory}
use Rattle.ex_store.specs.declared.key.FullName.{FullName}
use Rattle.ex_store.specs.declared.key.NamePair.{NamePair}
use Rattle.ex_store.specs.declared.limits.TheConstants.{MOMENT_LIMIT, RETENTION_LIMIT, STORE_LIMIT}
use Rattle.ex_store.specs.declared.place.Place.{Place}
use Rattle.ex_store.specs.declared.ready.RowChange.{RowChange}
use Rattle.ex_store.specs.declared.row.Row.{Row}
use Rattle.ex_store.specs.Adding.{admitted, keep_at, new_row}
use Rattle.ex_store.specs.Appending.{appended, bytes_at, found, opened, opening_of, pairs_to, concatenation, row_changes_of, with_opened}
use Rattle.ex_store.specs.Copying.{moment_of, own_key}
use Rattle.ex_store.specs.declared.plan.Refusal.{Refusal}
use Rattle.ex_store.specs.declared.plan.Refusal.TheVariants as refusals
use Rattle.ex_store.specs.Plan.{IsOneFile, IsRefused, has_plain_kind, has_plain_name}
use Rattle.ex_store.specs.Positions.{elements_at}
use Rattle.ex_store.specs.declared.ready.RowChange.TheVariants as changes
use Rattle.ex_store.specs.Ready.{are_doable, is_lawful, rows_after_all}
use Rattle.ex_store.specs.Rows.{added, by_row, files_of, filled, full_of, is_full, row_at, total}
use Rattle.ex_store.specs.WellFormed.{AreRows, is_file_name, is_file_type, is_row_among, is_stamped}
use Rattle.ex_store.proofs.AdmittedLaws.{admitted_is, and_then_ok, counted_file, rows_added}
use Rattle.cm_lists.proofs.Ascents.{ascends_sorted, sorted_ascends}
use Rattle.ex_store.proofs.AllCopiedLaws.{formed, formed_is, keep_within, moment_within, new_stamped}
use Rattle.ex_store.proofs.ElementsLaws.{length_elements}
use Rattle.ex_store.proofs.ConcatenationLaws.{concatenation_within}
use Rattle.ex_store.proofs.TotalLaws.{total_added, total_cons}
use Rattle.ex_store.proofs.AreRowsLaws.{absent_has, by_row_total, is_absent}

-- the row with another moment and other bytes
abbrev refilled : ℕ → List ℕ → Row → Row
refilled moment bytes row = record row { file = rewritten moment bytes row.file }

-- a test that does not look at moment and bytes
all_filled_same : (test : Row → Bool) (full : FullName) (moment : ℕ) (bytes : List ℕ) → ((row : Row) → test (refilled moment bytes row) ≡ test row)
    → (rows : List Row) → list_all test (filled full moment bytes rows) ≡ list_all test rows
all_filled_same test full moment bytes same [] = refl
all_filled_same test full moment bytes same (row ∷ rows) = by (is_full full row) (all_filled_same test full moment bytes same rows)
  where
    by : (b : Bool) → list_all test (filled full moment bytes rows) ≡ list_all test rows
        → list_all test (cond b (refilled moment bytes row ∷ rows) (row ∷ filled full moment bytes rows)) ≡ (test row && list_all test rows)
    by true rest = ap (λ first. first && list_all test rows) (same row)
    by false rest = ap (λ more. test row && more) rest

sorted_filled : (full : FullName) (moment : ℕ) (bytes : List ℕ) (rows : List Row)
    → is_sorted by_row (filled full moment bytes rows) ≡ is_sorted by_row rows
sorted_filled full moment bytes [] = refl
sorted_filled full moment bytes (row ∷ rows) = by (is_full full row) (sorted_filled full moment bytes rows)
  where
    above : all_above by_row row (filled full moment bytes rows) ≡ all_above by_row row rows
    above = all_filled_same (λ each. is_lt (by_row row each)) full moment bytes (λ each. refl) rows

    by : (b : Bool) → is_sorted by_row (filled full moment bytes rows) ≡ is_sorted by_row rows
        → is_sorted by_row (cond b (refilled moment bytes row ∷ rows) (row ∷ filled full moment bytes rows))
        ≡ (all_above by_row row rows && is_sorted by_row rows)
    by true rest = refl
    by false rest = rw (above, rest) refl

pub ascends_filled : (full : FullName) (moment : ℕ) (bytes : List ℕ) (rows : List Row) → ascends by_row rows ≡ true
    → ascends by_row (filled full moment bytes rows) ≡ true
ascends_filled full moment bytes rows ascend =
    ascends_sorted by_row (filled full moment bytes rows)
    (sorted_filled full moment bytes rows ∙ sorted_ascends by_row by_row_total rows ascend)

-- what a row keeps with other bytes, all keep
all_filled : (test : Row → Bool) (full : FullName) (moment : ℕ) (bytes : List ℕ)
    → ((row : Row) → test row ≡ true → test (refilled moment bytes row) ≡ true) → (rows : List Row) → list_all test rows ≡ true
    → list_all test (filled full moment bytes rows) ≡ true
all_filled test full moment bytes keeps [] all = refl
all_filled test full moment bytes keeps (row ∷ rows) all =
    by (is_full full row) (all_filled test full moment bytes keeps rows (and_parts _ _ all).1)
  where
    by : (b : Bool) → list_all test (filled full moment bytes rows) ≡ true
        → list_all test (cond b (refilled moment bytes row ∷ rows) (row ∷ filled full moment bytes rows)) ≡ true
    by true rest = and_from _ _ (keeps row (and_parts _ _ all).0) (and_parts _ _ all).1
    by false rest = and_from _ _ (and_parts _ _ all).0 rest

length_filled : (full : FullName) (moment : ℕ) (bytes : List ℕ) (rows : List Row) → length (filled full moment bytes rows) ≡ length rows
length_filled full moment bytes [] = refl
length_filled full moment bytes (row ∷ rows) = by (is_full full row) (length_filled full moment bytes rows)
  where
    by : (b : Bool) → length (filled full moment bytes rows) ≡ length rows
        → length (cond b (refilled moment bytes row ∷ rows) (row ∷ filled full moment bytes rows)) ≡ suc (length rows)
    by true rest = refl
    by false rest = ap (λ n. suc n) rest

-- the bytes of the file give way to others, where it is there
total_filled : (full : FullName) (moment : ℕ) (bytes : List ℕ) (rows : List Row)
    → total (filled full moment bytes rows) + length (bytes_at full rows) ≤ total rows + length bytes
total_filled full moment bytes [] = omega arith
total_filled full moment bytes (row ∷ rows) = by (is_full full row) (total_filled full moment bytes rows)
  where
    by : (b : Bool) → total (filled full moment bytes rows) + length (bytes_at full rows) ≤ total rows + length bytes
        → total (cond b (refilled moment bytes row ∷ rows) (row ∷ filled full moment bytes rows))
        + length (option_map_or (λ (each : Row). each.file.bytes) (cond b (Some row) (row_at full rows)) [])
        ≤ total (row ∷ rows) + length bytes
    by true rest = omega (arith, total_cons (refilled moment bytes row) rows, total_cons row rows)
    by false rest = omega (arith, rest, total_cons row (filled full moment bytes rows), total_cons row rows)

-- what a file of a store holds has no more bytes than one may have
pub bytes_short : (directories : List Directory) (full : FullName) (rows : List Row) → list_all (is_row_among directories) rows ≡ true
    → length (bytes_at full rows) ≤ FILE_LIMIT
bytes_short directories full [] all = omega arith
bytes_short directories full (row ∷ rows) all =
    by (is_full full row) (bytes_short directories full rows (and_parts _ _ all).1)
  where
    here : length row.file.bytes ≤ FILE_LIMIT
    here = leb-true (length row.file.bytes) FILE_LIMIT (formed directories row (and_parts _ _ all).0).short

    by : (b : Bool) → length (bytes_at full rows) ≤ FILE_LIMIT
        → length (option_map_or (λ (each : Row). each.file.bytes) (cond b (Some row) (row_at full rows)) []) ≤ FILE_LIMIT
    by true rest = here
    by false rest = rest

-- a file that is not there holds nothing
absent_bytes : (full : FullName) (rows : List Row) → is_absent full rows ≡ true → bytes_at full rows ≡ []
absent_bytes full [] absent = refl
absent_bytes full (row ∷ rows) absent =
    by (is_full full row) (not-true _ (and_parts _ _ absent).0) (absent_bytes full rows (and_parts _ _ absent).1)
  where
    by : (b : Bool) → b ≡ false → bytes_at full rows ≡ []
        → option_map_or (λ (each : Row). each.file.bytes) (cond b (Some row) (row_at full rows)) [] ≡ []
    by true is rest = absurd (cc)
    by false is rest = rest

-- other bytes of another moment leave what a file keeps, and who has read it
refilled_stamped : (file : File) (moment : ℕ) (bytes : List ℕ) → is_stamped file ≡ true → nat_le moment MOMENT_LIMIT ≡ true
    → is_stamped (rewritten moment bytes file) ≡ true
refilled_stamped file moment bytes is within =
    let parts = and_parts _ _ is in
    and_from _ _ (and_from _ _ (and_parts _ _ parts.0).0 within) parts.1

rows_filled : (directories : List Directory) (full : FullName) (moment : ℕ) (bytes : List ℕ) (rows : List Row) → AreRows directories rows
    → nat_le moment MOMENT_LIMIT ≡ true → length bytes ≤ FILE_LIMIT → total (filled full moment bytes rows) ≤ STORE_LIMIT
    → AreRows directories (filled full moment bytes rows)
rows_filled directories full moment bytes rows are within short small = record {
  ascend = ascends_filled full moment bytes rows are.ascend;
  within = all_filled (is_row_among directories) full moment bytes form rows are.within;
  few = omega (arith, length_filled full moment bytes rows, are.few);
  small = small;
}
  where
    form : (row : Row) → is_row_among directories row ≡ true → is_row_among directories (refilled moment bytes row) ≡ true
    form row is =
        let parts = formed directories row is in
        formed_is directories (refilled moment bytes row) (record {
          there = parts.there;
          name = parts.name;
          kind = parts.kind;
          generation = parts.generation;
          stamped = refilled_stamped row.file moment bytes parts.stamped within;
          short = le-leb (length bytes) FILE_LIMIT short;
        })

-- no file that is added has a full name that is there
abbrev is_new : List Row → Option Row → Bool
is_new rows None = true
is_new rows (Some row) = not (has row.file.generation (files_of row.key rows))

-- what is added may be
abbrev is_lawful_new : Option Row → Bool
is_lawful_new None = true
is_lawful_new (Some row) = is_lawful (changes.Add row)

-- the rows with the file that is put after, and how many bytes they have
record IsOpened (directories : List Directory) (rows : List Row) (there : Opening) : Type 0 where
  are : AreRows directories (with_opened rows there.new)
  new : is_new rows there.new ≡ true
  lawful : is_lawful_new there.new ≡ true
  room : total (with_opened rows there.new) + length (bytes_at there.target rows)
      ≤ total rows + length (bytes_at there.target (with_opened rows there.new))

plain_name : (name : Option (List ℕ)) → has_plain_name name ≡ true → is_file_name (unwrap_or name []) ≡ true
plain_name None has = absurd (cc)
plain_name (Some name) has = has

plain_kind : (kind : Option (List ℕ)) → has_plain_kind kind ≡ true → is_file_type (unwrap_or kind []) ≡ true
plain_kind None has = refl
plain_kind (Some kind) has = has

new_opened : (directories : List Directory) (retention moment : ℕ) (to : Place) (rows : List Row) (number : ℕ) → AreRows directories rows
    → IsOneFile to directories → nat_le retention RETENTION_LIMIT ≡ true → admitted (own_key to) to.generation 0 rows ≡ Ok number
    → (let row = new_row (own_key to) (keep_at retention (own_key to) rows) (moment_of moment) [] number in
    IsOpened directories rows (record { target = full_of row; new = Some row }))
new_opened directories retention moment to rows number are one few admits =
    let row = new_row (own_key to) (keep_at retention (own_key to) rows) (moment_of moment) [] number in
    let known = admitted_is (own_key to) to.generation 0 rows number (counted_file to.generation one.generation) admits in
    let form : is_row_among directories row ≡ true =
    formed_is directories row (record {
      there = one.there;
      name = plain_name to.name one.name;
      kind = plain_kind to.kind one.kind;
      generation = known.free.within;
      stamped = new_stamped (keep_at retention (own_key to) rows) (moment_of moment) number (own_key to) []
          (keep_within directories retention (own_key to) rows few are.within) (moment_within moment);
      short = refl;
    }) in
    let none : length (bytes_at (full_of row) rows) ≡ 0 = ap length (absent_bytes (full_of row) rows (absent_has (own_key to) number rows known.free.absent)) in
    let same : total (added row.file.keep row rows) ≡ 0 + total rows = total_added row.file.keep row rows in
    record {
      are = rows_added directories row.file.keep row rows are known form;
      new = ap not known.free.absent;
      lawful = and_from _ _ known.free.within refl;
      room = omega (arith, none, same);
    }

opening_is : (directories : List Directory) (retention moment : ℕ) (to : Place) (rows : List Row) (number : Option ℕ) (there : Opening)
    → AreRows directories rows → IsOneFile to directories → nat_le retention RETENTION_LIMIT ≡ true → opening_of retention moment (own_key to) number to.generation rows ≡ Ok there
    → IsOpened directories rows there
opening_is directories retention moment to rows (Some number) there are one few is =
    let same : record { target = record { key = own_key to; generation = number }; new = None } ≡ there = cc in
    subst (IsOpened directories rows) same (record { are = are; new = refl; lawful = refl; room = omega arith })
opening_is directories retention moment to rows None there are one few is =
    let parts = and_then_ok (λ number.
    let row = new_row (own_key to) (keep_at retention (own_key to) rows) (moment_of moment) [] number in
    Ok (record { target = full_of row; new = Some row })) (admitted (own_key to) to.generation 0 rows) there is in
    let row = new_row (own_key to) (keep_at retention (own_key to) rows) (moment_of moment) [] parts.0 in
    let told : Ok (record { target = full_of row; new = Some row }) ≡ Ok there = parts.2 in
    let same : record { target = full_of row; new = Some row } ≡ there = cc in
    subst (IsOpened directories rows) same (new_opened directories retention moment to rows parts.0 are one few parts.1)

opened_is : (directories : List Directory) (retention moment : ℕ) (to : Place) (rows : List Row) (there : Opening)
    → AreRows directories rows → IsOneFile to directories → nat_le retention RETENTION_LIMIT ≡ true
    → opened retention moment (own_key to) to.generation rows ≡ Ok there → IsOpened directories rows there
opened_is directories retention moment to rows there are one few is =
    let parts = and_then_ok (λ number. opening_of retention moment (own_key to) number to.generation rows) (found to.generation (files_of (own_key to) rows)) there is in
    opening_is directories retention moment to rows parts.0 there are one few parts.2

-- the empty row is added, and the bytes are filled in
changes_opened : (rows : List Row) (target : FullName) (new : Option Row) (moment : ℕ) (bytes : List ℕ)
    → rows_after_all rows (row_changes_of (record { target = target; new = new }) moment bytes) ≡ filled target moment bytes (with_opened rows new)
changes_opened rows target None moment bytes = refl
changes_opened rows target (Some row) moment bytes = refl

doable_opened : (rows : List Row) (target : FullName) (new : Option Row) (moment : ℕ) (bytes : List ℕ)
    → is_new rows new ≡ true
    → are_doable rows (row_changes_of (record { target = target; new = new }) moment bytes) ≡ true
doable_opened rows target None moment bytes is = refl
doable_opened rows target (Some row) moment bytes is = and_from _ _ is refl

-- and the changes can be done
pub append_doable : (directories : List Directory) (retention moment : ℕ) (to : Place) (rows : List Row) (there : Opening) (bytes : List ℕ) (done : List RowChange)
    → AreRows directories rows → IsOneFile to directories → nat_le retention RETENTION_LIMIT ≡ true
    → opened retention moment (own_key to) to.generation rows ≡ Ok there
    → done ≡ row_changes_of there (moment_of moment) bytes → are_doable rows done ≡ true
append_doable directories retention moment to rows there bytes done are one few opens is =
    let known = opened_is directories retention moment to rows there are one few opens in
    rw is (doable_opened rows there.target there.new (moment_of moment) bytes known.new)

lawful_opened : (target : FullName) (new : Option Row) (moment : ℕ) (bytes : List ℕ) → is_lawful_new new ≡ true
    → nat_le (length bytes) FILE_LIMIT ≡ true → list_all is_lawful (row_changes_of (record { target = target; new = new }) moment bytes) ≡ true
lawful_opened target None moment bytes is short = and_from _ _ short refl
lawful_opened target (Some row) moment bytes is short = and_from _ _ is (and_from _ _ short refl)

-- they are lawful
pub append_lawful : (directories : List Directory) (retention moment : ℕ) (to : Place) (rows sources : List Row) (there : Opening) (bytes : List ℕ) (done : List RowChange)
    → AreRows directories rows → IsOneFile to directories → nat_le retention RETENTION_LIMIT ≡ true
    → opened retention moment (own_key to) to.generation rows ≡ Ok there
    → concatenation (total rows) (bytes_at there.target rows) sources ≡ Ok bytes → done ≡ row_changes_of there (moment_of moment) bytes
    → list_all is_lawful done ≡ true
append_lawful directories retention moment to rows sources there bytes done are one few opens pours is =
    let known = opened_is directories retention moment to rows there are one few opens in
    let limits = concatenation_within (total rows) (bytes_at there.target rows) sources bytes pours (bytes_short directories there.target rows are.within) are.small in
    rw is (lawful_opened there.target there.new (moment_of moment) bytes known.lawful (le-leb (length bytes) FILE_LIMIT limits.0))

-- the rows after the changes are those of a store
pub append_sound : (directories : List Directory) (retention moment : ℕ) (to : Place) (rows sources : List Row) (there : Opening) (bytes : List ℕ) (done : List RowChange)
    → AreRows directories rows → IsOneFile to directories → nat_le retention RETENTION_LIMIT ≡ true
    → opened retention moment (own_key to) to.generation rows ≡ Ok there
    → concatenation (total rows) (bytes_at there.target rows) sources ≡ Ok bytes → done ≡ row_changes_of there (moment_of moment) bytes
    → AreRows directories (rows_after_all rows done)
append_sound directories retention moment to rows sources there bytes done are one few opens pours is =
    let known = opened_is directories retention moment to rows there are one few opens in
    let limits = concatenation_within (total rows) (bytes_at there.target rows) sources bytes pours (bytes_short directories there.target rows are.within) are.small in
    let grows = total_filled there.target (moment_of moment) bytes (with_opened rows there.new) in
    let small : total (filled there.target (moment_of moment) bytes (with_opened rows there.new)) ≤ STORE_LIMIT =
    omega (arith, known.room, limits.1, grows) in
    rw (is, changes_opened rows there.target there.new (moment_of moment) bytes)
    (rows_filled directories there.target (moment_of moment) bytes (with_opened rows there.new) known.are (moment_within moment) limits.0 small)

-- the outcome of the plan
pub append_ready : (retention moment : ℕ) (to : Place) (rows sources : List Row) (there : Opening) (bytes : List ℕ) (done : List RowChange) (pairs : List NamePair)
    → opened retention moment (own_key to) to.generation rows ≡ Ok there → concatenation (total rows) (bytes_at there.target rows) sources ≡ Ok bytes
    → done ≡ row_changes_of there (moment_of moment) bytes → pairs ≡ pairs_to there.target sources
    → appended retention moment to sources rows ≡ Ok (record { rows = rows_after_all rows done; pairs = pairs })
append_ready retention moment to rows sources there bytes done pairs opens pours is told =
    rw (is, told, changes_opened rows there.target there.new (moment_of moment) bytes) (rw (opens, pours) refl)

-- what refuses the file that is put after, or the bytes, refuses the plan
pub append_refused : (retention moment : ℕ) (to : Place) (rows sources : List Row) (code : Code)
    → opened retention moment (own_key to) to.generation rows ≡ Err code → appended retention moment to sources rows ≡ Err code
append_refused retention moment to rows sources code opens = rw opens refl

pub pour_refused : (retention moment : ℕ) (to : Place) (rows sources : List Row) (there : Opening) (refusal : Refusal)
    → opened retention moment (own_key to) to.generation rows ≡ Ok there
    → IsRefused (concatenation (total rows) (bytes_at there.target rows) sources) refusal
    → IsRefused (appended retention moment to sources rows) refusal
pour_refused retention moment to rows sources there (refusals.Code code) opens refused = rw (opens, refused) refl
pour_refused retention moment to rows sources there refusals.NoMemory opens refused = tt

abbrev pair_to : FullName → Row → NamePair
pair_to target source = record { source = full_of source; target = target }

-- there are no more pairs than places
pub few_pairs : (target : FullName) (rows : List Row) (positions : List ℕ) (limit : ℕ) (pairs : List NamePair)
    → pairs ≡ pairs_to target (elements_at rows positions) → length positions ≤ limit → length pairs ≤ limit
few_pairs target rows positions limit pairs is few =
    let counted : length (pairs_to target (elements_at rows positions)) ≡ length (elements_at rows positions) =
    length-map (elements_at rows positions) (λ (source : Row). pair_to target source) in
    rw is (omega (arith, few, length_elements rows positions, counted))
