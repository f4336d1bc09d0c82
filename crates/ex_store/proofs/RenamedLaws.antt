-- A source that is taken out and added under another name: one step of a renaming.
use Rattle.std.proofs.Common.{◌≡◌, ℕ, ◌+◌, nat_lt, nat_le, true, false, not, List, [], ◌∷◌, ◌++◌, length, map, Result, Ok, Err, Some, refl, ap, arith, ◌∙◌, sym, subst}
use Rattle.std.specs.Option.{option_map}
use Rattle.std.specs.List.{list_all}
use Rattle.std.proofs.lemmas.Bool.{and_parts}
use Rattle.std.proofs.lemmas.Bool.Decides.{nat_tests}
use Rattle.cm_lists.specs.Ascent.{ascends}
use Rattle.cm_fields.specs.declared.code.Code.{Code}
use Rattle.ex_generations.specs.declared.file.TheConstants.{FILE_LIMIT}
use Rattle.ex_store.specs.declared.directory.Directory.{Directory}
use Rattle.ex_store.specs.declared.key.FullName.{FullName}
use Rattle.ex_store.specs.declared.key.NamePair.{NamePair}
use Rattle.ex_store.specs.declared.limits.TheConstants.{ROW_LIMIT, STORE_LIMIT}
use Rattle.ex_store.specs.declared.place.Place.{Place}
use Rattle.ex_store.specs.declared.ready.RowChange.{RowChange}
use Rattle.ex_store.specs.declared.ready.RowChange.TheVariants as changes
use Rattle.ex_store.specs.declared.row.Row.{Row}
use Rattle.ex_store.specs.Adding.{admitted, and_then, each_in_turn, limited, numbered}
use Rattle.ex_store.specs.Copying.{key_from}
use Rattle.ex_store.specs.declared.plan.Refusal.{Refusal}
use Rattle.ex_store.specs.declared.plan.Refusal.TheVariants as refusals
use Rattle.ex_store.specs.Plan.{IsRefused, IsTarget}
use Rattle.ex_store.specs.Positions.{elements_at}
use Rattle.ex_store.specs.Ready.{rows_after_all, moved, reinserted}
use Rattle.ex_store.specs.Renaming.{AreDistinct, pair_for, renamed}
use Rattle.ex_store.specs.Rows.{added, blank, by_row, files_of, full_of, is_in, row_at, total, rows_in_either, with_name, without}
use Rattle.ex_store.specs.WellFormed.{AreRows, is_row_among}
use Rattle.ex_store.proofs.AdmittedLaws.{IsRoomy, and_then_ok, counted_target, numbered_free, rows_added}
use Rattle.cm_lists.proofs.Ascents.{sorted_ascends}
use Rattle.ex_store.proofs.BlankLaws.{numbered_blank, reinserted_blank, row_at_blank, without_blank}
use Rattle.ex_store.proofs.DoableLaws.{doable_more}
use Rattle.ex_store.proofs.AllCopiedLaws.{IsUnderWay, way_start, formed, outcome_at, renamed_formed, rows_after_more}
use Rattle.ex_store.proofs.AllRenamedLaws.{AreThere, length_without, plain, rows_without, some_of, there_elements, there_moved, total_without}
use Rattle.ex_store.proofs.AreRowsLaws.{absent_has, by_row_total}
use Rattle.ex_store.proofs.RowsInEitherLaws.{either_source, either_target, files_either, is_either, reinserted_either, row_at_either, without_either}

roomy_limited : (files bytes size generation : ℕ) → IsRoomy files bytes size → limited files bytes size generation ≡ Ok generation
roomy_limited files bytes size generation room =
    let few : nat_le ROW_LIMIT files ≡ false = grind (arith, nat_tests, room.few) in
    let short : nat_lt FILE_LIMIT size ≡ false = grind (arith, nat_tests, room.short) in
    let small : nat_lt STORE_LIMIT (bytes + size) ≡ false = grind (arith, nat_tests, room.small) in
    rw (few, short, small) refl

roomy_then : (files bytes size : ℕ) (asked : Result ℕ Code) → IsRoomy files bytes size → and_then (limited files bytes size) asked ≡ asked
roomy_then files bytes size (Ok number) room = roomy_limited files bytes size number room
roomy_then files bytes size (Err code) room = refl

-- what is known where a source is taken out
pub record IsTaken (directories : List Directory) (to : Place) (rows : List Row) (source : Row) : Type 0 where
  pub found : Row
  pub is : row_at (full_of source) rows ≡ Some found
  pub same : plain found ≡ plain source
  pub left : AreRows directories (without (full_of source) rows)
  pub room : IsRoomy (length (without (full_of source) rows)) (total (without (full_of source) rows)) (length source.file.bytes)

taken : (directories : List Directory) (to : Place) (rows : List Row) (source : Row) → AreRows directories rows
    → is_row_among directories source ≡ true
    → option_map plain (row_at (full_of source) rows) ≡ Some (plain source) → IsTaken directories to rows source
taken directories to rows source are form here =
    let found = some_of (row_at (full_of source) rows) source here in
    let bytes : found.0.file.bytes ≡ source.file.bytes = ap (λ (row : Row). row.file.bytes) found.2 in
    let size : length found.0.file.bytes ≡ length source.file.bytes = ap length bytes in
    let count = length_without (full_of source) rows found.0 found.1 in
    let all = total_without (full_of source) rows found.0 found.1 in
    let few = are.few in
    let small = are.small in
    let short = (formed directories source form).short in
    record {
      found = found.0;
      is = found.1;
      same = found.2;
      left = rows_without directories (full_of source) rows found.0 are found.1;
      room = record {
        few = omega (arith, count, few);
        short = grind (arith, nat_tests);
        small = omega (arith, all, size, small);
      };
    }

-- the walk over the sources of a renaming, which are in one directory
pub record IsRenaming (directories : List Directory) (from : List ℕ) (to : Place) (rows whole left : List Row)
    (done : List RowChange) (pairs : List NamePair) (simulated : List Row) : Type 0 where
  pub on : IsUnderWay (renamed to) directories from to.directory rows whole left done pairs simulated
  pub there : AreThere (rows_after_all rows done) left
  pub distinct : AreDistinct left
  pub inside : list_all (is_in from) left ≡ true

pub renaming_start : (directories : List Directory) (from : List ℕ) (to : Place) (rows : List Row) (positions : List ℕ)
    → AreRows directories rows → AreDistinct (elements_at rows positions) → list_all (is_in from) (elements_at rows positions) ≡ true
    → IsRenaming directories from to rows (elements_at rows positions) (elements_at rows positions) [] []
    (map blank (rows_in_either from to.directory rows))
renaming_start directories from to rows positions are distinct inside = record {
  on = way_start (renamed to) directories from to.directory rows (elements_at rows positions) are;
  there = there_elements rows positions (sorted_ascends by_row by_row_total rows are.ascend);
  distinct = distinct;
  inside = inside;
}

-- the code asks the rows that it simulates
simulated_pair : (from : List ℕ) (to : Place) (source : Row) (rows simulated : List Row) → is_in from source ≡ true
    → simulated ≡ map blank (rows_in_either from to.directory rows) → pair_for to source simulated ≡ pair_for to source rows
simulated_pair from to source rows simulated inside is =
    let full = full_of source in
    let key = key_from to source.key in
    let here = either_source from to.directory source.key.directory inside in
    rw (is, without_blank full (rows_in_either from to.directory rows), without_either from to.directory full rows here, numbered_blank to.generation key (rows_in_either from to.directory (without full rows)), files_either from to.directory key (without full rows) (either_target from to.directory)) refl

pub renames_refused : (directories : List Directory) (from : List ℕ) (to : Place) (rows whole more : List Row) (source : Row)
    (done : List RowChange) (pairs : List NamePair) (simulated : List Row) (code : Code) → is_row_among directories source ≡ true
    → IsRenaming directories from to rows whole (source ∷ more) done pairs simulated → pair_for to source simulated ≡ Err code
    → each_in_turn (renamed to) whole (record { rows = rows; pairs = [] }) ≡ Err code
renames_refused directories from to rows whole more source done pairs simulated code form is refused =
    let so_far = rows_after_all rows done in
    let key = key_from to source.key in
    let known = taken directories to so_far source is.on.sound form is.there.0 in
    let none : numbered to.generation (files_of key (without (full_of source) so_far)) ≡ Err code =
    asked_none (numbered to.generation (files_of key (without (full_of source) so_far))) (sym (simulated_pair from to source so_far simulated (and_parts _ _ is.inside).0 is.on.simulated_are) ∙ refused) in
    let asked : admitted key to.generation (length source.file.bytes) (without (full_of source) so_far) ≡ Err code =
    roomy_then _ _ _ (numbered to.generation (files_of key (without (full_of source) so_far))) known.room ∙ none in
    sym is.on.walk ∙ rw asked refl
  where
    asked_none : (asked : Result ℕ Code) → and_then {B = NamePair} (λ generation. Ok (record {
      source = full_of source;
      target = record { key = key_from to source.key; generation = generation };
    })) asked ≡ Err code → asked ≡ Err code
    asked_none (Ok number) is = absurd (cc)
    asked_none (Err other) is = cc

simulated_moved : (from to : List ℕ) (full target : FullName) (rows simulated : List Row)
    → is_either from to full.key.directory ≡ true → is_either from to target.key.directory ≡ true → ascends by_row (without full rows) ≡ true
    → simulated ≡ map blank (rows_in_either from to rows)
    → reinserted target (without full simulated) (row_at full simulated)
    ≡ map blank (rows_in_either from to (reinserted target (without full rows) (row_at full rows)))
simulated_moved from to full target rows simulated goes comes ascend is =
    rw (is, without_blank full (rows_in_either from to rows), row_at_blank full (rows_in_either from to rows), without_either from to full rows goes, row_at_either from to full rows goes)
    (reinserted_blank target (rows_in_either from to (without full rows)) (row_at full rows)
    ∙ ap (map blank) (reinserted_either from to target (without full rows) (row_at full rows) comes ascend))

-- the names that a source had and has under a number
abbrev named : Place → Row → ℕ → NamePair
named to source number =
    record { source = full_of source; target = record { key = key_from to source.key; generation = number } }

-- a file that differs in its mark alone goes on as the source would
goes_on : (target : FullName) (found source : Row) (left : List Row) → plain found ≡ plain source
    → added found.file.keep (with_name target found.file) left ≡ added source.file.keep (with_name target source.file) left
goes_on target found source left same = ap (λ (row : Row). added row.file.keep (with_name target row.file) left) same

renames_step : (directories : List Directory) (from : List ℕ) (to : Place) (rows whole more : List Row) (source : Row)
    (done : List RowChange) (pairs : List NamePair) (simulated : List Row) (number : ℕ) → IsTarget to directories
    → is_row_among directories source ≡ true
    → IsRenaming directories from to rows whole (source ∷ more) done pairs simulated
    → numbered to.generation (files_of (key_from to source.key) (without (full_of source) (rows_after_all rows done))) ≡ Ok number
    → IsRenaming directories from to rows whole more (done ++ changes.Move (named to source number) ∷ [])
    (pairs ++ named to source number ∷ [])
    (moved (named to source number) simulated)
renames_step directories from to rows whole more source done pairs simulated number target form is numbers =
    let so_far = rows_after_all rows done in
    let key = key_from to source.key in
    let left = without (full_of source) so_far in
    let inside = and_parts _ _ is.inside in
    let known = taken directories to so_far source is.on.sound form is.there.0 in
    let new = with_name (named to source number).target source.file in
    let asked : admitted key to.generation (length source.file.bytes) left ≡ Ok number =
    roomy_then _ _ _ (numbered to.generation (files_of key left)) known.room ∙ numbers in
    let free = numbered_free to.generation (files_of key left) number (counted_target to.generation target.generation) numbers in
    let shape = renamed_formed directories to source number target form free.within in
    let put : reinserted (named to source number).target left (row_at (full_of source) so_far) ≡ added source.file.keep new left =
    rw known.is (goes_on (named to source number).target known.found source left known.same) in
    let next : rows_after_all rows (done ++ changes.Move (named to source number) ∷ []) ≡ added source.file.keep new left =
    rows_after_more rows done (changes.Move (named to source number)) ∙ put in
    record {
      on = record {
        walk = rw next (step_on asked is.on.walk);
        sound = rw next (rows_added directories source.file.keep new left known.left (record { free = free; roomy = known.room }) shape);
        doable = doable_more rows done (changes.Move (named to source number)) is.on.doable (ap not free.absent);
        simulated_are = rw next
            (simulated_moved from to.directory (full_of source) (named to source number).target so_far simulated
            (either_source from to.directory source.key.directory inside.0) (either_target from to.directory) known.left.ascend is.on.simulated_are
            ∙ ap (λ (after : List Row). map blank (rows_in_either from to.directory after)) put);
      };
      there = rw next (there_moved source.file.keep source new so_far more (absent_has key number left free.absent) is.distinct.0 is.there.1);
      distinct = is.distinct.1;
      inside = inside.1;
    }
  where
    step_on : admitted (key_from to source.key) to.generation (length source.file.bytes) (without (full_of source) (rows_after_all rows done)) ≡ Ok number
        → each_in_turn (renamed to) (source ∷ more) (outcome_at rows done pairs) ≡ each_in_turn (renamed to) whole (record { rows = rows; pairs = [] })
        → each_in_turn (renamed to) more (record {
          rows = added source.file.keep (with_name (named to source number).target source.file) (without (full_of source) (rows_after_all rows done));
          pairs = pairs ++ named to source number ∷ [];
        }) ≡ each_in_turn (renamed to) whole (record { rows = rows; pairs = [] })
    step_on asked walk = rw asked at walk

pub renames_more : (directories : List Directory) (from : List ℕ) (to : Place) (rows whole more : List Row) (source : Row)
    (done : List RowChange) (pairs : List NamePair) (simulated : List Row) (pair : NamePair) → IsTarget to directories
    → is_row_among directories source ≡ true
    → IsRenaming directories from to rows whole (source ∷ more) done pairs simulated → pair_for to source simulated ≡ Ok pair
    → IsRenaming directories from to rows whole more (done ++ changes.Move pair ∷ []) (pairs ++ pair ∷ [])
    (moved pair simulated)
renames_more directories from to rows whole more source done pairs simulated pair target form is names =
    let parts = and_then_ok (λ number. Ok (named to source number))
    (numbered to.generation (files_of (key_from to source.key) (without (full_of source) (rows_after_all rows done)))) pair
    (sym (simulated_pair from to source (rows_after_all rows done) simulated (and_parts _ _ is.inside).0 is.on.simulated_are) ∙ names) in
    let same : named to source parts.0 ≡ pair = cc in
    subst (λ (pair : NamePair). IsRenaming directories from to rows whole more (done ++ changes.Move pair ∷ []) (pairs ++ pair ∷ [])
    (moved pair simulated)) same
    (renames_step directories from to rows whole more source done pairs simulated parts.0 target form is parts.1)

-- what refuses a source refuses the walk
pub refused_so : {A B : Type 0} (first : Result A Code) (whole : Result B Code) (refusal : Refusal)
    → ((code : Code) → first ≡ Err code → whole ≡ Err code) → IsRefused first refusal → IsRefused whole refusal
refused_so first whole (refusals.Code code) implies is = implies code is
refused_so first whole refusals.NoMemory implies is = tt
