-- Files are copied one after the other: where the walk over the sources stands.
-- A plan under way is one record (IsUnderWay) of what is done with each source.
use Rattle.std.proofs.Common.{◌≡◌, ◌||◌, ℕ, ◌+◌, nat_le, Bool, true, false, not, cond, List, [], ◌∷◌, ◌++◌, length, map, Result, Ok, Err, Option, Some, None, filter, refl, ap, arith, ◌∙◌, subst, sym}
use Rattle.std.proofs.lemmas.Bool.{and_from, and_parts}
use Rattle.std.specs.List.{list_all}
use Rattle.std.proofs.lemmas.Bool.Decides.{nat_tests}
use Rattle.std.proofs.lemmas.List.Sums.{fold-append}
use Rattle.cm_fields.specs.declared.code.Code.{Code}
use Rattle.cm_fields.specs.declared.value.Gen.{Gen}
use Rattle.ex_generations.specs.declared.file.TheConstants.{FILE_LIMIT}
use Rattle.ex_generations.specs.Retention.{keep_for}
use Rattle.ex_store.specs.declared.directory.Directory.{Directory}
use Rattle.ex_store.specs.declared.key.Key.{Key}
use Rattle.ex_store.specs.declared.key.NamePair.{NamePair}
use Rattle.ex_store.specs.declared.limits.TheConstants.{MOMENT_LIMIT, RETENTION_LIMIT}
use Rattle.ex_store.specs.declared.place.Place.{Place}
use Rattle.ex_store.specs.declared.ready.RowChange.{RowChange}
use Rattle.ex_store.specs.declared.ready.RowChange.TheVariants as changes
use Rattle.ex_store.specs.declared.row.Row.{Row}
use Rattle.ex_store.specs.Adding.{Outcome, admitted, and_then, each_in_turn, keep_at, limited, new_row, numbered}
use Rattle.ex_store.specs.Copying.{copied, is_star, key_from, moment_of, part_from}
use Rattle.ex_store.specs.Plan.{IsTarget, may_be}
use Rattle.ex_store.specs.Ready.{are_doable, rows_after_all, rows_after}
use Rattle.ex_store.specs.Rows.{added, blank, files_of, full_of, is_of, total, rows_in_either, with_name}
use Rattle.ex_store.specs.State.{has_directory}
use Rattle.ex_store.specs.WellFormed.{AreRows, is_file_name, is_file_type, is_numbered, is_row_among, is_stamped}
use Rattle.ex_store.proofs.AdmittedLaws.{IsFree, admitted_is, and_then_ok, counted_target, is_counted, limited_roomy, numbered_free, rows_added}
use Rattle.ex_store.proofs.BlankLaws.{added_blank, keep_blank, numbered_blank}
use Rattle.ex_store.proofs.DoableLaws.{doable_more}
use Rattle.ex_store.proofs.TotalLaws.{length_added, total_added}
use Rattle.ex_store.proofs.RowsInEitherLaws.{added_either, either_target, files_either, is_either}

-- the outcome of a plan
abbrev pub outcome_at : List Row → List RowChange → List NamePair → Outcome
outcome_at rows done pairs = record { rows = rows_after_all rows done; pairs = pairs }

-- a change more
pub rows_after_more : (rows : List Row) (done : List RowChange) (change : RowChange)
    → rows_after_all rows (done ++ change ∷ []) ≡ rows_after (rows_after_all rows done) change
rows_after_more rows done change = fold-append rows_after rows done (change ∷ [])

-- the walk goes on from here as it goes from the start, and what has come of it are rows of a store; those of two
-- directories are simulated, without their bytes
pub record IsUnderWay (step : Row → Outcome → Result Outcome Code) (directories : List Directory) (from to : List ℕ)
    (rows whole left : List Row) (done : List RowChange) (pairs : List NamePair) (simulated : List Row) : Type 0 where
  pub walk : each_in_turn step left (outcome_at rows done pairs)
      ≡ each_in_turn step whole (record { rows = rows; pairs = [] })
  pub sound : AreRows directories (rows_after_all rows done)
  pub doable : are_doable rows done ≡ true
  pub simulated_are : simulated ≡ map blank (rows_in_either from to (rows_after_all rows done))

pub way_start : (step : Row → Outcome → Result Outcome Code) (directories : List Directory) (from to : List ℕ)
    (rows whole : List Row) → AreRows directories rows
    → IsUnderWay step directories from to rows whole whole [] [] (map blank (rows_in_either from to rows))
way_start step directories from to rows whole are = record { walk = refl; sound = are; doable = refl; simulated_are = refl }

-- the form of a name that a target gives
name_from : (test : List ℕ → Bool) (part : Option (List ℕ)) (own : List ℕ) → may_be test part ≡ true → test own ≡ true
    → test (part_from part own) ≡ true
name_from test None own may form = form
name_from test (Some part) own may form = by (is_star part) refl
  where
    second : (a b : Bool) → a ≡ false → (a || b) ≡ true → b ≡ true
    second true b no_star may = absurd (cc)
    second false b no_star may = may

    by : (b : Bool) → is_star part ≡ b → test (cond b own part) ≡ true
    by true star = form
    by false star = second (is_star part) (test part) star may

pub moment_within : (moment : ℕ) → nat_le (moment_of moment) MOMENT_LIMIT ≡ true
moment_within moment = grind (arith, nat_tests)

-- what is known of a row of a store
pub record IsFormed (directories : List Directory) (row : Row) : Type 0 where
  pub there : has_directory row.key.directory directories ≡ true
  pub name : is_file_name row.key.name ≡ true
  pub kind : is_file_type row.key.kind ≡ true
  pub generation : is_numbered row.file.generation ≡ true
  pub stamped : is_stamped row.file ≡ true
  pub short : nat_le (length row.file.bytes) FILE_LIMIT ≡ true

pub formed : (directories : List Directory) (row : Row) → is_row_among directories row ≡ true → IsFormed directories row
formed directories row is =
    let five = and_parts _ _ is in
    let four = and_parts _ _ five.0 in
    let three = and_parts _ _ four.0 in
    let two = and_parts _ _ three.0 in
    let one = and_parts _ _ two.0 in
    record { there = one.0; name = one.1; kind = two.1; generation = three.1; stamped = four.1; short = five.1 }

pub formed_is : (directories : List Directory) (row : Row) → IsFormed directories row → is_row_among directories row ≡ true
formed_is directories row is =
    and_from _ _ (and_from _ _ (and_from _ _ (and_from _ _ (and_from _ _ is.there is.name) is.kind) is.generation) is.stamped) is.short

-- a new file is stamped with what may be
pub new_stamped : (keep moment generation : ℕ) (key : Key) (bytes : List ℕ) → nat_le keep RETENTION_LIMIT ≡ true → nat_le moment MOMENT_LIMIT ≡ true
    → is_stamped (new_row key keep moment bytes generation).file ≡ true
new_stamped keep moment generation key bytes few within = and_from _ _ (and_from _ _ few within) refl

-- a new row under the name that a target gives
pub from_formed : (directories : List Directory) (to : Place) (source : Row) (keep moment generation : ℕ) → IsTarget to directories
    → is_row_among directories source ≡ true → nat_le keep RETENTION_LIMIT ≡ true → nat_le moment MOMENT_LIMIT ≡ true
    → is_numbered generation ≡ true
    → is_row_among directories (new_row (key_from to source.key) keep moment source.file.bytes generation) ≡ true
from_formed directories to source keep moment generation target is few within number =
    let parts = formed directories source is in
    formed_is directories (new_row (key_from to source.key) keep moment source.file.bytes generation) (record {
      there = target.there;
      name = name_from is_file_name to.name source.key.name target.name parts.name;
      kind = name_from is_file_type to.kind source.key.kind target.kind parts.kind;
      generation = number;
      stamped = new_stamped keep moment generation (key_from to source.key) source.file.bytes few within;
      short = parts.short;
    })

-- a row that goes on under it
pub renamed_formed : (directories : List Directory) (to : Place) (source : Row) (generation : ℕ) → IsTarget to directories
    → is_row_among directories source ≡ true → is_numbered generation ≡ true
    → is_row_among directories (with_name (record { key = key_from to source.key; generation = generation }) source.file) ≡ true
renamed_formed directories to source generation target is number =
    let parts = formed directories source is in
    formed_is directories (with_name (record { key = key_from to source.key; generation = generation }) source.file) (record {
      there = target.there;
      name = name_from is_file_name to.name source.key.name target.name parts.name;
      kind = name_from is_file_type to.kind source.key.kind target.kind parts.kind;
      generation = number;
      stamped = parts.stamped;
      short = parts.short;
    })

-- a new file keeps no more generations than one may
pub keep_within : (directories : List Directory) (retention : ℕ) (key : Key) (rows : List Row) → nat_le retention RETENTION_LIMIT ≡ true
    → list_all (is_row_among directories) rows ≡ true → nat_le (keep_at retention key rows) RETENTION_LIMIT ≡ true
keep_within directories retention key [] few all = few
keep_within directories retention key (row ∷ rows) few all =
    let parts = and_parts _ _ all in
    let own : nat_le row.file.keep RETENTION_LIMIT ≡ true = (and_parts _ _ (and_parts _ _ (formed directories row parts.0).stamped).0).0 in
    by (is_of key row) (keep_within directories row.file.keep key rows own parts.1) (keep_within directories retention key rows few parts.1)
  where
    by : (b : Bool) → nat_le (keep_at row.file.keep key rows) RETENTION_LIMIT ≡ true → nat_le (keep_at retention key rows) RETENTION_LIMIT ≡ true
        → nat_le (keep_for retention (map (λ (each : Row). each.file) (cond b (row ∷ filter (is_of key) rows) (filter (is_of key) rows)))) RETENTION_LIMIT ≡ true
    by true own rest = own
    by false own rest = rest

-- a number that is admitted is one that may be and that none has
pub admitted_free : (key : Key) (generation : Gen) (size files bytes : ℕ) (rows : List Row) (number : ℕ) → is_counted generation ≡ true
    → and_then (limited files bytes size) (numbered generation (files_of key rows)) ≡ Ok number
    → IsFree (files_of key rows) number
admitted_free key generation size files bytes rows number counted is =
    let parts = and_then_ok (limited files bytes size) (numbered generation (files_of key rows)) number is in
    let room = limited_roomy files bytes size parts.0 number parts.2 in
    numbered_free generation (files_of key rows) number counted (parts.1 ∙ ap (λ n. Ok n) room.1)

-- what the code asks of the rows that it simulates is what is asked of all rows
pub simulated_admitted : (from to : List ℕ) (key : Key) (generation : Gen) (size files bytes : ℕ) (rows simulated : List Row)
    → is_either from to key.directory ≡ true → simulated ≡ map blank (rows_in_either from to rows) → files ≡ length rows → bytes ≡ total rows
    → and_then (limited files bytes size) (numbered generation (files_of key simulated)) ≡ admitted key generation size rows
simulated_admitted from to key generation size files bytes rows simulated here is counted all =
    rw (is, counted, all, numbered_blank generation key (rows_in_either from to rows), files_either from to key rows here)

-- and so many generations are kept as beside all rows
pub simulated_keep : (from to : List ℕ) (retention : ℕ) (key : Key) (rows simulated : List Row) → is_either from to key.directory ≡ true
    → simulated ≡ map blank (rows_in_either from to rows) → keep_at retention key simulated ≡ keep_at retention key rows
simulated_keep from to retention key rows simulated here is =
    rw (is, keep_blank retention key (rows_in_either from to rows), files_either from to key rows here) refl

-- the walk over the sources of a copy, which touches the directory of the target alone
pub record IsCopying (directories : List Directory) (retention moment : ℕ) (to : Place) (rows whole left : List Row)
    (done : List RowChange) (pairs : List NamePair) (simulated : List Row) (files bytes : ℕ) : Type 0 where
  pub on : IsUnderWay (copied retention moment to) directories to.directory to.directory rows whole left done pairs simulated
  pub files_are : files ≡ length (rows_after_all rows done)
  pub bytes_are : bytes ≡ total (rows_after_all rows done)

-- what is asked for a source
pub copies_asked : (directories : List Directory) (retention moment : ℕ) (to : Place) (rows whole left : List Row) (source : Row)
    (done : List RowChange) (pairs : List NamePair) (simulated : List Row) (files bytes : ℕ) (answer : Result ℕ Code)
    → IsCopying directories retention moment to rows whole left done pairs simulated files bytes
    → and_then (limited files bytes (length source.file.bytes)) (numbered to.generation (files_of (key_from to source.key) simulated)) ≡ answer
    → admitted (key_from to source.key) to.generation (length source.file.bytes) (rows_after_all rows done) ≡ answer
copies_asked directories retention moment to rows whole left source done pairs simulated files bytes answer is asks =
    sym (simulated_admitted to.directory to.directory (key_from to source.key) to.generation (length source.file.bytes) files bytes
    (rows_after_all rows done) simulated (either_target to.directory to.directory) is.on.simulated_are is.files_are is.bytes_are)
    ∙ asks

pub copies_refused : (directories : List Directory) (retention moment : ℕ) (to : Place) (rows whole more : List Row) (source : Row)
    (done : List RowChange) (pairs : List NamePair) (simulated : List Row) (files bytes : ℕ) (code : Code)
    → IsCopying directories retention moment to rows whole (source ∷ more) done pairs simulated files bytes
    → and_then (limited files bytes (length source.file.bytes)) (numbered to.generation (files_of (key_from to source.key) simulated)) ≡ Err code
    → each_in_turn (copied retention moment to) whole (record { rows = rows; pairs = [] }) ≡ Err code
copies_refused directories retention moment to rows whole more source done pairs simulated files bytes code is refused =
    let asked = copies_asked directories retention moment to rows whole (source ∷ more) source done pairs simulated files bytes (Err code) is refused in
    sym is.on.walk ∙ rw asked refl

copies_next : (directories : List Directory) (retention moment : ℕ) (to : Place) (rows whole more : List Row) (source : Row)
    (done : List RowChange) (pairs : List NamePair) (simulated : List Row) (files bytes generation : ℕ)
    → IsTarget to directories → is_row_among directories source ≡ true → nat_le retention RETENTION_LIMIT ≡ true
    → IsCopying directories retention moment to rows whole (source ∷ more) done pairs simulated files bytes
    → and_then (limited files bytes (length source.file.bytes)) (numbered to.generation (files_of (key_from to source.key) simulated)) ≡ Ok generation
    → (let keep = keep_at retention (key_from to source.key) (rows_after_all rows done) in
    let row = new_row (key_from to source.key) keep (moment_of moment) source.file.bytes generation in
    IsCopying directories retention moment to rows whole more (done ++ changes.Add row ∷ [])
    (pairs ++ (record { source = full_of source; target = full_of row }) ∷ []) (added keep (blank row) simulated)
    (files + 1) (bytes + length source.file.bytes))
copies_next directories retention moment to rows whole more source done pairs simulated files bytes generation target form few is admits =
    let so_far = rows_after_all rows done in
    let key = key_from to source.key in
    let keep = keep_at retention key so_far in
    let row = new_row key keep (moment_of moment) source.file.bytes generation in
    let asked = copies_asked directories retention moment to rows whole (source ∷ more) source done pairs simulated files bytes (Ok generation) is admits in
    let known = admitted_is key to.generation (length source.file.bytes) so_far generation (counted_target to.generation target.generation) asked in
    let next : rows_after_all rows (done ++ changes.Add row ∷ []) ≡ added keep row so_far = rows_after_more rows done (changes.Add row) in
    let shape = from_formed directories to source keep (moment_of moment) generation target form (keep_within directories retention key so_far few is.on.sound.within)
    (moment_within moment) known.free.within in
    record {
      on = record {
        walk = rw next (step_on asked is.on.walk);
        sound = rw next (rows_added directories keep row so_far is.on.sound known shape);
        doable = doable_more rows done (changes.Add row) is.on.doable (ap not known.free.absent);
        simulated_are = rw (next, is.on.simulated_are)
            (added_blank keep row (rows_in_either to.directory to.directory so_far)
            ∙ ap (map blank) (added_either to.directory to.directory keep row so_far (either_target to.directory to.directory) is.on.sound.ascend));
      };
      files_are = rw (next, is.files_are) (sym (length_added keep row so_far ∙ omega arith));
      bytes_are = rw (next, is.bytes_are) (sym (total_added keep row so_far ∙ omega arith));
    }
  where
    step_on : admitted (key_from to source.key) to.generation (length source.file.bytes) (rows_after_all rows done) ≡ Ok generation
        → each_in_turn (copied retention moment to) (source ∷ more) (outcome_at rows done pairs) ≡ each_in_turn (copied retention moment to) whole (record { rows = rows; pairs = [] })
        → each_in_turn (copied retention moment to) more (record {
          rows = added (keep_at retention (key_from to source.key) (rows_after_all rows done))
              (new_row (key_from to source.key) (keep_at retention (key_from to source.key) (rows_after_all rows done)) (moment_of moment) source.file.bytes generation) (rows_after_all rows done);
          pairs = pairs ++ (record { source = full_of source; target = record { key = key_from to source.key; generation = generation } }) ∷ [];
        }) ≡ each_in_turn (copied retention moment to) whole (record { rows = rows; pairs = [] })
    step_on asked walk = rw asked at walk

-- the code asks the rows that it simulates how many generations are kept
pub copies_more : (directories : List Directory) (retention moment : ℕ) (to : Place) (rows whole more : List Row) (source : Row)
    (done : List RowChange) (pairs : List NamePair) (simulated : List Row) (files bytes generation keep : ℕ)
    → IsTarget to directories → is_row_among directories source ≡ true → nat_le retention RETENTION_LIMIT ≡ true
    → IsCopying directories retention moment to rows whole (source ∷ more) done pairs simulated files bytes
    → and_then (limited files bytes (length source.file.bytes)) (numbered to.generation (files_of (key_from to source.key) simulated)) ≡ Ok generation
    → keep ≡ keep_at retention (key_from to source.key) simulated
    → (let row = new_row (key_from to source.key) keep (moment_of moment) source.file.bytes generation in
    IsCopying directories retention moment to rows whole more (done ++ changes.Add row ∷ [])
    (pairs ++ (record { source = full_of source; target = full_of row }) ∷ []) (added keep (blank row) simulated)
    (files + 1) (bytes + length source.file.bytes))
copies_more directories retention moment to rows whole more source done pairs simulated files bytes generation keep target form few is admits kept =
    let asked : keep ≡ keep_at retention (key_from to source.key) (rows_after_all rows done) =
    kept ∙ simulated_keep to.directory to.directory retention (key_from to source.key) (rows_after_all rows done) simulated
    (either_target to.directory to.directory) is.on.simulated_are in
    subst (λ (keep : ℕ).
    (let row = new_row (key_from to source.key) keep (moment_of moment) source.file.bytes generation in
    IsCopying directories retention moment to rows whole more (done ++ changes.Add row ∷ [])
    (pairs ++ (record { source = full_of source; target = full_of row }) ∷ []) (added keep (blank row) simulated)
    (files + 1) (bytes + length source.file.bytes)))
    (sym asked)
    (copies_next directories retention moment to rows whole more source done pairs simulated files bytes generation target form few is admits)
