-- What is admitted may be added: the rows stay those of a store.
-- What is admitted (IsAdmitted) is added by rows_added.
use Rattle.std.proofs.Common.{◌≡◌, ℕ, suc, ◌+◌, ◌<◌, ◌≤◌, nat_lt, nat_le, Bool, true, false, cond, List, length, unwrap_or, Result, Ok, Err, refl, ap, arith, ◌∙◌, subst}
use Rattle.std.proofs.lemmas.Bool.{and_from}
use Rattle.std.proofs.lemmas.Bool.Decides.{nat_tests}
use Rattle.cm_fields.specs.declared.code.Code.{Code}
use Rattle.cm_fields.specs.declared.code.Code.TheVariants.{GenFull, FileExists, FileLimit, FileSize, StoreSize}
use Rattle.cm_fields.specs.declared.value.Gen.{Gen}
use Rattle.cm_fields.specs.declared.value.Gen.TheVariants.{Missing, Highest, Next, Lowest, All, Number}
use Rattle.ex_generations.specs.declared.file.File.{File}
use Rattle.ex_generations.specs.declared.file.TheConstants.{FILE_LIMIT, GENERATION_LIMIT}
use Rattle.ex_generations.specs.Generations.{has, highest}
use Rattle.ex_generations.proofs.Extremes.{has-above}
use Rattle.ex_store.specs.declared.directory.Directory.{Directory}
use Rattle.ex_store.specs.declared.key.Key.{Key}
use Rattle.ex_store.specs.declared.limits.TheConstants.{ROW_LIMIT, STORE_LIMIT}
use Rattle.ex_store.specs.declared.row.Row.{Row}
use Rattle.ex_store.specs.Adding.{admitted, and_then, limited, next_of, numbered}
use Rattle.ex_store.specs.Plan.{may_grow, may_number}
use Rattle.ex_store.specs.Rows.{added, files_of, total}
use Rattle.ex_store.specs.WellFormed.{AreRows, is_numbered, is_row_among}
use Rattle.ex_store.proofs.TotalLaws.{length_added, total_added}
use Rattle.ex_store.proofs.AreRowsLaws.{absent_has, all_added, ascends_added}

-- a number that a new file can have
pub record IsFree (files : List File) (number : ℕ) : Type 0 where
  pub within : is_numbered number ≡ true
  pub absent : has number files ≡ false

-- a generation of which the number is one that may be
abbrev pub is_counted : Gen → Bool
is_counted Missing = true
is_counted Highest = true
is_counted Next = true
is_counted Lowest = true
is_counted All = true
is_counted (Number number) = is_numbered number

pub counted_target : (generation : Gen) → may_number generation ≡ true → is_counted generation ≡ true
counted_target Missing may = refl
counted_target Highest may = refl
counted_target Next may = refl
counted_target Lowest may = refl
counted_target All may = refl
counted_target (Number number) may = may

pub counted_file : (generation : Gen) → may_grow generation ≡ true → is_counted generation ≡ true
counted_file Missing may = refl
counted_file Highest may = refl
counted_file Next may = refl
counted_file Lowest may = refl
counted_file All may = refl
counted_file (Number number) may = may

next_free : (files : List File) (number : ℕ) → next_of files ≡ Ok number → IsFree files number
next_free files number is = by (nat_lt (unwrap_or (highest files) 0) GENERATION_LIMIT) refl is
  where
    by : (b : Bool) → nat_lt (unwrap_or (highest files) 0) GENERATION_LIMIT ≡ b
        → cond b (Ok (unwrap_or (highest files) 0 + 1)) (Err GenFull) ≡ Ok number → IsFree files number
    by true less is =
        let same : unwrap_or (highest files) 0 + 1 ≡ number = cc in
        let below : unwrap_or (highest files) 0 < GENERATION_LIMIT = grind (arith, nat_tests) in
        record {
          within = and_from (nat_lt 0 number) (nat_le number GENERATION_LIMIT) (grind (arith, nat_tests)) (grind (arith, nat_tests));
          absent = has-above files number (omega (arith, same));
        }
    by false less is = absurd (cc)

pub numbered_free : (generation : Gen) (files : List File) (number : ℕ) → is_counted generation ≡ true
    → numbered generation files ≡ Ok number → IsFree files number
numbered_free Missing files number counted is = next_free files number is
numbered_free Highest files number counted is = next_free files number is
numbered_free Next files number counted is = next_free files number is
numbered_free Lowest files number counted is = next_free files number is
numbered_free All files number counted is = next_free files number is
numbered_free (Number given) files number counted is = by (has given files) refl is
  where
    by : (b : Bool) → has given files ≡ b → cond b (Err FileExists) (Ok given) ≡ Ok number → IsFree files number
    by true there is = absurd (cc)
    by false there is =
        let same : given ≡ number = cc in
        subst (IsFree files) same (record { within = counted; absent = there })

-- there is room for one more file of this size
pub record IsRoomy (files bytes size : ℕ) : Type 0 where
  pub few : suc files ≤ ROW_LIMIT
  pub short : size ≤ FILE_LIMIT
  pub small : bytes + size ≤ STORE_LIMIT

pub limited_roomy : (files bytes size generation number : ℕ) → limited files bytes size generation ≡ Ok number
    → IsRoomy files bytes size × (generation ≡ number)
limited_roomy files bytes size generation number is = first (nat_le ROW_LIMIT files) refl is
  where
    third : (b : Bool) → nat_le ROW_LIMIT files ≡ false → nat_lt FILE_LIMIT size ≡ false → nat_lt STORE_LIMIT (bytes + size) ≡ b
        → cond b (Err StoreSize) (Ok generation) ≡ Ok number → IsRoomy files bytes size × (generation ≡ number)
    third true few short small is = absurd (cc)
    third false few short small is =
        (record { few = grind (arith, nat_tests); short = grind (arith, nat_tests); small = grind (arith, nat_tests) }, cc)

    second : (b : Bool) → nat_le ROW_LIMIT files ≡ false → nat_lt FILE_LIMIT size ≡ b
        → cond b (Err FileSize) (cond (nat_lt STORE_LIMIT (bytes + size)) (Err StoreSize) (Ok generation)) ≡ Ok number
        → IsRoomy files bytes size × (generation ≡ number)
    second true few short is = absurd (cc)
    second false few short is = third (nat_lt STORE_LIMIT (bytes + size)) few short refl is

    first : (b : Bool) → nat_le ROW_LIMIT files ≡ b
        → cond b (Err FileLimit) (cond (nat_lt FILE_LIMIT size) (Err FileSize)
        (cond (nat_lt STORE_LIMIT (bytes + size)) (Err StoreSize) (Ok generation))) ≡ Ok number
        → IsRoomy files bytes size × (generation ≡ number)
    first true few is = absurd (cc)
    first false few is = second (nat_lt FILE_LIMIT size) few refl is

-- the refusals of two in turn
pub and_then_ok : {A B : Type 0} (next : A → Result B Code) (first : Result A Code) (value : B) → and_then next first ≡ Ok value
    → (made : A) × (first ≡ Ok made) × (next made ≡ Ok value)
and_then_ok next (Ok made) value is = (made, refl, is)
and_then_ok next (Err code) value is = absurd (cc)

-- what comes of a plan is one thing
pub ok_same : {A : Type 0} (plan : Result A Code) (made after : A) → plan ≡ Ok made → plan ≡ Ok after → made ≡ after
ok_same plan made after first second = cc

-- what is known of a number under which a row is admitted
pub record IsAdmitted (key : Key) (size : ℕ) (rows : List Row) (number : ℕ) : Type 0 where
  pub free : IsFree (files_of key rows) number
  pub roomy : IsRoomy (length rows) (total rows) size

pub admitted_is : (key : Key) (generation : Gen) (size : ℕ) (rows : List Row) (number : ℕ) → is_counted generation ≡ true
    → admitted key generation size rows ≡ Ok number → IsAdmitted key size rows number
admitted_is key generation size rows number counted is =
    let parts = and_then_ok (limited (length rows) (total rows) size) (numbered generation (files_of key rows)) number is in
    let room = limited_roomy (length rows) (total rows) size parts.0 number parts.2 in
    record {
      free = numbered_free generation (files_of key rows) number counted (parts.1 ∙ ap (λ n. Ok n) room.1);
      roomy = room.0;
    }

-- the rows with one that is admitted
pub rows_added : (directories : List Directory) (retention : ℕ) (row : Row) (rows : List Row) → AreRows directories rows
    → IsAdmitted row.key (length row.file.bytes) rows row.file.generation → is_row_among directories row ≡ true
    → AreRows directories (added retention row rows)
rows_added directories retention row rows are is form =
    record {
      ascend = ascends_added retention row rows (absent_has row.key row.file.generation rows is.free.absent) are.ascend;
      within = all_added (is_row_among directories) (λ other. refl) retention row rows form are.within;
      few = rw (length_added retention row rows) is.roomy.few;
      small = rw (total_added retention row rows) (let room = is.roomy.small in omega (arith, room));
    }
