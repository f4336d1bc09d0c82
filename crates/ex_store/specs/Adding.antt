-- A file is added to the rows: under which generation, or why it is refused.
use Rattle.std.specs.Prelude.{ℕ, ◌+◌, nat_lt, nat_le, if◌then◌else◌, List, [], ◌∷◌, ◌++◌, false, length, unwrap_or, None, Result, Ok, Err}
use Rattle.cm_fields.specs.declared.code.Code.{Code}
use Rattle.cm_fields.specs.declared.code.Code.TheVariants.{GenFull, FileExists, FileLimit, FileSize, StoreSize}
use Rattle.cm_fields.specs.declared.value.Gen.{Gen}
use Rattle.cm_fields.specs.declared.value.Gen.TheVariants.{Missing, Highest, Next, Lowest, All, Number}
use Rattle.ex_generations.specs.declared.file.File.{File}
use Rattle.ex_generations.specs.declared.file.TheConstants.{FILE_LIMIT, GENERATION_LIMIT}
use Rattle.ex_generations.specs.Generations.{has, highest, next_generation}
use Rattle.ex_generations.specs.Retention.{keep_for}
use Rattle.ex_store.specs.declared.key.FullName.{FullName}
use Rattle.ex_store.specs.declared.key.Key.{Key}
use Rattle.ex_store.specs.declared.key.NamePair.{NamePair}
use Rattle.ex_store.specs.declared.limits.TheConstants.{ROW_LIMIT, STORE_LIMIT}
use Rattle.ex_store.specs.declared.row.Row.{Row}
use Rattle.ex_store.specs.Rows.{added, files_of, full_of, total}

-- what comes of a value that there is, or the refusal
abbrev pub and_then : {A B : Type 0} → (A → Result B Code) → Result A Code → Result B Code
and_then next (Ok value) = next value
and_then next (Err code) = Err code

-- the generation after the highest of these, deleted ones included
abbrev pub next_of : List File → Result ℕ Code
next_of files =
    if nat_lt (unwrap_or (highest files) 0) GENERATION_LIMIT then Ok (next_generation files) else Err GenFull

-- the generation that a new one of these takes: a number that is given, and else the next
abbrev pub numbered : Gen → List File → Result ℕ Code
numbered Missing files = next_of files
numbered Highest files = next_of files
numbered Next files = next_of files
numbered Lowest files = next_of files
numbered All files = next_of files
numbered (Number number) files = if has number files then Err FileExists else Ok number

-- one more file of this size, beside so many files of so many bytes: this generation, or the limit that is passed
abbrev pub limited : ℕ → ℕ → ℕ → ℕ → Result ℕ Code
limited files bytes size generation =
    if nat_le ROW_LIMIT files then Err FileLimit
    else (if nat_lt FILE_LIMIT size then Err FileSize
    else (if nat_lt STORE_LIMIT (bytes + size) then Err StoreSize else Ok generation))

-- the generation under which a file of this size is added to these rows, where there are so many files in all, of so
-- many bytes; or the first refusal
abbrev pub admitted_beside : ℕ → ℕ → Key → Gen → ℕ → List Row → Result ℕ Code
admitted_beside files bytes key generation size rows =
    and_then (limited files bytes size) (numbered generation (files_of key rows))

-- the same where these are all files
abbrev pub admitted : Key → Gen → ℕ → List Row → Result ℕ Code
admitted key generation size rows = admitted_beside (length rows) (total rows) key generation size rows

-- how many generations a new file keeps: as many as the highest of its name and type, and else this number
abbrev pub keep_at : ℕ → Key → List Row → ℕ
keep_at retention key rows = keep_for retention (files_of key rows)

-- a new file, unmarked, that keeps so many generations and was written at this moment; nobody has read it
abbrev pub new_row : Key → ℕ → ℕ → List ℕ → ℕ → Row
new_row key keep moment bytes generation =
    record {
      key = key;
      file = record {
        generation = generation;
        deleted = false;
        keep = keep;
        moment = moment;
        read = None;
        bytes = bytes;
      };
    }

-- the outcome of a plan: the rows, and from which file to which one each went
pub record Outcome : Type 0 where
  pub rows : List Row
  pub pairs : List NamePair

-- a row is added that comes from this file
abbrev pub placed : FullName → Outcome → Row → Outcome
placed source outcome row =
    record {
      rows = added row.file.keep row outcome.rows;
      pairs = outcome.pairs ++ (record { source = source; target = full_of row }) ∷ [];
    }

-- the same with each of some rows in turn, until one is refused
abbrev pub each_in_turn : (Row → Outcome → Result Outcome Code) → List Row → Outcome → Result Outcome Code
each_in_turn step [] outcome = Ok outcome
each_in_turn step (row ∷ more) outcome = and_then (each_in_turn step more) (step row outcome)
