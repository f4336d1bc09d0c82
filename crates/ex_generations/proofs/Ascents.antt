-- What follows of files whose generations ascend.
use Rattle.std.proofs.Common.{◌≡◌, ℕ, ◌+◌, ◌<◌, ◌≤◌, Bool, true, false, not, cond, suc, zero, List, [], ◌∷◌, length, get_or, map, set, drop, filter, refl, sym, subst, arith}
use Rattle.std.proofs.lemmas.List.{drop_more}
use Rattle.ex_generations.specs.declared.file.File.{File}
use Rattle.ex_generations.specs.declared.file.Remark.{Remark}
use Rattle.ex_generations.specs.declared.file.Remark.TheVariants as remarks
use Rattle.ex_generations.specs.declared.file.TheConstants.{FILE_LIMIT, GENERATION_LIMIT}
use Rattle.ex_generations.specs.Generations.{IsAscending, blank, is_generation, marked_as, with_remark, without}
use Rattle.ex_generations.specs.Retention.{kept_newest}

-- from a lower number on, too
pub IsAscending-from_lower : (files : List File) (low high : ℕ) → low ≤ high → IsAscending high files → IsAscending low files
IsAscending-from_lower [] low high le a = tt
IsAscending-from_lower (file ∷ more) low high le a = (omega (arith, a.0), a.1, a.2, a.3)

-- there are no more files than generations
pub length-within : (files : List File) (low : ℕ) → low ≤ GENERATION_LIMIT → IsAscending low files → low + length files ≤ GENERATION_LIMIT
length-within [] low le a = omega arith
length-within (file ∷ more) low le a = omega (arith, a.0, length-within more file.generation a.1 a.3)

-- each generation is above the number
pub above_at : (files : List File) (low i : ℕ) (d : File) → IsAscending low files → i < length files → low < (get_or files i d).generation
above_at [] low i d a lt = absurd (omega arith)
above_at (file ∷ more) low zero d a lt = a.0
above_at (file ∷ more) low (suc i) d a lt = omega (arith, a.0, above_at more file.generation i d a.3 (omega arith))

-- each file is short
pub short_at : (files : List File) (low i : ℕ) (file : File) → IsAscending low files → i < length files → file ≡ get_or files i file → length file.bytes ≤ FILE_LIMIT
short_at [] low i file a lt e = absurd (omega arith)
short_at (first ∷ more) low zero file a lt e = subst (λ other. length other.bytes ≤ FILE_LIMIT) (sym e) a.2
short_at (first ∷ more) low (suc i) file a lt e = short_at more first.generation i file a.3 (omega arith) e

-- no generation is above the limit
pub limit_at : (files : List File) (low i : ℕ) (d : File) → IsAscending low files → i < length files → (get_or files i d).generation ≤ GENERATION_LIMIT
limit_at [] low i d a lt = absurd (omega arith)
limit_at (file ∷ more) low zero d a lt = a.1
limit_at (file ∷ more) low (suc i) d a lt = limit_at more file.generation i d a.3 (omega arith)

pub IsAscending-drop : (files : List File) (low i : ℕ) → IsAscending low files → IsAscending low (drop i files)
IsAscending-drop [] low zero a = tt
IsAscending-drop [] low (suc i) a = tt
IsAscending-drop (file ∷ more) low zero a = a
IsAscending-drop (file ∷ more) low (suc i) a =
    IsAscending-from_lower (drop i more) low file.generation (omega (arith, a.0)) (IsAscending-drop more file.generation i a.3)

-- the file at a place, and those after it
pub IsAscending-at : (files : List File) (i : ℕ) (d : File) → IsAscending 0 files → i < length files → IsAscending 0 (get_or files i d ∷ drop (i + 1) files)
IsAscending-at files i d a lt = subst (IsAscending 0) (drop_more files i d lt) (IsAscending-drop files 0 i a)

IsAscending-cond : (b : Bool) (xs ys : List File) (low : ℕ) → IsAscending low xs → IsAscending low ys → IsAscending low (cond b xs ys)
IsAscending-cond true xs ys low a b = a
IsAscending-cond false xs ys low a b = b

pub IsAscending-filter : (p : File → Bool) (files : List File) (low : ℕ) → IsAscending low files → IsAscending low (filter p files)
IsAscending-filter p [] low a = tt
IsAscending-filter p (file ∷ more) low a =
    let rest : IsAscending file.generation (filter p more) = IsAscending-filter p more file.generation a.3 in
    IsAscending-cond (p file) (file ∷ filter p more) (filter p more) low (a.0, a.1, a.2, rest) (IsAscending-from_lower (filter p more) low file.generation (omega (arith, a.0)) rest)

IsAscending-head : (b : Bool) (file : File) (more changed : List File) (low : ℕ) → IsAscending low (file ∷ more) → IsAscending file.generation changed → IsAscending low (cond b (marked_as true file) file ∷ changed)
IsAscending-head true file more changed low a b = (a.0, a.1, a.2, b)
IsAscending-head false file more changed low a b = (a.0, a.1, a.2, b)

pub IsAscending-kept : (retention : ℕ) (files : List File) (low : ℕ) → IsAscending low files → IsAscending low (kept_newest retention files)
IsAscending-kept retention [] low a = tt
IsAscending-kept retention (file ∷ more) low a =
    IsAscending-head _ file more (kept_newest retention more) low a (IsAscending-kept retention more file.generation a.3)

pub IsAscending-without : (generation : ℕ) (files : List File) → IsAscending 0 files → IsAscending 0 (without generation files)
IsAscending-without generation files a = IsAscending-filter (λ file. not (is_generation generation file)) files 0 a

-- a remark changes neither generation nor bytes
pub with_remark-generation : (remark : Remark) (file : File) → (with_remark remark file).generation ≡ file.generation
with_remark-generation (remarks.Deleted deleted) file = refl
with_remark-generation (remarks.Keep keep) file = refl
with_remark-generation (remarks.Read moment) file = refl

pub with_remark-bytes : (remark : Remark) (file : File) → (with_remark remark file).bytes ≡ file.bytes
with_remark-bytes (remarks.Deleted deleted) file = refl
with_remark-bytes (remarks.Keep keep) file = refl
with_remark-bytes (remarks.Read moment) file = refl

-- a remark at a place
pub IsAscending-remark : (files : List File) (low i : ℕ) (remark : Remark) (d : File) → IsAscending low files
    → IsAscending low (set files i (with_remark remark (get_or files i d)))
IsAscending-remark [] low i remark d a = tt
IsAscending-remark (file ∷ more) low zero remark d a =
    rw (with_remark-generation remark file, with_remark-bytes remark file) (a.0, a.1, a.2, a.3)
IsAscending-remark (file ∷ more) low (suc i) remark d a =
    (a.0, a.1, a.2, IsAscending-remark more file.generation i remark d a.3)

-- files without their bytes
pub IsAscending-blank : (files : List File) (low : ℕ) → IsAscending low files → IsAscending low (map blank files)
IsAscending-blank [] low a = tt
IsAscending-blank (file ∷ more) low a = (a.0, a.1, omega arith, IsAscending-blank more file.generation a.3)
