-- [next-generation] The lowest and the highest of files whose generations ascend: the first and the last.
use Rattle.std.proofs.Common.{◌≡◌, ℕ, ◌+◌, ◌-◌, ◌<◌, ◌≤◌, suc, zero, max, min, Bool, true, false, not, List, [], ◌∷◌, length, get_or, drop, Option, Some, unwrap_or, refl, sym, ap, subst, ◌∙◌, arith}
use Rattle.std.proofs.lemmas.Bool.{ne_eqb, or_from}
use Rattle.std.proofs.lemmas.List.{at_drop_more}
use Rattle.std.proofs.lemmas.Option.{get_or_from_slice_get, slice_get_within}
use Rattle.std.specs.List.{slice_get}
use Rattle.std.specs.Bool.{beq}
use Rattle.std.specs.Option.{option_map_or, option_or}
use Rattle.cm_lists.proofs.Bools.{beq-false}
use Rattle.cm_lists.proofs.Options.{max_parts, max_within}
use Rattle.ex_generations.specs.declared.file.File.{File}
use Rattle.ex_generations.specs.declared.file.TheConstants.{GENERATION_LIMIT}
use Rattle.ex_generations.specs.Generations.{IsAscending, has, highest, lowest, marked, unmarked, with_mark}
use Rattle.ex_generations.proofs.Ascents.{IsAscending-at, IsAscending-filter, limit_at}

-- the first file is the lowest
lowest-cons : (file : File) (more : List File) (low : ℕ) → IsAscending low (file ∷ more) → lowest (file ∷ more) ≡ Some file.generation
lowest-cons file [] low a = refl
lowest-cons file (next ∷ more) low a =
    ap (λ rest. Some (option_map_or (min file.generation) rest file.generation)) (lowest-cons next more file.generation a.3)
    ∙ ap Some (omega (arith, a.3.0))

-- whichever mark is asked for, a file that has it is the first of its kind
lowest-marked : (deleted : Bool) (file : File) (more : List File) → IsAscending 0 (file ∷ more) → file.deleted ≡ deleted → lowest (with_mark deleted (file ∷ more)) ≡ Some file.generation
lowest-marked true file more a e =
    rw e (lowest-cons file (marked more) 0 (a.0, a.1, a.2, IsAscending-filter (λ other. other.deleted) more file.generation a.3))
lowest-marked false file more a e =
    rw e (lowest-cons file (unmarked more) 0 (a.0, a.1, a.2, IsAscending-filter (λ other. not other.deleted) more file.generation a.3))

pub lowest_at : (deleted : Bool) (files : List File) (i : ℕ) (file : File) → IsAscending 0 files → i < length files → file ≡ get_or files i file → file.deleted ≡ deleted → lowest (with_mark deleted (drop i files)) ≡ Some file.generation
lowest_at deleted files i file a lt is e =
    at_drop_more (λ rest. lowest (with_mark deleted rest)) files i file lt
    ∙ subst (λ other. lowest (with_mark deleted (other ∷ drop (i + 1) files)) ≡ Some file.generation) is (lowest-marked deleted file (drop (i + 1) files) (subst (λ other. IsAscending 0 (other ∷ drop (i + 1) files)) (sym is) (IsAscending-at files i file a lt)) e)

-- the last file is the highest
highest-cons : (file : File) (more : List File) (low : ℕ) → IsAscending low (file ∷ more) → highest (file ∷ more) ≡ option_or (highest more) (Some file.generation)
highest-cons file [] low a = refl
highest-cons file (next ∷ more) low a =
    ap Some (omega (arith, a.3.0, max_within next.generation (highest more)))

highest-marked : (deleted : Bool) (file : File) (more : List File) (last : Option ℕ) → IsAscending 0 (file ∷ more) → file.deleted ≡ deleted → option_or (highest (with_mark deleted more)) (Some file.generation) ≡ option_or (highest (with_mark deleted (file ∷ more))) last
highest-marked true file more last a e =
    rw (e, highest-cons file (marked more) 0 (a.0, a.1, a.2, IsAscending-filter (λ other. other.deleted) more file.generation a.3))
highest-marked false file more last a e =
    rw (e, highest-cons file (unmarked more) 0 (a.0, a.1, a.2, IsAscending-filter (λ other. not other.deleted) more file.generation a.3))

-- one more file with the mark is the last so far
pub highest_more : (deleted : Bool) (files : List File) (i : ℕ) (file : File) (last : Option ℕ) → IsAscending 0 files → i < length files → file ≡ get_or files i file → file.deleted ≡ deleted → option_or (highest (with_mark deleted (drop (i + 1) files))) (Some file.generation) ≡ option_or (highest (with_mark deleted (drop i files))) last
highest_more deleted files i file last a lt is e =
    subst (λ other. option_or (highest (with_mark deleted (drop (i + 1) files))) (Some file.generation) ≡ option_or (highest (with_mark deleted (other ∷ drop (i + 1) files))) last) is (highest-marked deleted file (drop (i + 1) files) last (subst (λ other. IsAscending 0 (other ∷ drop (i + 1) files)) (sym is) (IsAscending-at files i file a lt)) e)
    ∙ sym (at_drop_more (λ rest. option_or (highest (with_mark deleted rest)) last) files i file lt)

-- a file without the mark counts for nothing
highest-other : (deleted : Bool) (file : File) (more : List File) (last : Option ℕ) → beq file.deleted deleted ≡ false → option_or (highest (with_mark deleted more)) last ≡ option_or (highest (with_mark deleted (file ∷ more))) last
highest-other true file more last e = rw (beq-false file.deleted true e)
highest-other false file more last e = rw (beq-false file.deleted false e)

pub highest_skip : (deleted : Bool) (files : List File) (i : ℕ) (file : File) (last : Option ℕ) → i < length files → file ≡ get_or files i file → beq file.deleted deleted ≡ false → option_or (highest (with_mark deleted (drop (i + 1) files))) last ≡ option_or (highest (with_mark deleted (drop i files))) last
highest_skip deleted files i file last lt is e =
    subst (λ other. option_or (highest (with_mark deleted (drop (i + 1) files))) last ≡ option_or (highest (with_mark deleted (other ∷ drop (i + 1) files))) last) is (highest-other deleted file (drop (i + 1) files) last e)
    ∙ sym (at_drop_more (λ rest. option_or (highest (with_mark deleted rest)) last) files i file lt)

-- the file at the last place is the highest
highest_at : (files : List File) (low i : ℕ) (d : File) → IsAscending low files → i + 1 ≡ length files → highest files ≡ Some (get_or files i d).generation
highest_at [] low i d a e = absurd (omega arith)
highest_at (file ∷ []) low zero d a e = refl
highest_at (file ∷ []) low (suc i) d a e = absurd (omega arith)
highest_at (file ∷ next ∷ more) low zero d a e = absurd (omega arith)
highest_at (file ∷ next ∷ more) low (suc i) d a e =
    highest-cons file (next ∷ more) low a ∙ ap (λ rest. option_or rest (Some file.generation)) (highest_at (next ∷ more) file.generation i d a.3 (omega arith))

pub highest_is : (files : List File) (file : File) → IsAscending 0 files → slice_get files (length files - 1) ≡ Some file → highest files ≡ Some file.generation
highest_is files file a e =
    let within : length files - 1 < length files = slice_get_within files (length files - 1) file e in
    highest_at files 0 (length files - 1) file a (omega arith)
    ∙ ap (λ (last : File). Some last.generation) (get_or_from_slice_get files (length files - 1) file file e)

pub highest-within : (files : List File) (file : File) → IsAscending 0 files → slice_get files (length files - 1) ≡ Some file → file.generation ≤ GENERATION_LIMIT
highest-within files file a e =
    let within : length files - 1 < length files = slice_get_within files (length files - 1) file e in
    subst (λ (last : File). last.generation ≤ GENERATION_LIMIT) (get_or_from_slice_get files (length files - 1) file file e) (limit_at files 0 (length files - 1) file a within)

-- no file is above the highest
pub has-above : (files : List File) (generation : ℕ) → unwrap_or (highest files) 0 < generation → has generation files ≡ false
has-above [] generation lt = refl
has-above (file ∷ more) generation lt =
    let parts : (file.generation ≤ option_map_or (max file.generation) (highest more) file.generation) × (unwrap_or (highest more) 0 ≤ option_map_or (max file.generation) (highest more) file.generation) = max_parts file.generation (highest more) in
    or_from _ _ (ne_eqb file.generation generation (omega (arith, parts.0))) (has-above more generation (omega (arith, parts.1)))
