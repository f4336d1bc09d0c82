-- What retention leaves unmarked, and how many the next file keeps.
-- Retention is one pass, with kept_newest of the rest in its invariant.
use Rattle.std.proofs.Common.{◌≡◌, ℕ, ◌+◌, ◌-◌, ◌<◌, ◌≤◌, Bool, true, false, not, cond, nat_le, suc, zero, min, List, [], ◌∷◌, ◌++◌, length, get_or, slice_get, Some, None, map, drop, refl, sym, ap, ◌∙◌, arith}
use Rattle.std.proofs.lemmas.Bool.{cond-false, cond-true, leb-false, leb-true, ne_eqb, not_from_false}
use Rattle.std.proofs.lemmas.List.{length-drop}
use Rattle.std.proofs.lemmas.Option.{get_or_from_slice_get, slice_get-get_or, slice_get_within}
use Rattle.ex_generations.specs.declared.file.File.{File}
use Rattle.ex_generations.specs.declared.file.TheConstants.{FILE_LIMIT, GENERATION_LIMIT}
use Rattle.ex_generations.specs.Generations.{IsAscending, has, inserted, marked_as, unmarked}
use Rattle.ex_generations.specs.Retention.{added, keep_for, kept_newest, live, retained}
use Rattle.ex_generations.proofs.Ascents.{IsAscending-kept}
use Rattle.ex_generations.proofs.Places.{IsAscending-inserted}

unmarked-cons : (file : File) (more : List File) → file.deleted ≡ false → unmarked (file ∷ more) ≡ file ∷ unmarked more
unmarked-cons file more e = cond-true (not file.deleted) (file ∷ unmarked more) (unmarked more) (not_from_false file.deleted e)

-- the lists of unmarked files before and after, with one more file in front
kept-step : (retention : ℕ) (file : File) (more rest : List File) (marks deleted : Bool) → nat_le retention (live more) ≡ marks → file.deleted ≡ deleted → unmarked rest ≡ drop (live more - retention) (unmarked more) → unmarked (cond marks (marked_as true file) file ∷ rest) ≡ drop (live (file ∷ more) - retention) (unmarked (file ∷ more))
kept-step retention file more rest true true le e ih = rw e ih
kept-step retention file more rest true false le e ih =
    let within : retention ≤ live more = leb-true retention (live more) le in
    let next : suc (live more) - retention ≡ suc (live more - retention) = omega arith in
    rw (e, next) ih
kept-step retention file more rest false true le e ih = rw e ih
kept-step retention file more rest false false le e ih =
    let fewer : live more < retention = leb-false retention (live more) le in
    let here : suc (live more) - retention ≡ 0 = omega arith in
    let there : live more - retention ≡ 0 = omega arith in
    let front : unmarked (file ∷ rest) ≡ file ∷ unmarked rest = unmarked-cons file rest e in
    let back : unmarked (file ∷ more) ≡ file ∷ unmarked more = unmarked-cons file more e in
    front
    ∙ (ap (λ others. file ∷ others) (ih ∙ ap (λ n. drop n (unmarked more)) there)
    ∙ (sym (ap (λ n. drop n (file ∷ unmarked more)) here) ∙ sym (ap (λ others. drop (length others - retention) others) back)))

drop-none : (n : ℕ) → drop {A = File} n [] ≡ []
drop-none zero = refl
drop-none (suc n) = refl

kept-unmarked : (retention : ℕ) (files : List File) → unmarked (kept_newest retention files) ≡ drop (live files - retention) (unmarked files)
kept-unmarked retention [] = sym (drop-none (0 - retention))
kept-unmarked retention (file ∷ more) =
    kept-step retention file more (kept_newest retention more) _ _ refl refl (kept-unmarked retention more)

retained-some : (retention : ℕ) (files : List File) → 0 < retention → retained retention files ≡ kept_newest retention files
retained-some retention files lt = cond-false _ files (kept_newest retention files) (ne_eqb retention 0 (omega arith))

pub retained-unmarked : (retention : ℕ) → 0 < retention → (files : List File) → unmarked (retained retention files) ≡ drop (live files - retention) (unmarked files)
retained-unmarked retention lt files = ap unmarked (retained-some retention files lt) ∙ kept-unmarked retention files

pub retained-live : (retention : ℕ) → 0 < retention → (files : List File) → live (retained retention files) ≡ min retention (live files)
retained-live retention lt files =
    ap length (retained-unmarked retention lt files) ∙ (length-drop (live files - retention) (unmarked files) ∙ omega arith)

same-mark : (marks : Bool) (file : File) → marked_as true (cond marks (marked_as true file) file) ≡ marked_as true file
same-mark true file = refl
same-mark false file = refl

kept-marks : (retention : ℕ) (files : List File) → map (marked_as true) (kept_newest retention files) ≡ map (marked_as true) files
kept-marks retention [] = refl
kept-marks retention (file ∷ more) =
    ap (λ first. first ∷ map (marked_as true) (kept_newest retention more)) (same-mark _ file)
    ∙ ap (λ rest. marked_as true file ∷ rest) (kept-marks retention more)

marks-cond : (all : Bool) (retention : ℕ) (files : List File) → map (marked_as true) (cond all files (kept_newest retention files)) ≡ map (marked_as true) files
marks-cond true retention files = refl
marks-cond false retention files = kept-marks retention files

pub retained-marks : (retention : ℕ) (files : List File) → map (marked_as true) (retained retention files) ≡ map (marked_as true) files
retained-marks retention files = marks-cond _ retention files

ascending-cond : (all : Bool) (retention : ℕ) (files : List File) → IsAscending 0 files → IsAscending 0 (cond all files (kept_newest retention files))
ascending-cond true retention files a = a
ascending-cond false retention files a = IsAscending-kept retention files 0 a

pub IsAscending-added : (file : File) (files : List File) → IsAscending 0 files → 0 < file.generation → file.generation ≤ GENERATION_LIMIT → length file.bytes ≤ FILE_LIMIT → has file.generation files ≡ false → IsAscending 0 (added file files)
IsAscending-added file files a lt within short absent =
    ascending-cond _ file.keep (inserted file files) (IsAscending-inserted file files 0 lt (record { short = short; within = within; absent = absent }) a)

-- a file after all others says how many the next one keeps
pub keep_for-append : (keep : ℕ) (files : List File) (file : File) → keep_for keep (files ++ file ∷ []) ≡ file.keep
keep_for-append keep [] file = refl
keep_for-append keep (first ∷ more) file = keep_for-append first.keep more file

keep_for-at : (keep : ℕ) (files : List File) (i : ℕ) (d : File) → i + 1 ≡ length files → keep_for keep files ≡ (get_or files i d).keep
keep_for-at keep [] i d e = absurd (omega arith)
keep_for-at keep (file ∷ []) zero d e = refl
keep_for-at keep (file ∷ []) (suc i) d e = absurd (omega arith)
keep_for-at keep (file ∷ next ∷ more) zero d e = absurd (omega arith)
keep_for-at keep (file ∷ next ∷ more) (suc i) d e = keep_for-at file.keep (next ∷ more) i d (omega arith)

-- and that is the last of a list
pub keep_for-last : (keep : ℕ) (files : List File) (file : File) → slice_get files (length files - 1) ≡ Some file → keep_for keep files ≡ file.keep
keep_for-last keep files file e =
    let within : length files - 1 < length files = slice_get_within files (length files - 1) file e in
    keep_for-at keep files (length files - 1) file (omega arith)
    ∙ ap (λ (last : File). last.keep) (get_or_from_slice_get files (length files - 1) file file e)

-- no file is the last where there is none
pub keep_for-none : (keep : ℕ) (files : List File) → slice_get files (length files - 1) ≡ None → keep_for keep files ≡ keep
keep_for-none keep [] e = refl
keep_for-none keep (file ∷ more) e =
    let last : slice_get (file ∷ more) (length (file ∷ more) - 1) ≡ Some (get_or (file ∷ more) (length (file ∷ more) - 1) file) = slice_get-get_or (file ∷ more) (length (file ∷ more) - 1) file (omega arith) in
    absurd (cc)
