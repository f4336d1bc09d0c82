-- Bytes are put after those of a file, source by source.
use Rattle.std.proofs.Common.{◌≡◌, ℕ, ◌+◌, ◌≤◌, Bool, true, false, cond, List, [], ◌∷◌, ◌++◌, length, length-append, Ok, Err, refl, sym, ap, arith, subst}
use Rattle.std.proofs.lemmas.Bool.{ltb-false}
use Rattle.cm_fields.specs.declared.code.Code.{Code}
use Rattle.cm_fields.specs.declared.code.Code.TheVariants.{FileSize, StoreSize}
use Rattle.ex_generations.specs.declared.file.TheConstants.{FILE_LIMIT}
use Rattle.ex_store.specs.declared.limits.TheConstants.{STORE_LIMIT}
use Rattle.ex_store.specs.declared.row.Row.{Row}
use Rattle.ex_store.specs.Adding.{and_then}
use Rattle.ex_store.specs.Appending.{fitting, concatenation}
use Rattle.ex_store.proofs.AdmittedLaws.{and_then_ok}

-- the next source fits
pub concatenation_more : (all size : ℕ) (bytes more new : List ℕ) (source : Row) (sources rest : List Row) (done : Unit {0}) → sources ≡ source ∷ rest → more ≡ source.file.bytes → size ≡ length bytes → new ≡ bytes ++ more → fitting all size (length more) ≡ Ok done → concatenation (all + length more) new rest ≡ concatenation all bytes sources
concatenation_more all size bytes more new source sources rest done next from same put e =
    let fits : fitting all (length bytes) (length source.file.bytes) ≡ Ok done = subst (λ (n : ℕ). fitting all n (length source.file.bytes) ≡ Ok done) same (subst (λ (others : List ℕ). fitting all size (length others) ≡ Ok done) from e) in
    rw (put, next, from) (sym (ap (and_then (λ _. concatenation (all + length source.file.bytes) (bytes ++ source.file.bytes) rest)) fits))

-- or it does not
pub concatenation_err : (all size : ℕ) (bytes more : List ℕ) (source : Row) (sources rest : List Row) (code : Code) → sources ≡ source ∷ rest → more ≡ source.file.bytes → size ≡ length bytes → fitting all size (length more) ≡ Err code → concatenation all bytes sources ≡ Err code
concatenation_err all size bytes more source sources rest code next from same e =
    let full : fitting all (length bytes) (length source.file.bytes) ≡ Err code = subst (λ (n : ℕ). fitting all n (length source.file.bytes) ≡ Err code) same (subst (λ (others : List ℕ). fitting all size (length others) ≡ Err code) from e) in
    rw next (ap (and_then (λ _. concatenation (all + length source.file.bytes) (bytes ++ source.file.bytes) rest)) full)

fits-cases : (long much : Bool) (done : Unit {0}) → cond long (Err FileSize) (cond much (Err StoreSize) (Ok tt)) ≡ Ok done → (long ≡ false) × (much ≡ false)
fits-cases true much done e = absurd (cc)
fits-cases false true done e = absurd (cc)
fits-cases false false done e = (refl, refl)

-- what fits is within the limits
pub fits_within : (all size more : ℕ) (done : Unit {0}) → fitting all size more ≡ Ok done → (size + more ≤ FILE_LIMIT) × (all + more ≤ STORE_LIMIT)
fits_within all size more done e =
    let parts = fits-cases _ _ done e in
    (ltb-false _ _ parts.0, ltb-false _ _ parts.1)

-- what is concatenation is within the limits
pub concatenation_within : (all : ℕ) (bytes : List ℕ) (sources : List Row) (out : List ℕ) → concatenation all bytes sources ≡ Ok out
    → length bytes ≤ FILE_LIMIT → all ≤ STORE_LIMIT
    → (length out ≤ FILE_LIMIT) × (all + length out ≤ STORE_LIMIT + length bytes)
concatenation_within all bytes [] out is short small =
    let same : bytes ≡ out = cc in
    (omega (arith, ap length same), omega (arith, ap length same))
concatenation_within all bytes (source ∷ sources) out is short small =
    let parts = and_then_ok (λ _. concatenation (all + length source.file.bytes) (bytes ++ source.file.bytes) sources)
    (fitting all (length bytes) (length source.file.bytes)) out is in
    let fits = fits_within all (length bytes) (length source.file.bytes) parts.0 parts.1 in
    let sizes : length (bytes ++ source.file.bytes) ≡ length bytes + length source.file.bytes = length-append bytes source.file.bytes in
    let rest = concatenation_within (all + length source.file.bytes) (bytes ++ source.file.bytes) sources out parts.2
    (omega (arith, sizes, fits.0)) (omega (arith, fits.1)) in
    (rest.0, omega (arith, sizes, rest.1))
