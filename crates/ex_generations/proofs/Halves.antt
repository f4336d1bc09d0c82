-- What a search by halving finds among files whose generations ascend.
-- position looks at the one element at the place (found_at, none_at), by rising and std's IsPartitionedBy-ltb.
use Rattle.std.proofs.Common.{◌≡◌, ℕ, ◌<◌, ◌≤◌, Bool, true, false, cond, suc, zero, List, [], ◌∷◌, length, get_or, position, nat_lt, Some, None, Option, is_some, refl, sym, ap, subst, ◌∙◌, ◌⊎◌, inl, inr, arith}
use Rattle.std.specs.List.{position_or_len, prefix_len}
use Rattle.std.specs.List.Sorted.{IsNonDecreasingBy, IsPartitionedBy, IsPartitionPoint}
use Rattle.std.proofs.lemmas.Bool.{cases_order, eq-eqb, le-ltb, lt-ltb, ltb-false, ltb-true, ne_eqb}
use Rattle.std.proofs.lemmas.List.Sorted.{IsPartitionedBy-ltb}
use Rattle.std.proofs.lemmas.List.Sums.{position_or_len_is, prefix_len_is, prefix_len_passes, prefix_len_stops}
use Rattle.ex_generations.specs.declared.file.File.{File}
use Rattle.ex_generations.specs.Generations.{IsAscending, has, is_generation}
use Rattle.ex_generations.proofs.Ascents.{above_at}
use Rattle.ex_generations.proofs.Places.{StandsAt-from_position, absent-from_position}

-- the generations never fall, so those below a number come first
rising : (files : List File) (low : ℕ) → IsAscending low files → IsNonDecreasingBy (λ file. file.generation) files
rising [] low a i j d le within = absurd (omega arith)
rising (file ∷ more) low a zero zero d le within = omega arith
rising (file ∷ more) low a zero (suc j) d le within =
    omega (arith, above_at more file.generation j d a.3 (omega arith))
rising (file ∷ more) low a (suc i) zero d le within = absurd (omega arith)
rising (file ∷ more) low a (suc i) (suc j) d le within = rising more file.generation a.3 i j d (omega arith) (omega arith)

-- a file is of a lower generation
abbrev pub is_lower : ℕ → File → Bool
is_lower generation file = nat_lt file.generation generation

pub lower_first : (generation : ℕ) (files : List File) → IsAscending 0 files → IsPartitionedBy (is_lower generation) files
lower_first generation files a = IsPartitionedBy-ltb (λ file. file.generation) files generation (rising files 0 a)

-- the point of a search is how many are lower
pub place_is : (generation : ℕ) (files : List File) (at : ℕ) → at ≤ length files → IsPartitionPoint (λ file. is_lower generation file ≡ true) (λ file. is_lower generation file ≡ false) files at → at ≡ prefix_len (is_lower generation) files
place_is generation [] at most point = omega arith
place_is generation (file ∷ more) at most point =
    sym (prefix_len_is (is_lower generation) (file ∷ more) at file most (λ k below. point.0 k file (omega arith) below) (λ below. point.1 at file (omega arith) below))

-- the file at that place is of the generation
pub found_at : (generation : ℕ) (files : List File) (at : ℕ) (file : File) → at ≡ prefix_len (is_lower generation) files → at < length files → file ≡ get_or files at file → file.generation ≡ generation → Some at ≡ position (is_generation generation) files
found_at generation files at file place within is same =
    let first : position_or_len (is_generation generation) files ≡ at =
    position_or_len_is (is_generation generation) files at file (omega arith) before
    (λ lt. eq-eqb _ _ (sym (ap (λ (other : File). other.generation) is) ∙ same)) in
    sym (ap (λ n. cond (nat_lt n (length files)) (Some n) None) first ∙ ap (λ b. cond b (Some at) None) (lt-ltb at (length files) within))
  where
    before : (k : ℕ) → k < at → is_generation generation (get_or files k file) ≡ false
    before k below =
        let lower : (get_or files k file).generation < generation =
        ltb-true _ _ (prefix_len_passes (is_lower generation) files k file (omega arith)) in
        ne_eqb _ _ (omega arith)

-- where no file of the generation is at that place, there is none
pub none_at : (generation : ℕ) (files : List File) (at : ℕ) → IsAscending 0 files → at ≡ prefix_len (is_lower generation) files → ((d : File) → at < length files → (get_or files at d).generation ≡ generation → ⊥) → None ≡ position (is_generation generation) files
none_at generation [] at a place other = refl
none_at generation (first ∷ more) at a place other =
    let size : position_or_len (is_generation generation) (first ∷ more) ≡ length (first ∷ more) =
    position_or_len_is (is_generation generation) (first ∷ more) (length (first ∷ more)) first (omega arith)
    (λ k within. differs k within (cases_order at k))
    (λ lt. absurd (omega arith)) in
    sym (ap (λ n. cond (nat_lt n (length (first ∷ more))) (Some n) None) size ∙ ap (λ b. cond b (Some (length (first ∷ more))) None) (le-ltb _ _ (omega arith)))
  where
    after : (k : ℕ) → at ≤ k → k < length (first ∷ more) → is_generation generation (get_or (first ∷ more) k first) ≡ false
    after k from within =
        let stops : nat_lt (get_or (first ∷ more) at first).generation generation ≡ false =
        subst (λ (n : ℕ). nat_lt (get_or (first ∷ more) n first).generation generation ≡ false) (sym place) (prefix_len_stops (is_lower generation) (first ∷ more) first (omega arith)) in
        let least : generation ≤ (get_or (first ∷ more) at first).generation = ltb-false _ _ stops in
        let apart : (get_or (first ∷ more) at first).generation ≡ generation → ⊥ = other first (omega arith) in
        let rise : (get_or (first ∷ more) at first).generation ≤ (get_or (first ∷ more) k first).generation =
        rising (first ∷ more) 0 a at k first from within in
        ne_eqb _ _ (λ same. apart (omega arith))

    differs : (k : ℕ) → k < length (first ∷ more) → (at ≡ k) ⊎ ((at < k) ⊎ (k < at)) → is_generation generation (get_or (first ∷ more) k first) ≡ false
    differs k within (inl same) = after k (omega arith) within
    differs k within (inr (inl above)) = after k (omega arith) within
    differs k within (inr (inr below)) =
        let lower : (get_or (first ∷ more) k first).generation < generation =
        ltb-true _ _ (prefix_len_passes (is_lower generation) (first ∷ more) k first (omega arith)) in
        ne_eqb _ _ (omega arith)

-- whether there is one is whether it has a position
pub has_position : (generation : ℕ) (files : List File) (found : Option ℕ) → found ≡ position (is_generation generation) files → is_some found ≡ has generation files
has_position generation files (Some at) is = sym (StandsAt-from_position generation files at (sym is)).there
has_position generation files None is = sym (absent-from_position generation files (sym is))
