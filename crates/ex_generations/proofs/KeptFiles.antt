-- [retention] What is in a list of files after a filter, and beside a file that is added.
use Rattle.std.proofs.Common.{◌≡◌, ℕ, ◌<◌, ◌≤◌, max, true, false, not, List, [], ◌∷◌, ◌++◌, filter, find, nat_lt, Contains, Some, unwrap_or, refl, ap, ◌⊎◌, inl, inr, arith}
use Rattle.std.specs.Option.{option_map_or}
use Rattle.std.proofs.lemmas.Bool.{eq-eqb, eqb-false, le-ltb, lt-ltb, ne_eqb, not-true, not_from_false, or_parts}
use Rattle.cm_lists.proofs.Filters.{Contains-filter, Contains_of_filter}
use Rattle.cm_lists.proofs.Numbers.{cases_ne}
use Rattle.cm_lists.proofs.Options.{max_parts}
use Rattle.ex_generations.specs.declared.file.File.{File}
use Rattle.ex_generations.specs.Generations.{IsAscending, has, highest, inserted, is_generation, next_generation, unmarked, without}
use Rattle.ex_generations.proofs.Places.{inserted-after, inserted-before}

pub Contains-unmarked : (file : File) (files : List File) → (Contains (unmarked files) file → Contains files file × (file.deleted ≡ false)) × (Contains files file × (file.deleted ≡ false) → Contains (unmarked files) file)
Contains-unmarked file files = (there, back) where
  there : Contains (unmarked files) file → Contains files file × (file.deleted ≡ false)
  there h =
      let found : Contains files file × (not file.deleted ≡ true) = Contains_of_filter (λ other. not other.deleted) file files h in
      (found.0, not-true file.deleted found.1)

  back : Contains files file × (file.deleted ≡ false) → Contains (unmarked files) file
  back h = Contains-filter (λ other. not other.deleted) file files h.0.0 h.0.1 h.0.2 (not_from_false file.deleted h.1)

-- files below a number
lower-all : (files : List File) (generation : ℕ) → unwrap_or (highest files) 0 < generation → filter (λ other. nat_lt other.generation generation) files ≡ files
lower-all [] generation lt = refl
lower-all (file ∷ more) generation lt =
    let parts : (file.generation ≤ option_map_or (max file.generation) (highest more) file.generation) × (unwrap_or (highest more) 0 ≤ option_map_or (max file.generation) (highest more) file.generation) = max_parts file.generation (highest more) in
    rw (lt-ltb file.generation generation (omega (arith, parts.0))) (ap (λ rest. file ∷ rest) (lower-all more generation (omega (arith, parts.1))))

higher-none : (files : List File) (generation : ℕ) → unwrap_or (highest files) 0 < generation → filter (λ other. nat_lt generation other.generation) files ≡ []
higher-none [] generation lt = refl
higher-none (file ∷ more) generation lt =
    let parts : (file.generation ≤ option_map_or (max file.generation) (highest more) file.generation) × (unwrap_or (highest more) 0 ≤ option_map_or (max file.generation) (highest more) file.generation) = max_parts file.generation (highest more) in
    rw (le-ltb generation file.generation (omega (arith, parts.0))) (higher-none more generation (omega (arith, parts.1)))

pub inserted-last : (file : File) (files : List File) → file.generation ≡ next_generation files → inserted file files ≡ files ++ file ∷ []
inserted-last file files e =
    let above : unwrap_or (highest files) 0 < file.generation = omega arith in
    rw (lower-all files file.generation above, higher-none files file.generation above)

without-absent : (generation : ℕ) (files : List File) → has generation files ≡ false → without generation files ≡ files
without-absent generation [] none = refl
without-absent generation (file ∷ more) none =
    let parts : (is_generation generation file ≡ false) × (has generation more ≡ false) = or_parts _ _ none in
    rw parts.0 (ap (λ rest. file ∷ rest) (without-absent generation more parts.1))

-- a file that was added can be taken out, and be found
pub record IsAmong (file : File) (files : List File) : Type 0 where
  pub others : without file.generation (inserted file files) ≡ files
  pub found : find (is_generation file.generation) (inserted file files) ≡ Some file

among-step : (new file : File) (more : List File) (low : ℕ) → IsAscending low (file ∷ more) → has new.generation (file ∷ more) ≡ false → IsAmong new more → (file.generation < new.generation) ⊎ (new.generation < file.generation) → IsAmong new (file ∷ more)
among-step new file more low a none rest (inl less) =
    record {
      others = rw (inserted-after new file more less, ne_eqb file.generation new.generation (omega arith)) (ap (λ others. file ∷ others) rest.others);
      found = rw (inserted-after new file more less, ne_eqb file.generation new.generation (omega arith)) rest.found;
    }
among-step new file more low a none rest (inr greater) =
    record {
      others = rw (inserted-before new file more low a greater, eq-eqb new.generation new.generation refl) (without-absent new.generation (file ∷ more) none);
      found = rw (inserted-before new file more low a greater, eq-eqb new.generation new.generation refl);
    }

pub among : (new : File) (files : List File) (low : ℕ) → IsAscending low files → has new.generation files ≡ false → IsAmong new files
among new [] low a none =
    record { others = rw (eq-eqb new.generation new.generation refl); found = rw (eq-eqb new.generation new.generation refl) }
among new (file ∷ more) low a none =
    let parts : (is_generation new.generation file ≡ false) × (has new.generation more ≡ false) = or_parts _ _ none in
    among-step new file more low a none (among new more file.generation a.3 parts.1) (cases_ne file.generation new.generation (eqb-false file.generation new.generation parts.0))
