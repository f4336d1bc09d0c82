-- Where the file of a generation stands, and what a change there is.
-- Helpers over files ensure the order besides their result. Definitions are filters and maps, and the code is a search
-- for one place (inserted). xs.get(at) gives lookup; at any default it needs get_or_default.
use Rattle.std.proofs.Common.{◌≡◌, ℕ, ◌+◌, ◌<◌, ◌≤◌, Bool, true, false, cond, nat_lt, suc, zero, List, [], ◌∷◌, length, get_or, set, filter, find, insert, remove, position, Some, None, refl, sym, ap, subst, ◌∙◌, ◌⊎◌, inl, inr, arith}
use Rattle.std.specs.List.{position_or_len, prefix_len}
use Rattle.std.proofs.lemmas.Bool.{cond-false, cond-true, eq-eqb, eqb-false, eqb-true, le-ltb, lt-ltb, ltb-false, ne_eqb, or_parts}
use Rattle.std.proofs.lemmas.List.Folds.{list_any_at}
use Rattle.std.proofs.lemmas.List.Quantifiers.{position-Some}
use Rattle.cm_lists.proofs.Elements.{insert-cons}
use Rattle.cm_lists.proofs.Numbers.{cases_ne}
use Rattle.cm_lists.proofs.Options.{cond_none}
use Rattle.cm_lists.proofs.Positions.{none_any}
use Rattle.ex_generations.specs.declared.file.File.{File}
use Rattle.ex_generations.specs.declared.file.TheConstants.{FILE_LIMIT, GENERATION_LIMIT}
use Rattle.ex_generations.specs.Generations.{IsAscending, changed, has, inserted, is_generation, without}
use Rattle.ex_generations.proofs.Ascents.{above_at}

-- what a position says
pub record StandsAt (generation : ℕ) (files : List File) (i : ℕ) : Type 0 where
  pub within : i < length files
  pub is : (d : File) → (get_or files i d).generation ≡ generation
  pub there : has generation files ≡ true

pub StandsAt-from_position : (generation : ℕ) (files : List File) (i : ℕ) → position (is_generation generation) files ≡ Some i → StandsAt generation files i
StandsAt-from_position generation [] i e = absurd (cc)
StandsAt-from_position generation (first ∷ more) i e =
    let at : (i < length (first ∷ more)) × (is_generation generation (get_or (first ∷ more) i first) ≡ true) × ((k : ℕ) → k < i → is_generation generation (get_or (first ∷ more) k first) ≡ false) = position-Some (is_generation generation) (first ∷ more) i first e in
    record {
      within = at.0;
      is = λ d. eqb-true _ _ ((position-Some (is_generation generation) (first ∷ more) i d e).1);
      there = list_any_at (is_generation generation) (first ∷ more) i first at.0 at.1;
    }

pub absent-from_position : (generation : ℕ) (files : List File) → position (is_generation generation) files ≡ None → has generation files ≡ false
absent-from_position generation files e =
    none_any (is_generation generation) files (ltb-false _ _ (cond_none (nat_lt (position_or_len (is_generation generation) files) (length files)) _ e))

-- no file above is of a generation
changed-above : (generation : ℕ) (change : File → File) (files : List File) (low : ℕ) → generation ≤ low → IsAscending low files → changed generation change files ≡ files
changed-above generation change [] low le a = refl
changed-above generation change (file ∷ more) low le a =
    rw (ne_eqb file.generation generation (omega (arith, a.0))) (ap (λ rest. file ∷ rest) (changed-above generation change more file.generation (omega (arith, a.0)) a.3))

-- a change of the file of a generation is a change at its place
pub changed_at : (generation : ℕ) (change : File → File) (files : List File) (low i : ℕ) (d : File) → IsAscending low files → i < length files → (get_or files i d).generation ≡ generation → changed generation change files ≡ set files i (change (get_or files i d))
changed_at generation change [] low i d a lt is = absurd (omega arith)
changed_at generation change (file ∷ more) low zero d a lt is =
    rw (eq-eqb file.generation generation is) (ap (λ rest. change file ∷ rest) (changed-above generation change more file.generation (omega arith) a.3))
changed_at generation change (file ∷ more) low (suc i) d a lt is =
    rw (ne_eqb file.generation generation (omega (arith, above_at more file.generation i d a.3 (omega arith)))) (ap (λ rest. file ∷ rest) (changed_at generation change more file.generation i d a.3 (omega arith) is))

-- where no file is of the generation nothing changes
pub changed-absent : (generation : ℕ) (change : File → File) (files : List File) → has generation files ≡ false → changed generation change files ≡ files
changed-absent generation change [] none = refl
changed-absent generation change (file ∷ more) none =
    let parts : (is_generation generation file ≡ false) × (has generation more ≡ false) = or_parts _ _ none in
    rw parts.0 (ap (λ rest. file ∷ rest) (changed-absent generation change more parts.1))

IsAscending-changed-head : (b : Bool) (change : File → File) (file : File) (more rest : List File) (low : ℕ) → ((other : File) → (change other).generation ≡ other.generation) → ((other : File) → length other.bytes ≤ FILE_LIMIT → length (change other).bytes ≤ FILE_LIMIT) → IsAscending low (file ∷ more) → IsAscending file.generation rest → IsAscending low (cond b (change file) file ∷ rest)
IsAscending-changed-head true change file more rest low same short a r =
    let e : (change file).generation ≡ file.generation = same file in
    (omega (arith, a.0), omega (arith, a.1), short file a.2, subst (λ number. IsAscending number rest) (sym e) r)
IsAscending-changed-head false change file more rest low same short a r = (a.0, a.1, a.2, r)

-- a change that keeps the generation, and the bytes short, keeps the order
pub IsAscending-changed : (generation : ℕ) (change : File → File) (files : List File) (low : ℕ) → ((other : File) → (change other).generation ≡ other.generation) → ((other : File) → length other.bytes ≤ FILE_LIMIT → length (change other).bytes ≤ FILE_LIMIT) → IsAscending low files → IsAscending low (changed generation change files)
IsAscending-changed generation change [] low same short a = tt
IsAscending-changed generation change (file ∷ more) low same short a =
    IsAscending-changed-head _ change file more _ low same short a (IsAscending-changed generation change more file.generation same short a.3)

without-above : (generation : ℕ) (files : List File) (low : ℕ) → generation ≤ low → IsAscending low files → without generation files ≡ files
without-above generation [] low le a = refl
without-above generation (file ∷ more) low le a =
    rw (ne_eqb file.generation generation (omega (arith, a.0))) (ap (λ rest. file ∷ rest) (without-above generation more file.generation (omega (arith, a.0)) a.3))

-- the files without that of a generation are those without the one at its place
pub without_at : (generation : ℕ) (files : List File) (low i : ℕ) (d : File) → IsAscending low files → i < length files → (get_or files i d).generation ≡ generation → without generation files ≡ remove files i
without_at generation [] low i d a lt is = absurd (omega arith)
without_at generation (file ∷ more) low zero d a lt is =
    rw (eq-eqb file.generation generation is) (without-above generation more file.generation (omega arith) a.3)
without_at generation (file ∷ more) low (suc i) d a lt is =
    rw (ne_eqb file.generation generation (omega (arith, above_at more file.generation i d a.3 (omega arith)))) (ap (λ rest. file ∷ rest) (without_at generation more file.generation i d a.3 (omega arith) is))

-- the file of a generation is the one at its place
pub find_at : (generation : ℕ) (files : List File) (low i : ℕ) (d : File) → IsAscending low files → i < length files → (get_or files i d).generation ≡ generation → find (is_generation generation) files ≡ Some (get_or files i d)
find_at generation [] low i d a lt is = absurd (omega arith)
find_at generation (file ∷ more) low zero d a lt is = rw (eq-eqb file.generation generation is)
find_at generation (file ∷ more) low (suc i) d a lt is =
    rw (ne_eqb file.generation generation (omega (arith, above_at more file.generation i d a.3 (omega arith)))) (find_at generation more file.generation i d a.3 (omega arith) is)

-- by the position that a search gives: one is there, and the change is a write at its place
pub set_is : (generation : ℕ) (change : File → File) (files : List File) (i : ℕ) (d : File) → IsAscending 0 files → position (is_generation generation) files ≡ Some i → set files i (change (get_or files i d)) ≡ changed generation change files
set_is generation change files i d a e =
    let at : StandsAt generation files i = StandsAt-from_position generation files i e in
    sym (changed_at generation change files 0 i d a at.within (at.is d))

pub IsAscending-set : (generation : ℕ) (change : File → File) (files : List File) (i : ℕ) (d : File) → ((other : File) → (change other).generation ≡ other.generation) → ((other : File) → length other.bytes ≤ FILE_LIMIT → length (change other).bytes ≤ FILE_LIMIT) → IsAscending 0 files → position (is_generation generation) files ≡ Some i → IsAscending 0 (set files i (change (get_or files i d)))
IsAscending-set generation change files i d same short a e =
    subst (IsAscending 0) (sym (set_is generation change files i d a e)) (IsAscending-changed generation change files 0 same short a)

pub remove_is : (generation : ℕ) (files : List File) (i : ℕ) → IsAscending 0 files → position (is_generation generation) files ≡ Some i → remove files i ≡ without generation files
remove_is generation [] i a e = absurd (cc)
remove_is generation (file ∷ more) i a e =
    let at : StandsAt generation (file ∷ more) i = StandsAt-from_position generation (file ∷ more) i e in
    sym (without_at generation (file ∷ more) 0 i file a at.within (at.is file))

pub find_is : (generation : ℕ) (files : List File) (i : ℕ) (file : File) → IsAscending 0 files → position (is_generation generation) files ≡ Some i → file ≡ get_or files i file → find (is_generation generation) files ≡ Some file
find_is generation files i file a e is =
    let at : StandsAt generation files i = StandsAt-from_position generation files i e in
    find_at generation files 0 i file a at.within (at.is file) ∙ ap (λ other. Some other) (sym is)

lower-none : (generation : ℕ) (files : List File) (low : ℕ) → generation ≤ low → IsAscending low files → filter (λ other. nat_lt other.generation generation) files ≡ []
lower-none generation [] low le a = refl
lower-none generation (file ∷ more) low le a =
    rw (le-ltb file.generation generation (omega (arith, a.0))) (lower-none generation more file.generation (omega (arith, a.0)) a.3)

higher-all : (generation : ℕ) (files : List File) (low : ℕ) → generation ≤ low → IsAscending low files → filter (λ other. nat_lt generation other.generation) files ≡ files
higher-all generation [] low le a = refl
higher-all generation (file ∷ more) low le a =
    rw (lt-ltb generation file.generation (omega (arith, a.0))) (ap (λ rest. file ∷ rest) (higher-all generation more file.generation (omega (arith, a.0)) a.3))

-- a file goes after the first, if that is lower
pub inserted-after : (new file : File) (more : List File) → file.generation < new.generation → inserted new (file ∷ more) ≡ file ∷ inserted new more
inserted-after new file more lt =
    rw (lt-ltb file.generation new.generation lt, le-ltb new.generation file.generation (omega arith))

-- and before it, if that is higher
pub inserted-before : (new file : File) (more : List File) (low : ℕ) → IsAscending low (file ∷ more) → new.generation < file.generation → inserted new (file ∷ more) ≡ new ∷ file ∷ more
inserted-before new file more low a lt =
    rw (le-ltb file.generation new.generation (omega arith), lt-ltb new.generation file.generation lt, lower-none new.generation more file.generation (omega arith) a.3, higher-all new.generation more file.generation (omega arith) a.3)

-- what a new file has to be
pub record IsNew (new : File) (files : List File) : Type 0 where
  pub short : length new.bytes ≤ FILE_LIMIT
  pub within : new.generation ≤ GENERATION_LIMIT
  pub absent : has new.generation files ≡ false

after : (new file : File) (more : List File) → IsNew new (file ∷ more) → (file.generation ≡ new.generation → ⊥) × IsNew new more
after new file more n =
    let parts : (is_generation new.generation file ≡ false) × (has new.generation more ≡ false) = or_parts _ _ n.absent in
    (eqb-false file.generation new.generation parts.0, record { short = n.short; within = n.within; absent = parts.1 })

IsAscending-inserted-step : (new file : File) (more : List File) (low : ℕ) → low < new.generation → IsNew new more → IsAscending low (file ∷ more) → (file.generation < new.generation → IsAscending file.generation (inserted new more)) → (file.generation < new.generation) ⊎ (new.generation < file.generation) → IsAscending low (inserted new (file ∷ more))
IsAscending-inserted-step new file more low lt n a rest (inl less) =
    subst (IsAscending low) (sym (inserted-after new file more less)) (a.0, a.1, a.2, rest less)
IsAscending-inserted-step new file more low lt n a rest (inr greater) =
    subst (IsAscending low) (sym (inserted-before new file more low a greater)) (lt, n.within, n.short, (greater, a.1, a.2, a.3))

-- with a new file among them, the files ascend still
pub IsAscending-inserted : (new : File) (files : List File) (low : ℕ) → low < new.generation → IsNew new files → IsAscending low files → IsAscending low (inserted new files)
IsAscending-inserted new [] low lt n a = (lt, n.within, n.short, tt)
IsAscending-inserted new (file ∷ more) low lt n a =
    let next : (file.generation ≡ new.generation → ⊥) × IsNew new more = after new file more n in
    IsAscending-inserted-step new file more low lt next.1 a (λ less. IsAscending-inserted new more file.generation less next.1 a.3) (cases_ne file.generation new.generation next.0)

-- the place of a new file
abbrev pub place_of : File → List File → ℕ
place_of new files = prefix_len (λ other. nat_lt other.generation new.generation) files

inserted_at-step : (new file : File) (more : List File) (low : ℕ) → IsAscending low (file ∷ more) → inserted new more ≡ insert more (place_of new more) new → (file.generation < new.generation) ⊎ (new.generation < file.generation) → inserted new (file ∷ more) ≡ insert (file ∷ more) (place_of new (file ∷ more)) new
inserted_at-step new file more low a rest (inl less) =
    inserted-after new file more less
    ∙ (ap (λ others. file ∷ others) rest ∙ (sym (insert-cons file new more (place_of new more)) ∙ ap (λ n. insert (file ∷ more) n new) (sym (cond-true _ (1 + place_of new more) 0 (lt-ltb file.generation new.generation less)))))
inserted_at-step new file more low a rest (inr greater) =
    inserted-before new file more low a greater
    ∙ ap (λ n. insert (file ∷ more) n new) (sym (cond-false _ (1 + place_of new more) 0 (le-ltb file.generation new.generation (omega arith))))

-- a file is inserted at its place
pub inserted_at : (new : File) (files : List File) (low : ℕ) → IsNew new files → IsAscending low files → inserted new files ≡ insert files (place_of new files) new
inserted_at new [] low n a = refl
inserted_at new (file ∷ more) low n a =
    let next : (file.generation ≡ new.generation → ⊥) × IsNew new more = after new file more n in
    inserted_at-step new file more low a (inserted_at new more file.generation next.1 a.3) (cases_ne file.generation new.generation next.0)

-- a generation that is not there is not found
pub find_absent : (generation : ℕ) (files : List File) → has generation files ≡ false → find (is_generation generation) files ≡ None
find_absent generation [] none = refl
find_absent generation (file ∷ more) none =
    let parts : (is_generation generation file ≡ false) × (has generation more ≡ false) = or_parts _ _ none in
    rw parts.0 (find_absent generation more parts.1)
