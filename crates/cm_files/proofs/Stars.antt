-- [wildcard] Patterns, part by part between their stars.
-- The definition is structural in the pattern, and the code goes part by part between stars. The greedy step is
-- later_end, for any test; spend (cm_lists) bounds the work.
use Rattle.std.proofs.Common.{◌≡◌, ℕ, zero, suc, ◌+◌, ◌-◌, ◌<◌, ◌≤◌, Bool, true, false, not, ◌==◌, ◌&&◌, ◌||◌, cond, subst, ◌⊎◌, inl, inr, List, [], ◌∷◌, ◌++◌, Option, Some, None, length, take, drop, refl, ap, arith, ◌∙◌, sym}
use Rattle.std.specs.List.{common_prefix_len, list_all, prefix_len}
use Rattle.std.proofs.lemmas.Bool.{and_from, and_parts, cases_lt, cases_order, eq-eqb, eqb-true, le-leb, lt-leb, ne_eqb, or_right}
use Rattle.std.proofs.lemmas.Bool.Decides.{nat_tests}
use Rattle.std.proofs.lemmas.List.{drop-drop, take_all}
use Rattle.std.proofs.lemmas.List.Folds.{length-prefix_len}
use Rattle.cm_lists.proofs.Bools.{and-false, and-true, and_assoc, or-false, or_absorbs}
use Rattle.cm_lists.proofs.Numbers.{eq-suc, suc_add, zero_add, zero_is_no_suc}
use Rattle.cm_files.specs.Pattern.{is_plain, matches, some_end, stands_for}
use Rattle.cm_files.specs.Place.{ends_like, fits, place_from}

-- a part takes as many bytes as it has
fits_more : (mark byte : ℕ) (part name : List ℕ)
    → fits (mark ∷ part) (byte ∷ name) ≡ (stands_for mark byte && fits part name)
fits_more mark byte part name = by (stands_for mark byte) (common_prefix_len stands_for part name)
  where
    by : (stands : Bool) (size : ℕ) → (cond stands (1 + size) 0 == suc (length part)) ≡ (stands && (size == length part))
    by true size = grind (arith, nat_tests)
    by false size = grind (arith, nat_tests)

fits_none : (mark : ℕ) (part : List ℕ) → fits (mark ∷ part) [] ≡ false
fits_none mark part = zero_is_no_suc (length part)

plain_mark : (mark : ℕ) → is_plain mark ≡ true → (mark == 42) ≡ false
plain_mark mark plain = by (mark == 42) plain
  where
    by : (star : Bool) → not star ≡ true → star ≡ false
    by true is = cc
    by false is = refl

-- a part before a star stands for the first bytes, and what is after the star for some end of the rest
first_part : (part more name : List ℕ) → list_all is_plain part ≡ true
    → matches (part ++ 42 ∷ more) name ≡ (fits part name && some_end (matches more) (drop (length part) name))
first_part [] more name plain = refl
first_part (mark ∷ part) more [] plain =
    let star = plain_mark mark (and_parts _ _ plain).0 in
    rw star (sym (ap (λ b. b && some_end (matches more) (drop (length (mark ∷ part)) [])) (fits_none mark part)))
first_part (mark ∷ part) more (byte ∷ name) plain =
    let star = plain_mark mark (and_parts _ _ plain).0 in
    let rest = first_part part more name (and_parts _ _ plain).1 in
    rw star (ap (λ b. stands_for mark byte && b) rest
    ∙ and_assoc (stands_for mark byte) (fits part name) (some_end (matches more) (drop (length part) name))
    ∙ ap (λ b. b && some_end (matches more) (drop (length part) name)) (sym (fits_more mark byte part name)))

-- a part that no star follows stands for the whole name
whole_part : (part name : List ℕ) → list_all is_plain part ≡ true
    → matches part name ≡ (fits part name && (length part == length name))
whole_part [] [] plain = refl
whole_part [] (byte ∷ name) plain = sym (zero_is_no_suc (length name))
whole_part (mark ∷ part) [] plain =
    let star = plain_mark mark (and_parts _ _ plain).0 in
    rw star (sym (ap (λ b. b && (length (mark ∷ part) == 0)) (fits_none mark part)))
whole_part (mark ∷ part) (byte ∷ name) plain =
    let star = plain_mark mark (and_parts _ _ plain).0 in
    let rest = whole_part part name (and_parts _ _ plain).1 in
    rw star (ap (λ b. stands_for mark byte && b) rest
    ∙ and_assoc (stands_for mark byte) (fits part name) (length part == length name)
    ∙ ap (λ b. b && (length part == length name)) (sym (fits_more mark byte part name))
    ∙ ap (λ b. fits (mark ∷ part) (byte ∷ name) && b) (eq-suc (length part) (length name)))

-- an end of what is after more bytes is an end of what is after fewer
end_of_more : (test : List ℕ → Bool) (size byte : ℕ) (name : List ℕ)
    → some_end test (drop size name) ≡ true → some_end test (drop size (byte ∷ name)) ≡ true
end_of_more test zero byte name is = or_right (test (byte ∷ name)) _ is
end_of_more test (suc zero) byte [] is = is
end_of_more test (suc (suc size)) byte [] is = is
end_of_more test (suc size) byte (other ∷ name) is = end_of_more test size other name is

-- a part at a later place leaves no more ends than at an earlier one
later_end : (fit test : List ℕ → Bool) (size : ℕ) (name : List ℕ)
    → some_end (λ rest. fit rest && some_end test (drop size rest)) name ≡ true → some_end test (drop size name) ≡ true
later_end fit test size [] is = (and_parts _ _ is).1
later_end fit test size (byte ∷ name) is =
    by (fit (byte ∷ name) && some_end test (drop size (byte ∷ name))) refl is (later_end fit test size name)
  where
    by : (first : Bool) → (fit (byte ∷ name) && some_end test (drop size (byte ∷ name))) ≡ first
        → (first || some_end (λ rest. fit rest && some_end test (drop size rest)) name) ≡ true
        → (some_end (λ rest. fit rest && some_end test (drop size rest)) name ≡ true → some_end test (drop size name) ≡ true)
        → some_end test (drop size (byte ∷ name)) ≡ true
    by true here is later = (and_parts _ _ here).1
    by false here is later = end_of_more test size byte name (later is)

-- the same list of ends, by tests that agree
same_ends : (f g : List ℕ → Bool) (name : List ℕ) → ((rest : List ℕ) → f rest ≡ g rest) → some_end f name ≡ some_end g name
same_ends f g [] same = same []
same_ends f g (byte ∷ name) same =
    ap (λ b. b || some_end f name) (same (byte ∷ name)) ∙ ap (λ b. g (byte ∷ name) || b) (same_ends f g name same)

-- a part, and after it some end of the rest
abbrev fit_and : List ℕ → List ℕ → List ℕ → Bool
fit_and part more rest = fits part rest && some_end (matches more) (drop (length part) rest)

pub record IsPlace (part more : List ℕ) (at place : ℕ) (name : List ℕ) : Type 0 where
  pub later : ℕ
  pub place_is : place ≡ at + later
  pub same : some_end (fit_and part more) name ≡ some_end (matches more) (drop (later + length part) name)

-- the first place serves: what is left after it has the ends of what is left after any later one
first_place : (part more : List ℕ) (at place : ℕ) (name : List ℕ) → place_from part at name ≡ Some place
    → IsPlace part more at place name
first_place part more at place [] found = by (fits part []) refl found
  where
    by : (fit : Bool) → fits part [] ≡ fit → cond fit (Some at) None ≡ Some place → IsPlace part more at place []
    by true fit found =
        record {
          later = 0;
          place_is = (let same : at ≡ place = cc in omega arith);
          same = rw fit (ap (λ n. some_end (matches more) (drop n [])) (zero_add (length part)));
        }
    by false fit found = absurd (cc)
first_place part more at place (byte ∷ name) found = by (fits part (byte ∷ name)) refl found (first_place part more (at + 1) place name)
  where
    by : (fit : Bool) → fits part (byte ∷ name) ≡ fit → cond fit (Some at) (place_from part (at + 1) name) ≡ Some place
        → (place_from part (at + 1) name ≡ Some place → IsPlace part more (at + 1) place name)
        → IsPlace part more at place (byte ∷ name)
    by true fit found rest = record {
      later = 0;
      place_is = (let same : at ≡ place = cc in omega arith);
      same = rw fit (or_absorbs (some_end (matches more) (drop (length part) (byte ∷ name))) (some_end (fit_and part more) name)
          (λ is. end_of_more (matches more) (length part) byte name (later_end (fits part) (matches more) (length part) name is))
          ∙ ap (λ n. some_end (matches more) (drop n (byte ∷ name))) (zero_add (length part)));
    }
    by false fit found rest =
        let after = rest found in
        record {
          later = suc after.later;
          place_is = (let is = after.place_is in omega arith);
          same = rw fit (after.same
              ∙ ap (λ n. some_end (matches more) (drop n (byte ∷ name))) (suc_add after.later (length part)));
        }

no_place : (part more : List ℕ) (at : ℕ) (name : List ℕ) → place_from part at name ≡ None → some_end (fit_and part more) name ≡ false
no_place part more at [] found = by (fits part []) found
  where
    by : (fit : Bool) → cond fit (Some at) None ≡ None → (fit && some_end (matches more) (drop (length part) [])) ≡ false
    by true found = absurd (cc)
    by false found = refl
no_place part more at (byte ∷ name) found = by (fits part (byte ∷ name)) found (no_place part more (at + 1) name)
  where
    by : (fit : Bool) → cond fit (Some at) (place_from part (at + 1) name) ≡ None
        → (place_from part (at + 1) name ≡ None → some_end (fit_and part more) name ≡ false)
        → ((fit && some_end (matches more) (drop (length part) (byte ∷ name))) || some_end (fit_and part more) name) ≡ false
    by true found rest = absurd (cc)
    by false found rest = rest found

-- where one more byte is before a name, a part that is no longer than the name ends it alike
ends_shorter : (part name : List ℕ) (byte : ℕ) → length part ≤ length name → ends_like part (byte ∷ name) ≡ ends_like part name
ends_shorter part name byte short =
    let size : suc (length name) - length part ≡ suc (length name - length part) = omega arith in
    rw (le-leb (length part) (suc (length name)) (omega arith), le-leb (length part) (length name) short, size) refl

ends_equal : (part name : List ℕ) (byte : ℕ) → length part ≡ suc (length name)
    → ends_like part (byte ∷ name) ≡ fits part (byte ∷ name)
ends_equal part name byte equal =
    let size : suc (length name) - length part ≡ 0 = omega arith in
    rw (le-leb (length part) (suc (length name)) (omega arith), size) refl

ends_longer : (part name : List ℕ) → length name < length part → ends_like part name ≡ false
ends_longer part name long = rw (lt-leb (length part) (length name) long) refl

-- a part that no star follows stands for the end
pub last_part : (part name : List ℕ) → list_all is_plain part ≡ true → some_end (matches part) name ≡ ends_like part name
last_part [] [] plain = refl
last_part (mark ∷ part) [] plain =
    whole_part (mark ∷ part) [] plain ∙ ap (λ b. b && (length (mark ∷ part) == 0)) (fits_none mark part)
    ∙ sym (ends_longer (mark ∷ part) [] (omega arith))
last_part part (byte ∷ name) plain =
    ap (λ b. b || some_end (matches part) name) (whole_part part (byte ∷ name) plain)
    ∙ ap (λ b. (fits part (byte ∷ name) && (length part == suc (length name))) || b) (last_part part name plain)
    ∙ by (cases_order (length part) (suc (length name)))
  where
    by : (length part ≡ suc (length name)) ⊎ ((length part < suc (length name)) ⊎ (suc (length name) < length part))
        → ((fits part (byte ∷ name) && (length part == suc (length name))) || ends_like part name) ≡ ends_like part (byte ∷ name)
    by (inl equal) =
        rw (eq-eqb (length part) (suc (length name)) equal, ends_longer part name (omega arith), ends_equal part name byte equal)
        (or-false (fits part (byte ∷ name) && true) ∙ and-true (fits part (byte ∷ name)))
    by (inr (inl short)) =
        rw (ne_eqb (length part) (suc (length name)) (λ equal. absurd (omega arith)), ends_shorter part name byte (omega arith), and-false (fits part (byte ∷ name))) refl
    by (inr (inr long)) =
        rw (ne_eqb (length part) (suc (length name)) (λ equal. absurd (omega arith)), ends_longer part name (omega arith), ends_longer part (byte ∷ name) long, and-false (fits part (byte ∷ name))) refl

-- the part of a pattern before its first star, and what is after the star
plain_part : (pattern : List ℕ) → list_all is_plain (take (prefix_len is_plain pattern) pattern) ≡ true
plain_part [] = refl
plain_part (mark ∷ pattern) = by (is_plain mark) refl (plain_part pattern)
  where
    by : (plain : Bool) → is_plain mark ≡ plain → list_all is_plain (take (prefix_len is_plain pattern) pattern) ≡ true
        → list_all is_plain (take (cond plain (1 + prefix_len is_plain pattern) 0) (mark ∷ pattern)) ≡ true
    by true is rest =
        let next : 1 + prefix_len is_plain pattern ≡ suc (prefix_len is_plain pattern) = omega arith in
        rw next (and_from _ _ is rest)
    by false is rest = refl

cut_more : (mark : ℕ) (pattern : List ℕ) (size first second : ℕ) → first ≡ suc size → second ≡ suc (size + 1)
    → take size pattern ++ 42 ∷ drop (size + 1) pattern ≡ pattern
    → take first (mark ∷ pattern) ++ 42 ∷ drop second (mark ∷ pattern) ≡ mark ∷ pattern
cut_more mark pattern size first second first_is second_is cut =
    rw (first_is, second_is) (ap (λ more. mark ∷ more) cut)

star_after : (pattern : List ℕ) → prefix_len is_plain pattern < length pattern
    → take (prefix_len is_plain pattern) pattern ++ 42 ∷ drop (prefix_len is_plain pattern + 1) pattern ≡ pattern
star_after [] within = absurd (omega arith)
star_after (mark ∷ pattern) within = by (mark == 42) refl within (star_after pattern)
  where
    by : (star : Bool) → (mark == 42) ≡ star → cond (not star) (1 + prefix_len is_plain pattern) 0 < suc (length pattern)
        → (prefix_len is_plain pattern < length pattern
        → take (prefix_len is_plain pattern) pattern ++ 42 ∷ drop (prefix_len is_plain pattern + 1) pattern ≡ pattern)
        → take (cond (not star) (1 + prefix_len is_plain pattern) 0) (mark ∷ pattern)
        ++ 42 ∷ drop (cond (not star) (1 + prefix_len is_plain pattern) 0 + 1) (mark ∷ pattern) ≡ mark ∷ pattern
    by true is within rest = let same = eqb-true mark 42 is in ap (λ first. first ∷ pattern) (sym same)
    by false is within rest =
        cut_more mark pattern (prefix_len is_plain pattern) _ _ (omega arith) (omega arith) (rest (omega arith))

first_by : (pattern name : List ℕ) → prefix_len is_plain pattern < length pattern
    → matches pattern name
    ≡ (fits (take (prefix_len is_plain pattern) pattern) name
    && some_end (matches (drop (prefix_len is_plain pattern + 1) pattern)) (drop (prefix_len is_plain pattern) name))
first_by pattern name within =
    let size = prefix_len is_plain pattern in
    let part = take size pattern in
    let more = drop (size + 1) pattern in
    ap (λ all. matches all name) (sym (star_after pattern within)) ∙ first_part part more name (plain_part pattern)
    ∙ ap (λ n. fits part name && some_end (matches more) (drop n name)) (length-prefix_len is_plain pattern)

-- a pattern with a star: its first part, and what is after the star
pub matched_first : (pattern name : List ℕ) (size : ℕ) → size ≡ prefix_len is_plain pattern → size < length pattern
    → matches pattern name
    ≡ (fits (take size pattern) name && some_end (matches (drop (size + 1) pattern)) (drop size name))
matched_first pattern name size is within = rw is (first_by pattern name (omega arith))

all_plain : (pattern : List ℕ) (size : ℕ) → size ≡ prefix_len is_plain pattern → length pattern ≤ size
    → list_all is_plain pattern ≡ true
all_plain pattern size is past =
    let all : take (prefix_len is_plain pattern) pattern ≡ pattern = take_all (prefix_len is_plain pattern) pattern (omega arith) in
    subst (λ (part : List ℕ). list_all is_plain part ≡ true) all (plain_part pattern)

-- a pattern without one
pub matched_whole : (pattern name : List ℕ) (size : ℕ) → size ≡ prefix_len is_plain pattern → length pattern ≤ size
    → matches pattern name ≡ (fits pattern name && (length pattern == length name))
matched_whole pattern name size is past = whole_part pattern name (all_plain pattern size is past)

-- a walk from star to star: the next part is found, it is not found, and it is the last
pub means_next : (pattern name : List ℕ) (size place : ℕ) (all : Bool) → some_end (matches pattern) name ≡ all
    → size ≡ prefix_len is_plain pattern → size < length pattern → place_from (take size pattern) 0 name ≡ Some place
    → some_end (matches (drop (size + 1) pattern)) (drop (length (take size pattern)) (drop place name)) ≡ all
means_next pattern name size place all walk is within found =
    let part = take size pattern in
    let more = drop (size + 1) pattern in
    let first = first_place part more 0 place name found in
    let later : place ≡ first.later = (let at = first.place_is in omega arith) in
    let len : length part ≡ size = rw is (length-prefix_len is_plain pattern) in
    let same : some_end (matches more) (drop (length part) (drop place name))
    ≡ some_end (matches more) (drop (first.later + length part) name) =
    ap (some_end (matches more)) (drop-drop (length part) place name)
    ∙ ap (λ n. some_end (matches more) (drop (n + length part) name)) later in
    same ∙ sym first.same
    ∙ sym (same_ends (matches pattern) (fit_and part more) name (λ rest. matched_first pattern rest size is within
    ∙ ap (λ n. fits part rest && some_end (matches more) (drop n rest)) (sym len)))
    ∙ walk

pub means_nowhere : (pattern name : List ℕ) (size : ℕ) (all : Bool) → some_end (matches pattern) name ≡ all
    → size ≡ prefix_len is_plain pattern → size < length pattern → place_from (take size pattern) 0 name ≡ None
    → false ≡ all
means_nowhere pattern name size all walk is within found =
    let part = take size pattern in
    let more = drop (size + 1) pattern in
    let len : length part ≡ size = rw is (length-prefix_len is_plain pattern) in
    sym (no_place part more 0 name found)
    ∙ sym (same_ends (matches pattern) (fit_and part more) name (λ rest. matched_first pattern rest size is within
    ∙ ap (λ n. fits part rest && some_end (matches more) (drop n rest)) (sym len)))
    ∙ walk

pub means_last : (pattern name : List ℕ) (size : ℕ) (all : Bool) → some_end (matches pattern) name ≡ all
    → size ≡ prefix_len is_plain pattern → length pattern ≤ size → ends_like pattern name ≡ all
means_last pattern name size all walk is past = sym (last_part pattern name (all_plain pattern size is past)) ∙ walk

-- the first part of a pattern: it stands for no beginning, or the name goes on after it, or it is the whole
pub means_unlike : (pattern name : List ℕ) (size : ℕ) → size ≡ prefix_len is_plain pattern
    → fits (take size pattern) name ≡ false → false ≡ matches pattern name
means_unlike pattern name size is fit = by (cases_lt size (length pattern))
  where
    by : (size < length pattern) ⊎ (length pattern ≤ size) → false ≡ matches pattern name
    by (inl within) =
        sym (matched_first pattern name size is within
        ∙ ap (λ b. b && some_end (matches (drop (size + 1) pattern)) (drop size name)) fit)
    by (inr past) =
        sym (matched_whole pattern name size is past
        ∙ ap (λ part. fits part name && (length pattern == length name)) (sym (take_all size pattern past))
        ∙ ap (λ b. b && (length pattern == length name)) fit)

pub means_after : (pattern name : List ℕ) (size : ℕ) → size ≡ prefix_len is_plain pattern
    → fits (take size pattern) name ≡ true → size < length pattern
    → some_end (matches (drop (size + 1) pattern)) (drop size name) ≡ matches pattern name
means_after pattern name size is fit within =
    sym (matched_first pattern name size is within
    ∙ ap (λ b. b && some_end (matches (drop (size + 1) pattern)) (drop size name)) fit)

pub means_whole : (pattern name : List ℕ) (size : ℕ) → size ≡ prefix_len is_plain pattern
    → fits (take size pattern) name ≡ true → length pattern ≤ size → (length pattern == length name) ≡ matches pattern name
means_whole pattern name size is fit past =
    sym (matched_whole pattern name size is past
    ∙ ap (λ part. fits part name && (length pattern == length name)) (sym (take_all size pattern past))
    ∙ ap (λ b. b && (length pattern == length name)) fit)

place_next : (part : List ℕ) (at i : ℕ) (name : List ℕ) → i < length name → fits part (drop i name) ≡ false
    → place_from part at (drop i name) ≡ place_from part (at + 1) (drop (suc i) name)
place_next part at i [] within fit = absurd (omega arith)
place_next part at zero (byte ∷ name) within fit = rw fit refl
place_next part at (suc i) (byte ∷ name) within fit = place_next part at i name (omega arith) fit

place_here : (part : List ℕ) (at : ℕ) (name : List ℕ) → fits part name ≡ true → place_from part at name ≡ Some at
place_here part at [] fit = rw fit refl
place_here part at (byte ∷ name) fit = rw fit refl

place_last : (part : List ℕ) (at i : ℕ) (name : List ℕ) → length name ≤ i → fits part (drop i name) ≡ false
    → place_from part at (drop i name) ≡ None
place_last part at zero [] past fit = rw fit refl
place_last part at (suc i) [] past fit = rw fit refl
place_last part at zero (byte ∷ name) past fit = absurd (omega arith)
place_last part at (suc i) (byte ∷ name) past fit = place_last part at i name (omega arith) fit

-- a walk for the first place of a part: it is here, it is not here, and there is none
pub part_here : (part name : List ℕ) (i : ℕ) (first : Option ℕ) → place_from part i (drop i name) ≡ first
    → fits part (drop i name) ≡ true → Some i ≡ first
part_here part name i first walk fit = sym (place_here part i (drop i name) fit) ∙ walk

pub part_next : (part name : List ℕ) (i : ℕ) (first : Option ℕ) → place_from part i (drop i name) ≡ first
    → i < length name → fits part (drop i name) ≡ false → place_from part (i + 1) (drop (i + 1) name) ≡ first
part_next part name i first walk within fit =
    let next : suc i ≡ i + 1 = omega arith in
    subst (λ (k : ℕ). place_from part (i + 1) (drop k name) ≡ first) next
    (sym (place_next part i i name within fit) ∙ walk)

pub part_past : (part name : List ℕ) (i : ℕ) (first : Option ℕ) → place_from part i (drop i name) ≡ first
    → length name ≤ i → fits part (drop i name) ≡ false → None ≡ first
part_past part name i first walk past fit = sym (place_last part i i name past fit) ∙ walk

-- the goals of the walk for the first place of a part, of the walk from star to star, and of the first part
pub ruleset part_walk = (part_here, part_next, part_past)

pub ruleset star_walk = (means_next, means_nowhere, means_last)

pub ruleset first_parts = (means_unlike, means_after, means_whole)
