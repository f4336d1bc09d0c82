-- The commands that a word may mean, by the letters that it begins with.
-- A begun word is a test over the table (passes).
use Rattle.std.proofs.Common.{◌≡◌, ℕ, Bool, true, false, cond, not, ◌&&◌, ◌||◌, List, [], ◌∷◌, ◌++◌, Some, refl, ap, sym, ◌∙◌}
use Rattle.std.specs.List.{enumerate_from, filter, list_all}
use Rattle.std.proofs.lemmas.Bool.{and_parts, not-true}
use Rattle.cm_lists.proofs.Bools.{second_of_or}
use Rattle.cm_text.specs.BeginLaws.{begins_longer}
use Rattle.cm_text.specs.Case.{begins_with}
use Rattle.cm_tables.specs.declared.entry.Entry.{Entry}
use Rattle.cm_tables.specs.declared.entry.Flag.{Flag}
use Rattle.cm_tables.specs.declared.entry.Flag.TheVariants.{Plain, Invisible, NoRecognise, Short}
use Rattle.cm_tables.specs.Look.{by_equal, candidates, equal_entries, exact, found_at, is_recognised, look}
use Rattle.cm_tables.proofs.FoundLemmas.{begins_of_equals}
use Rattle.cm_blocks.specs.Keyword.{code_at}

-- the first of those that pass a test passes it, and what all pass
first_of : {A : Type 0} (f test : A → Bool) (xs : List A) (e : A) (more : List A) → filter f xs ≡ e ∷ more → list_all test xs ≡ true
    → (f e ≡ true) × (test e ≡ true)
first_of f test [] e more is all = absurd (cc)
first_of {A} f test (x ∷ xs) e more is all =
    by (f x) refl is (λ later. first_of f test xs e more later (and_parts (test x) (list_all test xs) all).1) where
      by : (keeps : Bool) → f x ≡ keeps → cond keeps (x ∷ filter f xs) (filter f xs) ≡ e ∷ more
          → (filter f xs ≡ e ∷ more → (f e ≡ true) × (test e ≡ true)) → (f e ≡ true) × (test e ≡ true)
      by true keeps is again =
          let same : x ≡ e = cc in (ap f (sym same) ∙ keeps, ap test (sym same) ∙ (and_parts (test x) (list_all test xs) all).0)
      by false keeps is again = again is

-- it stands for another
abbrev is_short : Flag → Bool
is_short (Short target) = true
is_short flag = false

-- an entry that begins with these letters stands for itself, and its code passes
abbrev pub passes : (ℕ → Bool) → List Entry → List ℕ → ℕ × Entry → Bool
passes good table front e = not (begins_with e.1.text front) || (not (is_short e.1.flag) && good (code_at table e.0))

begins_front : (text front run : List ℕ) → begins_with text (front ++ run) ≡ true → begins_with text front ≡ true
begins_front text front run is = by (begins_with text front) refl where
  by : (test : Bool) → begins_with text front ≡ test → begins_with text front ≡ true
  by true same = same
  by false same = let both : true ≡ false = sym is ∙ begins_longer text front run same in absurd (cc)

module _ (good : ℕ → Bool) (table : List Entry) (front run : List ℕ)
    (all : list_all (passes good table front) (enumerate_from 0 table) ≡ true) where
  begun : (e : ℕ × Entry) → passes good table front e ≡ true → begins_with e.1.text (front ++ run) ≡ true
      → (is_short e.1.flag ≡ false) × (good (code_at table e.0) ≡ true)
  begun e passed begins =
      let none : not (begins_with e.1.text front) ≡ false = ap not (begins_front e.1.text front run begins) in
      let after = second_of_or (not (begins_with e.1.text front)) (not (is_short e.1.flag) && good (code_at table e.0)) none passed in
      let both = and_parts (not (is_short e.1.flag)) (good (code_at table e.0)) after in
      (not-true (is_short e.1.flag) both.0, both.1)

  exactly : (place : ℕ) (flag : Flag) (at : ℕ) → is_short flag ≡ false → good (code_at table at) ≡ true → found_at (exact at flag) ≡ Some place
      → good (code_at table place) ≡ true
  exactly place Plain at short is found = let same : at ≡ place = cc in ap (λ (n : ℕ). good (code_at table n)) (sym same) ∙ is
  exactly place Invisible at short is found = let same : at ≡ place = cc in ap (λ (n : ℕ). good (code_at table n)) (sym same) ∙ is
  exactly place NoRecognise at short is found = absurd (cc)
  exactly place (Short target) at short is found = absurd (cc)

  -- what a word means that begins so has such a code
  pub found_good : (place : ℕ) → found_at (look table (front ++ run)) ≡ Some place → good (code_at table place) ≡ true
  unfolding look
  found_good place is = by (equal_entries table (front ++ run)) (candidates table (front ++ run)) refl refl is where
    by : (equal cands : List (ℕ × Entry)) → equal_entries table (front ++ run) ≡ equal → candidates table (front ++ run) ≡ cands
        → found_at (by_equal equal cands) ≡ Some place → good (code_at table place) ≡ true
    by [] [] e c is = absurd (cc)
    by [] (one ∷ []) e c is =
        let it = first_of _ (passes good table front) (enumerate_from 0 table) one [] c all in
        let fact = begun one it.1 (and_parts (is_recognised one.1.flag) (begins_with one.1.text (front ++ run)) it.0).1 in
        let same : one.0 ≡ place = cc in
        ap (λ (n : ℕ). good (code_at table n)) (sym same) ∙ fact.1
    by [] (one ∷ other ∷ more) e c is = absurd (cc)
    by (one ∷ more) cands e c is =
        let it = first_of _ (passes good table front) (enumerate_from 0 table) one more e all in
        let fact = begun one it.1 (begins_of_equals one.1.text (front ++ run) it.0) in
        exactly place one.1.flag one.0 fact.0 fact.1 is
