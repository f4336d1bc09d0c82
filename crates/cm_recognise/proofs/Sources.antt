-- What is found in a list comes from an element of it.
-- A lemma over all elements by recursion has the fact as its argument: AllByRecursion-append, AllByRecursion-drop.
use Rattle.std.proofs.Common.{◌≡◌, ℕ, max, Bool, true, false, if◌then◌else◌, ◌⊎◌, inl, inr, List, [], ◌∷◌, Option, Some, None, refl, ap, arith, ◌∙◌}
use Rattle.std.specs.List.{cons_option, filter_map, list_all, list_any}
use Rattle.std.specs.Str.{bytes_eq}
use Rattle.std.proofs.lemmas.Bool.{and_parts, or_left, or_right}
use Rattle.cm_lists.proofs.Numbers.{cases_max}
use Rattle.cm_tables.specs.Common.{shared}
use Rattle.cm_recognise.specs.declared.found.Found.TheVariants.{Nobody, One, Several}
use Rattle.cm_recognise.specs.Candidates.{gather, greater, with_text}

-- an element of a list that gives this: it passes what all of the list pass, and what it passes some of the list does
pub record Comes (X Y : Type 0) (f : X → Option Y) (xs : List X) (y : Y) : Type 0 where
  pub x : X
  pub gives : f x ≡ Some y
  pub all : (test : X → Bool) → list_all test xs ≡ true → test x ≡ true
  pub any : (test : X → Bool) → test x ≡ true → list_any test xs ≡ true

comes_first : (X Y : Type 0) (f : X → Option Y) (x : X) (xs : List X) (y : Y) → f x ≡ Some y → Comes X Y f (x ∷ xs) y
comes_first X Y f x xs y gives =
    record {
      x = x;
      gives = gives;
      all = λ test passes. (and_parts (test x) (list_all test xs) passes).0;
      any = λ test passes. or_left (test x) (list_any test xs) passes;
    }

comes_later : (X Y : Type 0) (f : X → Option Y) (first : X) (xs : List X) (y : Y) → Comes X Y f xs y → Comes X Y f (first ∷ xs) y
comes_later X Y f first xs y comes =
    record {
      x = comes.x;
      gives = comes.gives;
      all = λ test passes. comes.all test (and_parts (test first) (list_all test xs) passes).1;
      any = λ test passes. or_right (test first) (list_any test xs) (comes.any test passes);
    }

-- several texts stay several, and the first of one stays
several_stay : (texts : List (List ℕ)) (front text : List ℕ) → gather with_text (Several front) texts ≡ One text → ⊥
several_stay [] front text is = cc
several_stay (next ∷ texts) front text is = several_stay texts (shared front next) text is

one_stays : (texts : List (List ℕ)) (found text : List ℕ) → gather with_text (One found) texts ≡ One text → found ≡ text
one_stays [] found text is = cc
one_stays (next ∷ texts) found text is =
    by (bytes_eq found next) (one_stays texts found text) (several_stay texts (shared found next) text) is
  where
    by : (same : Bool) → (gather with_text (One found) texts ≡ One text → found ≡ text)
        → (gather with_text (Several (shared found next)) texts ≡ One text → ⊥)
        → gather with_text (if same then One found else Several (shared found next)) texts ≡ One text → found ≡ text
    by true rest never is = rest is
    by false rest never is = absurd (never is)

-- the one text that is found
pub found_comes : (X : Type 0) (f : X → Option (List ℕ)) (xs : List X) (text : List ℕ)
    → gather with_text Nobody (filter_map f xs) ≡ One text → Comes X (List ℕ) f xs text
found_comes X f [] text is = cc
found_comes X f (x ∷ xs) text is = by (f x) refl is (found_comes X f xs text)
  where
    by : (given : Option (List ℕ)) → f x ≡ given → gather with_text Nobody (cons_option given (filter_map f xs)) ≡ One text
        → (gather with_text Nobody (filter_map f xs) ≡ One text → Comes X (List ℕ) f xs text) → Comes X (List ℕ) f (x ∷ xs) text
    by None gives is rest = comes_later X (List ℕ) f x xs text (rest is)
    by (Some first) gives is rest =
        comes_first X (List ℕ) f x xs text (gives ∙ ap Some (one_stays (filter_map f xs) first text is))

most_comes : (X : Type 0) (f : X → Option ℕ) (xs : List X) (most number : ℕ)
    → gather greater (Some most) (filter_map f xs) ≡ Some number → (most ≡ number) ⊎ Comes X ℕ f xs number
most_comes X f [] most number is = inl (cc)
most_comes X f (x ∷ xs) most number is = by (f x) refl is (λ most. most_comes X f xs most number)
  where
    later : (most ≡ number) ⊎ Comes X ℕ f xs number → (most ≡ number) ⊎ Comes X ℕ f (x ∷ xs) number
    later (inl same) = inl same
    later (inr comes) = inr (comes_later X ℕ f x xs number comes)

    either : (first : ℕ) → f x ≡ Some first → (max most first ≡ most) ⊎ (max most first ≡ first)
        → (max most first ≡ number) ⊎ Comes X ℕ f xs number → (most ≡ number) ⊎ Comes X ℕ f (x ∷ xs) number
    either first gives greatest (inr comes) = inr (comes_later X ℕ f x xs number comes)
    either first gives (inl same) (inl is) = inl (omega arith)
    either first gives (inr same) (inl is) =
        let equal : first ≡ number = omega arith in
        inr (comes_first X ℕ f x xs number (gives ∙ ap Some equal))

    by : (given : Option ℕ) → f x ≡ given → gather greater (Some most) (cons_option given (filter_map f xs)) ≡ Some number
        → ((most : ℕ) → gather greater (Some most) (filter_map f xs) ≡ Some number → (most ≡ number) ⊎ Comes X ℕ f xs number)
        → (most ≡ number) ⊎ Comes X ℕ f (x ∷ xs) number
    by None gives is rest = later (rest most is)
    by (Some first) gives is rest = either first gives (cases_max most first) (rest (max most first) is)

-- the highest number that is found
pub highest_comes : (X : Type 0) (f : X → Option ℕ) (xs : List X) (number : ℕ)
    → gather greater None (filter_map f xs) ≡ Some number → Comes X ℕ f xs number
highest_comes X f [] number is = cc
highest_comes X f (x ∷ xs) number is = by (f x) refl is (highest_comes X f xs number)
  where
    either : (first : ℕ) → f x ≡ Some first → (first ≡ number) ⊎ Comes X ℕ f xs number → Comes X ℕ f (x ∷ xs) number
    either first gives (inl same) = comes_first X ℕ f x xs number (gives ∙ ap Some same)
    either first gives (inr comes) = comes_later X ℕ f x xs number comes

    by : (given : Option ℕ) → f x ≡ given → gather greater None (cons_option given (filter_map f xs)) ≡ Some number
        → (gather greater None (filter_map f xs) ≡ Some number → Comes X ℕ f xs number) → Comes X ℕ f (x ∷ xs) number
    by None gives is rest = comes_later X ℕ f x xs number (rest is)
    by (Some first) gives is rest = either first gives (most_comes X f xs first number is)
