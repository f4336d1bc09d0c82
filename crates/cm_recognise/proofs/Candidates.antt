-- What is found among texts: none, the one that all of them are, or what several share.
-- Four searches over candidates are one word (found_of).
use Rattle.std.proofs.Common.{◌≡◌, ◌≢◌, ℕ, Bool, true, false, if◌then◌else◌, List, [], ◌∷◌, refl, sym, ◌∙◌, subst}
use Rattle.std.specs.Io.{StartsWith}
use Rattle.std.specs.List.{AllByRecursion, fold}
use Rattle.std.specs.Str.{bytes_eq}
use Rattle.std.proofs.lemmas.Slice.Eq.{bytes_eq-Decides}
use Rattle.cm_tables.specs.Common.{AllBeginWith, shared}
use Rattle.cm_tables.proofs.ShareLemmas.{fold-all, fold-first, fold-longest}
use Rattle.cm_recognise.specs.declared.found.Found.TheVariants.{Nobody, One, Several}
use Rattle.cm_recognise.specs.Candidates.{found_of, gather, with_text}

abbrev AreAll : List ℕ → List (List ℕ) → Type 0
AreAll text texts = AllByRecursion (λ other. other ≡ text) texts

-- several stay several
several_fold : (front : List ℕ) (texts : List (List ℕ))
    → gather with_text (Several front) texts ≡ Several (fold shared front texts)
several_fold front [] = refl
several_fold front (text ∷ more) = several_fold (shared front text) more

-- one stays as long as all are that one
one_stays : (text : List ℕ) (texts : List (List ℕ)) → AreAll text texts → gather with_text (One text) texts ≡ One text
one_stays text [] all = refl
one_stays text (other ∷ more) all =
    let same : bytes_eq text other ≡ true = (bytes_eq-Decides text other).1 (sym all.0) in
    rw same (one_stays text more all.1)

-- and no longer
one_stayed : (first text : List ℕ) (texts : List (List ℕ)) → gather with_text (One first) texts ≡ One text
    → (first ≡ text) × AreAll text texts
one_stayed first text [] is = (cc, tt)
one_stayed first text (other ∷ more) is = by (bytes_eq first other) refl (one_stayed first text more) is
  where
    by : (test : Bool) → bytes_eq first other ≡ test
        → (gather with_text (One first) more ≡ One text → (first ≡ text) × AreAll text more)
        → gather with_text (if test then One first else Several (shared first other)) more ≡ One text
        → (first ≡ text) × AreAll text (other ∷ more)
    by true same later is =
        let rest = later is in
        let equal : first ≡ other = (bytes_eq-Decides first other).0 same in
        (rest.0, (sym equal ∙ rest.0, rest.1))
    by false differ later is = let several = several_fold (shared first other) more in cc

-- what is found once is not lost
found_stays : (first : List ℕ) (texts : List (List ℕ)) → gather with_text (One first) texts ≡ Nobody → ⊥
found_stays first [] is = cc
found_stays first (other ∷ more) is = by (bytes_eq first other) (found_stays first more) is
  where
    by : (test : Bool) → (gather with_text (One first) more ≡ Nobody → ⊥)
        → gather with_text (if test then One first else Several (shared first other)) more ≡ Nobody → ⊥
    by true later is = later is
    by false later is = let several = several_fold (shared first other) more in cc

-- all of them begin so, and it begins with all that they begin with
abbrev IsLongest : List (List ℕ) → List ℕ → Type 0
IsLongest texts front =
    AllBeginWith texts front × ((other : List ℕ) → AllBeginWith texts other → StartsWith front other)

several_share : (first front : List ℕ) (texts : List (List ℕ)) → gather with_text (One first) texts ≡ Several front
    → IsLongest (first ∷ texts) front
several_share first front [] is = cc
several_share first front (other ∷ more) is = by (bytes_eq first other) refl (several_share first front more) is
  where
    by : (test : Bool) → bytes_eq first other ≡ test
        → (gather with_text (One first) more ≡ Several front → IsLongest (first ∷ more) front)
        → gather with_text (if test then One first else Several (shared first other)) more ≡ Several front
        → IsLongest (first ∷ other ∷ more) front
    by true same later is =
        let rest = later is in
        let equal : first ≡ other = (bytes_eq-Decides first other).0 same in
        let begins = subst (λ (text : List ℕ). StartsWith text front) equal rest.0.0 in
        ((rest.0.0, (begins, rest.0.1)), λ text all. rest.1 text (all.0, all.1.1))
    by false differ later is =
        let several = several_fold (shared first other) more in
        let joined : fold shared first (other ∷ more) ≡ front = cc in
        subst (IsLongest (first ∷ other ∷ more)) joined (
          (fold-first first (other ∷ more), fold-all first (other ∷ more)),
          λ text all. fold-longest first (other ∷ more) text all.0 all.1,
        )

pub nobody_is_found : (texts : List (List ℕ)) → found_of texts ≡ Nobody → texts ≡ []
nobody_is_found [] is = refl
nobody_is_found (text ∷ more) is = absurd (found_stays text more is)

pub one_is_found : (texts : List (List ℕ)) (text : List ℕ) → texts ≢ [] → AreAll text texts → found_of texts ≡ One text
one_is_found [] text some all = absurd (some refl)
one_is_found (first ∷ more) text some all =
    subst (λ (first : List ℕ). gather with_text (One first) more ≡ One text) (sym all.0) (one_stays text more all.1)

pub found_is_all : (texts : List (List ℕ)) (text : List ℕ) → found_of texts ≡ One text
    → (texts ≢ []) × AreAll text texts
found_is_all [] text is = cc
found_is_all (first ∷ more) text is = let rest = one_stayed first text more is in ((λ empty. cc), (rest.0, rest.1))

share_longest : (texts : List (List ℕ)) (front : List ℕ) → found_of texts ≡ Several front → IsLongest texts front
share_longest [] front is = cc
share_longest (first ∷ more) front is = several_share first front more is

pub share_begins : (texts : List (List ℕ)) (front : List ℕ) → found_of texts ≡ Several front
    → AllBeginWith texts front
share_begins texts front is = (share_longest texts front is).0

pub share_is_longest : (texts : List (List ℕ)) (front other : List ℕ) → found_of texts ≡ Several front
    → AllBeginWith texts other → StartsWith front other
share_is_longest texts front other is all = (share_longest texts front is).1 other all
