-- The records of a list, one after the other.
use Rattle.std.proofs.Common.{◌≡◌, ℕ, true, List, [], ◌∷◌, ◌++◌, map, refl, ap, subst, sym, ◌∙◌, append_assoc}
use Rattle.std.proofs.lemmas.List.{append-nil}
use Rattle.ex_image.specs.declared.tag.Tag.{Tag}
use Rattle.ex_image.specs.Grammar.{Leads, MayStand}
use Rattle.ex_image.specs.Reading.{Reading, may_follow, with_record}
use Rattle.ex_image.specs.Record.{Entry}

-- which record is the last after those of a list
abbrev pub after_all : {X : Type 0} → Tag → Tag → List X → Tag
after_all last own [] = last
after_all last own (x ∷ xs) = after_all own own xs

-- what holds of both that may be the last holds of the last
pub of_last : {X : Type 0} (P : Tag → Type 0) (last own : Tag) (xs : List X) → P last → P own
    → P (after_all last own xs)
of_last P last own [] first second = first
of_last P last own (x ∷ xs) first second = of_last P own own xs second second

-- how the records of a list are read: what is read so far is the list as far as it was read
pub record IsRun {X : Type 0} (all : List X) (at : Tag → List X → Reading) (written : X → Entry × List ℕ) (own : Tag)
    : Type 0 where
  pub again : may_follow own own ≡ true
  pub step : (last : Tag) (before : List X) (x : X)
      → with_record (at last before) (written x) ≡ at own (before ++ x ∷ [])
  pub stands : (last : Tag) (before : List X) (x : X) (more : List X) → all ≡ before ++ x ∷ more
      → may_follow last own ≡ true → MayStand (at last before) (written x)

run_from : {X : Type 0} (all : List X) (at : Tag → List X → Reading) (written : X → Entry × List ℕ) (own : Tag)
    → IsRun all at written own → (last : Tag) (before rest : List X) → all ≡ before ++ rest → may_follow last own ≡ true
    → Leads (at last before) (map written rest) (at (after_all last own rest) all)
run_from all at written own run last before [] same place = ap (at last) (same ∙ append-nil before)
run_from all at written own run last before (x ∷ rest) same place = (
  run.stands last before x rest same place,
  subst (λ from. Leads from (map written rest) (at (after_all own own rest) all)) (sym (run.step last before x))
      (run_from all at written own run own (before ++ x ∷ []) rest (same ∙ sym (append_assoc before (x ∷ []) rest))
      run.again),
)

-- so all of them are read
pub run_leads : {X : Type 0} (all : List X) (at : Tag → List X → Reading) (written : X → Entry × List ℕ) (own : Tag)
    → IsRun all at written own → (last : Tag) → may_follow last own ≡ true
    → Leads (at last []) (map written all) (at (after_all last own all) all)
run_leads all at written own run last place = run_from all at written own run last [] all refl place
