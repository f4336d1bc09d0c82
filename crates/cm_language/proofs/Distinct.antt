-- Lists in which no two are the same.
use Rattle.std.proofs.Common.{◌≡◌, ℕ, ◌<◌, true, false, Bool, ◌||◌, if◌then◌else◌, List, [], ◌∷◌, ◌++◌, fold, length, refl, sym, ap, ◌∙◌, arith, slice_get, zero, suc}
use Rattle.std.specs.Cmp.{IsEquivalence}
use Rattle.std.specs.List.{list_any}
use Rattle.std.proofs.Math.Bool.{or_assoc}
use Rattle.std.proofs.lemmas.List.{append-nil, append_assoc}
use Rattle.std.proofs.lemmas.List.Folds.{list_any-append}
use Rattle.std.proofs.lemmas.Map.Steps.{list_any_congr}
use Rattle.cm_lists.proofs.Bools.{or-false, or_absorbs}
use Rattle.cm_language.specs.Groups.{distinct, with_new}

chosen : {A : Type 0} {same : A → A → Bool} (laws : IsEquivalence same) (made : List A) (one q : A) (test : Bool)
    → list_any (same one) made ≡ test
    → list_any (same q) (if test then made else made ++ one ∷ []) ≡ (list_any (same q) made || same q one)
chosen {A} {same} laws made one q true is =
    sym (or_absorbs (list_any (same q) made) (same q one) (λ here. list_any_congr laws q one made here ∙ is))
chosen {A} {same} laws made one q false is =
    list_any-append (same q) made (one ∷ []) ∙ ap (λ it. list_any (same q) made || it) (or-false (same q one))

-- what is there once all of a list were put to another, each where none was the same
pub any-fold_new : {A : Type 0} {same : A → A → Bool} (laws : IsEquivalence same) (q : A) (made ones : List A)
    → list_any (same q) (fold (with_new same) made ones) ≡ (list_any (same q) made || list_any (same q) ones)
any-fold_new {A} {same} laws q made [] = sym (or-false (list_any (same q) made))
any-fold_new {A} {same} laws q made (one ∷ ones) =
    any-fold_new laws q (with_new same made one) ones
    ∙ ap (λ it. it || list_any (same q) ones) (chosen laws made one q (list_any (same one) made) refl)
    ∙ or_assoc (list_any (same q) made) (same q one) (list_any (same q) ones)

pub any-distinct : {A : Type 0} {same : A → A → Bool} (laws : IsEquivalence same) (q : A) (ones : List A)
    → list_any (same q) (distinct same ones) ≡ list_any (same q) ones
any-distinct laws q ones = any-fold_new laws q [] ones

-- the second list begins with the first
abbrev pub Begins : {A : Type 0} → List A → List A → Type 0
Begins {A} made more = (rest : List A) × (more ≡ made ++ rest)

pub begins_own : {A : Type 0} (made : List A) → Begins made made
begins_own made = ([], sym (append-nil made))

pub begins_on : {A : Type 0} (made more most : List A) → Begins made more → Begins more most → Begins made most
begins_on made more most first second =
    (first.0 ++ second.0, second.1 ∙ ap (λ it. it ++ second.0) first.1 ∙ append_assoc made first.0 second.0)

new_begins : {A : Type 0} (made : List A) (one : A) (test : Bool)
    → Begins made (if test then made else made ++ one ∷ [])
new_begins made one true = begins_own made
new_begins made one false = (one ∷ [], refl)

pub fold_begins : {A : Type 0} (same : A → A → Bool) (made ones : List A) → Begins made (fold (with_new same) made ones)
fold_begins same made [] = begins_own made
fold_begins same made (one ∷ ones) =
    begins_on made (with_new same made one) _ (new_begins made one (list_any (same one) made))
    (fold_begins same (with_new same made one) ones)

-- what a list has, one has that begins with it
pub any_kept : {A : Type 0} (test : A → Bool) (made more : List A) → Begins made more → list_any test made ≡ true
    → list_any test more ≡ true
any_kept test made more begins has =
    ap (list_any test) begins.1 ∙ list_any-append test made begins.0 ∙ ap (λ it. it || list_any test begins.0) has

get_append : {A : Type 0} (made rest : List A) (at : ℕ) → at < length made → slice_get (made ++ rest) at ≡ slice_get made at
get_append [] rest at within = absurd (omega (arith, within))
get_append (one ∷ made) rest zero within = refl
get_append (one ∷ made) rest (suc at) within = get_append made rest at (omega (arith, within))

pub get_kept : {A : Type 0} (made more : List A) → Begins made more → (at : ℕ) → at < length made
    → slice_get more at ≡ slice_get made at
get_kept made more begins at within =
    ap (λ it. slice_get it at) begins.1 ∙ get_append made begins.0 at within
