-- The last field that a node took.
use Rattle.std.proofs.Common.{◌≡◌, ℕ, zero, suc, ◌+◌, ◌==◌, Bool, true, false, if◌then◌else◌, List, [], ◌∷◌, drop, slice_get, Option, Some, None, refl, ap, sym, subst, ◌∙◌, arith}
use Rattle.std.specs.Option.{option_or}
use Rattle.cm_blocks.specs.FieldView.{FieldView}
use Rattle.cm_blocks.specs.Parse.{Follow}
use Rattle.cm_blocks.specs.Setting.{Setting}
use Rattle.ex_commands.specs.Line.{last_at}
use Rattle.cm_blocks.proofs.Fields.{IsTried, chain_tried}

-- what is found from a place on is found in all
last_whole : (node k : ℕ) (fields : List FieldView) (found : FieldView) → last_at node (drop k fields) ≡ Some found
    → last_at node fields ≡ Some found
last_whole node zero fields found is = is
last_whole node (suc k) [] found is = is
last_whole node (suc k) (field ∷ more) found is = let later = last_whole node k more found is in rw later refl

-- a field of another node
pub last_other : (node : ℕ) (fields : List FieldView) (k n : ℕ) (field : FieldView) → n ≡ k + 1 → slice_get fields k ≡ Some field
    → (field.node == node) ≡ false → last_at node (drop n fields) ≡ None → last_at node (drop k fields) ≡ None
last_other node [] k n field one there other none = cc
last_other node (first ∷ fields) zero n field one there other none =
    let same : first ≡ field = cc in
    let test : (first.node == node) ≡ false = ap (λ (it : FieldView). it.node == node) same ∙ other in
    let rest : last_at node fields ≡ None = sym (ap (λ (m : ℕ). last_at node (drop m (first ∷ fields))) one) ∙ none in
    rw (rest, test) refl
last_other node (first ∷ fields) (suc k) n field one there other none =
    let step : n ≡ suc (k + 1) = omega arith in
    last_other node fields k (k + 1) field refl there other
    (sym (ap (λ (m : ℕ). last_at node (drop m (first ∷ fields))) step) ∙ none)

-- a field of the node, after which there is none
last_here : (node : ℕ) (fields : List FieldView) (k n : ℕ) (field : FieldView) → n ≡ k + 1 → slice_get fields k ≡ Some field
    → (field.node == node) ≡ true → last_at node (drop n fields) ≡ None → last_at node (drop k fields) ≡ Some field
last_here node [] k n field one there is none = cc
last_here node (first ∷ fields) zero n field one there is none =
    let same : first ≡ field = cc in
    let test : (first.node == node) ≡ true = ap (λ (it : FieldView). it.node == node) same ∙ is in
    let rest : last_at node fields ≡ None = sym (ap (λ (m : ℕ). last_at node (drop m (first ∷ fields))) one) ∙ none in
    rw (rest, test) (ap (λ (it : FieldView). Some it) same)
last_here node (first ∷ fields) (suc k) n field one there is none =
    let step : n ≡ suc (k + 1) = omega arith in
    last_here node fields k (k + 1) field refl there is
    (sym (ap (λ (m : ℕ). last_at node (drop m (first ∷ fields))) step) ∙ none)

pub last_found : (node : ℕ) (fields : List FieldView) (k n : ℕ) (field : FieldView) → n ≡ k + 1 → slice_get fields k ≡ Some field
    → (field.node == node) ≡ true → last_at node (drop n fields) ≡ None → last_at node fields ≡ Some field
last_found node fields k n field one there is none =
    last_whole node k fields field (last_here node fields k n field one there is none)

-- it is one that a block of that node took
pub last_tried : (s : Setting) (text : List ℕ) (node at wanted : ℕ) (fields : List FieldView) (field : FieldView)
    → Follow s text node at fields → last_at wanted fields ≡ Some field → IsTried s text field × ((field.node == wanted) ≡ true)
last_tried s text node at wanted [] field follow is = cc
last_tried s text node at wanted (first ∷ fields) field follow is =
    by (last_at wanted fields) (first.node == wanted) refl refl is
    (λ found. last_tried s text first.next first.end wanted fields field follow.1 found)
  where
    by : (later : Option FieldView) (test : Bool) → last_at wanted fields ≡ later → (first.node == wanted) ≡ test
        → option_or later (if test then Some first else None) ≡ Some field
        → (last_at wanted fields ≡ Some field → IsTried s text field × ((field.node == wanted) ≡ true))
        → IsTried s text field × ((field.node == wanted) ≡ true)
    by (Some it) test found named all tried = tried (found ∙ all)
    by None true found named all tried =
        let same : first ≡ field = cc in
        subst (λ (it : FieldView). IsTried s text it × ((it.node == wanted) ≡ true)) same (chain_tried s node text at first follow.0, named)
    by None false found named all tried = cc
