-- The search for the fields of a role.
-- The first field of a role is find, which first_is makes of the filter. The walk over the fields by number has
-- slice_get (fields_of wanted (drop at fields)) left in its invariant, and counts left down.
use Rattle.std.proofs.Common.{◌≡◌, ℕ, suc, ◌+◌, Bool, true, false, cond, List, [], ◌∷◌, drop, Option, Some, refl, sym, ap, ◌∙◌}
use Rattle.std.specs.List.{filter, find, slice_get}
use Rattle.cm_lists.proofs.Elements.{drop_at_some}
use Rattle.cm_blocks.specs.declared.function.Role.{Role}
use Rattle.cm_blocks.specs.FieldView.{FieldView}
use Rattle.cm_state.specs.Roles.{field_of, fields_of, is_role}

-- the first element that passes a test is the first of all that do
find_is_first : {X : Type 0} (test : X → Bool) (xs : List X) → find test xs ≡ slice_get (filter test xs) 0
find_is_first test [] = refl
find_is_first {X} test (x ∷ xs) = by (test x) (find_is_first test xs)
  where
    by : (b : Bool) → find test xs ≡ slice_get (filter test xs) 0
        → cond b (Some x) (find test xs) ≡ slice_get (cond b (x ∷ filter test xs) (filter test xs)) 0
    by true rest = refl
    by false rest = rest

pub first_is : (wanted : Role) (fields : List FieldView) (found : Option FieldView)
    → found ≡ slice_get (fields_of wanted fields) 0 → found ≡ field_of wanted fields
first_is wanted fields found is = is ∙ sym (find_is_first (λ (field : FieldView). is_role wanted field.role) fields)

-- of the fields from a number on, those of a role begin with that one, where it has the role, and else they stand
-- after it
begins : (wanted : Role) (fields : List FieldView) (number : ℕ) (field : FieldView) (role : Role) (same : Bool)
    → slice_get fields number ≡ Some field → role ≡ field.role → is_role wanted role ≡ same
    → fields_of wanted (drop number fields)
    ≡ cond same (field ∷ fields_of wanted (drop (number + 1) fields)) (fields_of wanted (drop (number + 1) fields))
begins wanted fields number field role same is has test =
    let wants : is_role wanted field.role ≡ same = sym (ap (λ (it : Role). is_role wanted it) has) ∙ test in
    ap (λ (rest : List FieldView). fields_of wanted rest) (drop_at_some fields number field is)
    ∙ ap (λ (b : Bool). cond b (field ∷ fields_of wanted (drop (number + 1) fields))
    (fields_of wanted (drop (number + 1) fields))) wants

pub passed : (wanted : Role) (fields : List FieldView) (number left : ℕ) (field : FieldView) (role : Role)
    (sought : Option FieldView)
    → slice_get fields number ≡ Some field → role ≡ field.role → is_role wanted role ≡ false
    → slice_get (fields_of wanted (drop number fields)) left ≡ sought
    → slice_get (fields_of wanted (drop (number + 1) fields)) left ≡ sought
passed wanted fields number left field role sought is has other so_far =
    ap (λ (them : List FieldView). slice_get them left)
    (sym (begins wanted fields number field role false is has other)) ∙ so_far

-- it is the one that is sought, or those after it are searched for one fewer
pub found : (wanted : Role) (fields : List FieldView) (number left : ℕ) (field : FieldView) (role : Role)
    (sought : Option FieldView)
    → slice_get fields number ≡ Some field → role ≡ field.role → is_role wanted role ≡ true → left ≡ 0
    → slice_get (fields_of wanted (drop number fields)) left ≡ sought
    → Some field ≡ sought
found wanted fields number left field role sought is has same none so_far =
    ap (λ (place : ℕ). slice_get (field ∷ fields_of wanted (drop (number + 1) fields)) place) (sym none)
    ∙ ap (λ (them : List FieldView). slice_get them left)
    (sym (begins wanted fields number field role true is has same)) ∙ so_far

pub counted : (wanted : Role) (fields : List FieldView) (number left less : ℕ) (field : FieldView) (role : Role)
    (sought : Option FieldView)
    → slice_get fields number ≡ Some field → role ≡ field.role → is_role wanted role ≡ true → left ≡ suc less
    → slice_get (fields_of wanted (drop number fields)) left ≡ sought
    → slice_get (fields_of wanted (drop (number + 1) fields)) less ≡ sought
counted wanted fields number left less field role sought is has same more so_far =
    ap (λ (place : ℕ). slice_get (field ∷ fields_of wanted (drop (number + 1) fields)) place) (sym more)
    ∙ ap (λ (them : List FieldView). slice_get them left)
    (sym (begins wanted fields number field role true is has same)) ∙ so_far
