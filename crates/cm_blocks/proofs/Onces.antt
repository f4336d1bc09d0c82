-- No option stands twice in a line.
use Rattle.std.proofs.Common.{◌≡◌, ℕ, Bool, true, false, if◌then◌else◌, List, [], ◌∷◌, ◌++◌, map, Option, Some, None, refl, ap, subst, ◌∙◌, append_assoc, append-nil, ◌||◌}
use Rattle.std.specs.List.{list_any}
use Rattle.cm_fields.specs.declared.code.Code.TheVariants.{Repeated}
use Rattle.cm_blocks.specs.declared.field.Chain.{Chain}
use Rattle.cm_blocks.specs.declared.field.Chain.TheVariants as chain
use Rattle.cm_blocks.specs.declared.field.Ending.TheVariants as ending
use Rattle.cm_blocks.specs.FieldView.{FieldView}
use Rattle.cm_blocks.specs.Grammar.{Graph}
use Rattle.cm_blocks.specs.Once.{AreApart, fields_at, is_option, is_option_at, is_used, repeats, unless_repeated}
use Rattle.cm_blocks.specs.Parse.{ending_of}

-- the field of a place is an option, or one of those that the places have
pub used_among : (graph : Graph) (places : List (Option FieldView)) (table entry : ℕ)
    → list_any (is_option_at graph table entry) places ≡ is_used graph (fields_at places) table entry
unfolding is_used
used_among graph [] table entry = refl
used_among graph (None ∷ more) table entry = used_among graph more table entry
used_among graph (Some field ∷ more) table entry =
    ap (λ later. is_option graph table entry field || later) (used_among graph more table entry)

-- where each place has a field these are all
pub fields_of_all : (fields : List FieldView) → fields_at (map (λ field. Some field) fields) ≡ fields
fields_of_all [] = refl
fields_of_all (field ∷ fields) = ap (λ rest. field ∷ rest) (fields_of_all fields)

-- a field that is let through, and that it is no repetition
pub record Stands (graph : Graph) (before : List FieldView) (answer : Chain) (field : FieldView) : Type 0 where
  pub is : answer ≡ chain.Field field
  pub once : repeats graph before field ≡ false

pub stands : (graph : Graph) (before : List FieldView) (answer : Chain) (field : FieldView)
    → unless_repeated graph before answer ≡ chain.Field field → Stands graph before answer field
stands graph before (chain.Field found) field is = by (repeats graph before found) refl is
  where
    by : (test : Bool) → repeats graph before found ≡ test
        → (if test then chain.Fault (record { code = Repeated; node = found.node; at = found.start }) else chain.Field found)
        ≡ chain.Field field → Stands graph before (chain.Field found) field
    by true repeated is = cc
    by false apart is =
        let same : found ≡ field = cc in
        record { is = is; once = subst (λ (it : FieldView). repeats graph before it ≡ false) same apart }
stands graph before (chain.Done place) field is = cc
stands graph before (chain.Fault fault) field is = cc
stands graph before (chain.Open place) field is = cc

-- a field that is no repetition is let through
pub lets_through : (graph : Graph) (before : List FieldView) (answer : Chain) (field : FieldView)
    → answer ≡ chain.Field field → repeats graph before field ≡ false → unless_repeated graph before answer ≡ chain.Field field
lets_through graph before answer field is apart = ap (unless_repeated graph before) is ∙ (rw apart refl)

-- one that is a repetition is refused
pub refuses : (graph : Graph) (before : List FieldView) (answer : Chain) (field : FieldView)
    → answer ≡ chain.Field field → repeats graph before field ≡ true
    → unless_repeated graph before answer ≡ chain.Fault (record { code = Repeated; node = field.node; at = field.start })
refuses graph before answer field is repeated = ap (unless_repeated graph before) is ∙ (rw repeated refl)

-- a line that is done is so by what the chain answers
pub done_stands : (graph : Graph) (before : List FieldView) (answer : Chain)
    → ending.Done ≡ ending_of (unless_repeated graph before answer) → ending.Done ≡ ending_of answer
done_stands graph before (chain.Field field) is = by (repeats graph before field) is
  where
    by : (test : Bool) → ending.Done ≡ ending_of (if test then chain.Fault (record { code = Repeated; node = field.node; at = field.start }) else chain.Field field)
        → ending.Done ≡ ending_of (chain.Field field)
    by true is = cc
    by false is = is
done_stands graph before (chain.Done place) is = is
done_stands graph before (chain.Fault fault) is = is
done_stands graph before (chain.Open place) is = is

-- none of the fields repeats one before it
pub apart_at : (graph : Graph) (before front after : List FieldView) (field : FieldView)
    → AreApart graph before (front ++ field ∷ after) → repeats graph (before ++ front) field ≡ false
apart_at graph before [] after field apart = rw (append-nil before) apart.0
apart_at graph before (first ∷ front) after field apart =
    subst (λ (fields : List FieldView). repeats graph fields field ≡ false) (append_assoc before (first ∷ []) front)
    (apart_at graph (before ++ first ∷ []) front after field apart.1)
