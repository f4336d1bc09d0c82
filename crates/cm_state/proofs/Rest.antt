-- The rest of a parse after fields: one field more, or its end.
-- Going on after known fields (parse_rest) is one loop, also where none are kept (kept_goes_on of cm_blocks).
use Rattle.std.proofs.Common.{◌≡◌, ℕ, zero, suc, ◌+◌, ◌-◌, ◌<◌, true, false, List, [], ◌∷◌, ◌++◌, length, refl, ap, sym, ◌∙◌, append_assoc, append-nil, arith, length-append}
use Rattle.cm_fields.specs.declared.code.Code.TheVariants.{Repeated}
use Rattle.cm_blocks.specs.declared.field.Chain.{Chain}
use Rattle.cm_blocks.specs.declared.field.Chain.TheVariants as chain
use Rattle.cm_blocks.specs.declared.field.Ending.{Ending}
use Rattle.cm_blocks.specs.declared.field.Ending.TheVariants as ending
use Rattle.cm_blocks.specs.declared.field.TheConstants.{FIELD_LIMIT}
use Rattle.cm_blocks.specs.Chain.{chain_at}
use Rattle.cm_blocks.specs.KeptParse.{chain_cost, cost_from}
use Rattle.cm_blocks.specs.Once.{repeats}
use Rattle.cm_blocks.specs.Parse.{IsLast, Parse, after_chain, answer_at, ending_of, parse_from, with_fields}
use Rattle.cm_blocks.specs.Setting.{Setting}
use Rattle.cm_blocks.specs.FieldView.{FieldView}
use Rattle.cm_blocks.proofs.Onces.{lets_through, refuses}

abbrev parsed : Ending → List FieldView → Parse
parsed ends fields = record { fields = fields; ending = ends }

-- after these fields stands one more, and the parse goes on after it
pub record Turns (s : Setting) (text : List ℕ) (fields : List FieldView) (node at : ℕ) (field : FieldView) : Type 0
  where
    pub parse : with_fields fields (parse_from s text fields (FIELD_LIMIT - length fields) node at)
        ≡ with_fields (fields ++ field ∷ [])
        (parse_from s text (fields ++ field ∷ []) (FIELD_LIMIT - length (fields ++ field ∷ [])) field.next field.end)
    pub cost : cost_from s text fields (FIELD_LIMIT - length fields) node at
        ≡ (chain_at s node text at).spent
        + cost_from s text (fields ++ field ∷ []) (FIELD_LIMIT - length (fields ++ field ∷ [])) field.next field.end

pub turns : (s : Setting) (text : List ℕ) (fields : List FieldView) (node at : ℕ) (field : FieldView)
    → (chain_at s node text at).chain ≡ chain.Field field → repeats s.graph fields field ≡ false
    → length fields < FIELD_LIMIT → Turns s text fields node at field
turns s text fields node at field takes apart few =
    let is : answer_at s text fields node at ≡ chain.Field field =
    lets_through s.graph fields (chain_at s node text at).chain field takes apart in
    let longer = fields ++ field ∷ [] in
    let left = FIELD_LIMIT - length longer in
    let room : FIELD_LIMIT - length fields ≡ suc left = omega (arith, length-append fields (field ∷ [])) in
    let later : Parse = parse_from s text longer left field.next field.end in
    record {
      parse =
          ap (λ (room : ℕ). with_fields fields (parse_from s text fields room node at)) room
          ∙ ap (λ (answer : Chain). with_fields fields
          (after_chain (λ (field : FieldView). parse_from s text (fields ++ field ∷ []) left field.next field.end) answer)) is
          ∙ ap (parsed later.ending) (sym (append_assoc fields (field ∷ []) later.fields));
      cost =
          ap (λ (room : ℕ). cost_from s text fields room node at) room
          ∙ ap (λ (answer : Chain). (chain_at s node text at).spent + chain_cost
          (λ (field : FieldView). cost_from s text (fields ++ field ∷ []) left field.next field.end) answer) is;
    }

-- after these fields the parse ends so
pub record Ends (s : Setting) (text : List ℕ) (fields : List FieldView) (room node at : ℕ) (ends : Ending) : Type 0
  where
    pub parse : with_fields fields (parse_from s text fields room node at) ≡ parsed ends fields
    pub cost : cost_from s text fields room node at ≡ (chain_at s node text at).spent

-- where there is no room for a field more
ends_full : (s : Setting) (text : List ℕ) (fields : List FieldView) (node at : ℕ) (answer : Chain)
    → answer_at s text fields node at ≡ answer → Ends s text fields zero node at (ending_of answer)
ends_full s text fields node at answer is = record {
  parse =
      ap (λ (answer : Chain). with_fields fields (parsed (ending_of answer) [])) is
      ∙ ap (parsed (ending_of answer)) (append-nil fields);
  cost = refl;
}

ends_so : (s : Setting) (text : List ℕ) (fields : List FieldView) (room node at : ℕ) (answer : Chain)
    → answer_at s text fields node at ≡ answer
    → ((after : FieldView → Parse) → after_chain after answer ≡ parsed (ending_of answer) [])
    → ((after : FieldView → ℕ) → chain_cost after answer ≡ 0) → Ends s text fields room node at (ending_of answer)
ends_so s text fields zero node at answer is stop free = ends_full s text fields node at answer is
ends_so s text fields (suc room) node at answer is stop free =
    let after : FieldView → Parse = λ (field : FieldView). parse_from s text (fields ++ field ∷ []) room field.next field.end in
    let later : FieldView → ℕ = λ (field : FieldView). cost_from s text (fields ++ field ∷ []) room field.next field.end in
    let nothing : chain_cost later (answer_at s text fields node at) ≡ 0 = ap (chain_cost later) is ∙ free later in
    record {
      parse =
          ap (λ (answer : Chain). with_fields fields (after_chain after answer)) is
          ∙ ap (with_fields fields) (stop after)
          ∙ ap (parsed (ending_of answer)) (append-nil fields);
      cost = omega (arith, nothing);
    }

-- where the chain takes no field that may stand there
pub ends_there : (s : Setting) (text : List ℕ) (fields : List FieldView) (room node at : ℕ) (answer : Chain)
    → answer_at s text fields node at ≡ answer → IsLast answer → Ends s text fields room node at (ending_of answer)
ends_there s text fields room node at (chain.Field field) is last = absurd last
ends_there s text fields room node at (chain.Done place) is last =
    ends_so s text fields room node at (chain.Done place) is (λ after. refl) (λ after. refl)
ends_there s text fields room node at (chain.Fault fault) is last =
    ends_so s text fields room node at (chain.Fault fault) is (λ after. refl) (λ after. refl)
ends_there s text fields room node at (chain.Open place) is last =
    ends_so s text fields room node at (chain.Open place) is (λ after. refl) (λ after. refl)

-- where it repeats an option
pub ends_repeated : (s : Setting) (text : List ℕ) (fields : List FieldView) (room node at : ℕ) (field : FieldView)
    → (chain_at s node text at).chain ≡ chain.Field field → repeats s.graph fields field ≡ true
    → Ends s text fields room node at
    (ending.Fault (record { code = Repeated; node = field.node; at = field.start }))
ends_repeated s text fields room node at field takes repeated =
    ends_there s text fields room node at _
    (refuses s.graph fields (chain_at s node text at).chain field takes repeated) tt
