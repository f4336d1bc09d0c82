-- The fields that are kept of an old text are the first fields of the new one, and the parse goes on after them.
use Rattle.std.proofs.Common.{◌≡◌, ℕ, zero, suc, ◌-◌, ◌<◌, ◌≤◌, ◌==◌, Bool, true, false, nat_le, if◌then◌else◌, List, [], ◌∷◌, ◌++◌, length, None, refl, ap, sym, subst, ◌∙◌, append_assoc, append-nil, arith, length-append}
use Rattle.std.proofs.lemmas.Bool.Decides.{nat_tests}
use Rattle.cm_blocks.specs.declared.field.Chain.{Chain}
use Rattle.cm_blocks.specs.declared.field.Chain.TheVariants as chain
use Rattle.cm_blocks.specs.declared.field.TheConstants.{FIELD_LIMIT}
use Rattle.cm_blocks.specs.Chain.{ChainLeads, Leads, chain_at}
use Rattle.cm_blocks.specs.Fault.{grammar_fault}
use Rattle.cm_blocks.specs.KeptParse.{BeginsWith, common, decided_within, kept}
use Rattle.cm_blocks.specs.Parse.{Parse, after_chain, answer_at, node_after, parse_from, parse_of, place_after, with_fields}
use Rattle.cm_blocks.specs.Setting.{Setting}
use Rattle.cm_blocks.specs.FieldView.{FieldView}
use Rattle.cm_blocks.proofs.Needs.{chain_keeps}
use Rattle.cm_blocks.proofs.Onces.{lets_through, stands}
use Rattle.cm_blocks.proofs.Walks.{chain_leads}

-- two texts, parted where they begin to differ
record Parts (old new : List ℕ) : Type 0 where
  front : List ℕ
  more : List ℕ
  other : List ℕ
  old_is : old ≡ front ++ more
  new_is : new ≡ front ++ other
  size : common old new ≡ length front

parts : (old new : List ℕ) → Parts old new
parts [] new = record { front = []; more = []; other = new; old_is = refl; new_is = refl; size = refl }
parts (byte ∷ old) [] = record { front = []; more = byte ∷ old; other = []; old_is = refl; new_is = refl; size = refl }
parts (byte ∷ old) (letter ∷ new) = by (byte == letter) refl (parts old new)
  where
    by : (test : Bool) → (byte == letter) ≡ test → Parts old new → Parts (byte ∷ old) (letter ∷ new)
    by true is later =
        let same : byte ≡ letter = grind (arith, nat_tests) in
        let size = later.size in
        let step : common (byte ∷ old) (letter ∷ new) ≡ length (byte ∷ later.front) = rw is (omega arith) in
        record {
          front = byte ∷ later.front;
          more = later.more;
          other = later.other;
          old_is = ap (λ rest. byte ∷ rest) later.old_is;
          new_is = rw same (ap (λ rest. letter ∷ rest) later.new_is);
          size = step;
        }
    by false is later =
        record { front = []; more = byte ∷ old; other = letter ∷ new; old_is = refl; new_is = refl; size = rw is refl }

-- after the fields before, the parse of a text is these fields, few enough, and what comes after them; they lie within
-- so many bytes, and lead to one of so many nodes
pub record GoesOn (s : Setting) (text : List ℕ) (before : List FieldView) (room node at size : ℕ)
    (fields : List FieldView) : Type 0 where
  pub few : length fields ≤ room
  pub leads : node < length s.graph.nodes → node_after node fields < length s.graph.nodes
  pub place : place_after at fields ≤ size
  pub parse : parse_from s text before room node at
      ≡ with_fields fields
      (parse_from s text (before ++ fields) (room - length fields) (node_after node fields) (place_after at fields))

no_fields : (s : Setting) (text : List ℕ) (before : List FieldView) (room node at size : ℕ) → at ≤ size
    → GoesOn s text before room node at size []
no_fields s text before room node at size within =
    let all : room ≡ room - length {A = FieldView} [] = omega arith in
    record {
      few = omega arith;
      leads = λ below. below;
      place = within;
      parse =
          ap (λ (left : ℕ). parse_from s text before left node at) all
          ∙ ap (λ (fields : List FieldView). parse_from s text fields (room - length {A = FieldView} []) node at) (sym (append-nil before));
    }

one_field : (s : Setting) (text : List ℕ) (before : List FieldView) (room node at size : ℕ) (field : FieldView) (fields : List FieldView)
    → answer_at s text before node at ≡ chain.Field field → field.next < length s.graph.nodes
    → GoesOn s text (before ++ field ∷ []) room field.next field.end size fields
    → GoesOn s text before (suc room) node at size (field ∷ fields)
one_field s text before room node at size field fields is next later =
    let left : room - length fields ≡ suc room - length (field ∷ fields) = omega arith in
    let whole = append_assoc before (field ∷ []) fields in
    record {
      few = omega (arith, later.few);
      leads = λ below. later.leads next;
      place = later.place;
      parse =
          ap (after_chain (λ (field : FieldView). parse_from s text (before ++ field ∷ []) room field.next field.end)) is
          ∙ ap (with_fields (field ∷ [])) later.parse
          ∙ ap (λ (left : ℕ). with_fields (field ∷ fields) (parse_from s text ((before ++ field ∷ []) ++ fields) left (node_after field.next fields) (place_after field.end fields))) left
          ∙ ap (λ (all : List FieldView). with_fields (field ∷ fields) (parse_from s text all (suc room - length (field ∷ fields)) (node_after field.next fields) (place_after field.end fields))) whole;
    }

keeps_from : (s : Setting) → grammar_fault s.graph ≡ None → (front more other : List ℕ) (before : List FieldView) (room node at : ℕ)
    → at ≤ length front
    → GoesOn s (front ++ other) before room node at (length front) (decided_within (length front) (parse_from s (front ++ more) before room node at).fields)
keeps_from s none front more other before zero node at within = no_fields s (front ++ other) before zero node at (length front) within
keeps_from s none front more other before (suc room) node at within =
    by (answer_at s (front ++ more) before node at) refl
    (λ field near. keeps_from s none front more other (before ++ field ∷ []) room field.next field.end near)
  where
    leads : ChainLeads (length s.graph.nodes) at (length (front ++ more)) (chain_at s node (front ++ more) at).chain
    leads = let size = length-append front more in chain_leads s node (front ++ more) at none (omega arith)

    stop : GoesOn s (front ++ other) before (suc room) node at (length front) []
    stop = no_fields s (front ++ other) before (suc room) node at (length front) within

    after : FieldView → Parse
    after field = parse_from s (front ++ more) (before ++ field ∷ []) room field.next field.end

    by : (answer : Chain) → answer_at s (front ++ more) before node at ≡ answer
        → ((field : FieldView) → field.end ≤ length front → GoesOn s (front ++ other) (before ++ field ∷ []) room field.next field.end (length front)
        (decided_within (length front) (after field).fields))
        → GoesOn s (front ++ other) before (suc room) node at (length front) (decided_within (length front) (after_chain after answer).fields)
    by (chain.Field field) is later = choice (nat_le field.need (length front)) refl
      where
        choice : (test : Bool) → nat_le field.need (length front) ≡ test
            → GoesOn s (front ++ other) before (suc room) node at (length front)
            (if test then field ∷ decided_within (length front) (after field).fields else [])
        choice false test = stop
        choice true test =
            let needs : field.need ≤ length front = grind (arith, nat_tests) in
            let it = stands s.graph before (chain_at s node (front ++ more) at).chain field is in
            let lead : Leads (length s.graph.nodes) at (length (front ++ more)) field = subst (ChainLeads (length s.graph.nodes) at (length (front ++ more))) it.is leads in
            let same = chain_keeps s none node front more other at field within it.is needs in
            one_field s (front ++ other) before room node at (length front) field _
            (lets_through s.graph before (chain_at s node (front ++ other) at).chain field same it.once)
            lead.next (later field (omega (arith, lead.covered)))
    by (chain.Done place) is later = stop
    by (chain.Fault fault) is later = stop
    by (chain.Open place) is later = stop

-- what is kept of an old text goes on in the new one
pub kept_goes_on : (s : Setting) → grammar_fault s.graph ≡ None → (node : ℕ) (old new : List ℕ)
    → GoesOn s new [] FIELD_LIMIT node 0 (common old new) (kept s node old new)
unfolding kept parse_of
kept_goes_on s none node old new =
    let apart = parts old new in
    let whole = keeps_from s none apart.front apart.more apart.other [] FIELD_LIMIT node 0 (omega arith) in
    rw apart.size
    (subst (λ (text : List ℕ). GoesOn s new [] FIELD_LIMIT node 0 (length apart.front) (decided_within (length apart.front) (parse_from s text [] FIELD_LIMIT node 0).fields)) (sym apart.old_is)
    (subst (λ (text : List ℕ). GoesOn s text [] FIELD_LIMIT node 0 (length apart.front) (decided_within (length apart.front) (parse_from s (apart.front ++ apart.more) [] FIELD_LIMIT node 0).fields)) (sym apart.new_is) whole))

pub kept_begins : (s : Setting) → grammar_fault s.graph ≡ None → (node : ℕ) (old new : List ℕ)
    → BeginsWith (kept s node old new) (parse_of s node new).fields
unfolding parse_of
kept_begins s none node old new =
    let whole = kept_goes_on s none node old new in
    record { rest = _; joined = ap (λ (parse : Parse). parse.fields) whole.parse }
