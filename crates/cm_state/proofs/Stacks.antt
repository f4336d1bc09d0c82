-- A stack of fields whose places each have one.
-- The stack is an ArrayVec of options, and a list in contracts (somes), with one lemma for each call.
use Rattle.std.proofs.Common.{◌≡◌, ℕ, zero, suc, ◌+◌, ◌-◌, ◌<◌, ◌≤◌, Bool, true, false, nat_le, if◌then◌else◌, List, [], ◌∷◌, ◌++◌, length, map, take, get_or, Option, Some, slice_get, refl, ap, sym, ◌∙◌, arith, length-append}
use Rattle.std.proofs.lemmas.List.{map-append}
use Rattle.cm_lists.proofs.Elements.{slice_get-map_some}
use Rattle.cm_blocks.specs.declared.field.TheConstants.{FIELD_LIMIT}
use Rattle.cm_blocks.specs.KeptParse.{decided_within}
use Rattle.cm_blocks.specs.Once.{fields_at}
use Rattle.cm_blocks.specs.Parse.{node_after, place_after}
use Rattle.cm_blocks.specs.FieldView.{FieldView}
use Rattle.cm_blocks.proofs.Onces.{fields_of_all}
use Rattle.cm_state.specs.Stack.{first_decided_within, somes}

abbrev some : FieldView → Option FieldView
some field = Some field

somes_map : (fields : List FieldView) → somes (map (λ field. Some field) fields) ≡ fields
somes_map [] = refl
somes_map (field ∷ fields) = ap (λ rest. field ∷ rest) (somes_map fields)

-- one field more than these
pub record Pushed (new : List (Option FieldView)) (fields : List FieldView) (field : FieldView) : Type 0 where
  pub all : new ≡ map (λ field. Some field) (somes new)
  pub few : length (somes new) ≤ FIELD_LIMIT
  pub more : somes new ≡ fields ++ field ∷ []

pub pushed : (old new : List (Option FieldView)) (fields : List FieldView) (field : FieldView)
    → old ≡ map (λ field. Some field) (somes old)
    → somes old ≡ fields → length fields < FIELD_LIMIT → new ≡ old ++ Some field ∷ [] → Pushed new fields field
pushed old new fields field all is few push =
    let whole : new ≡ map (λ field. Some field) (fields ++ field ∷ []) =
    push ∙ ap (λ front. front ++ Some field ∷ []) (all ∙ ap (map (λ field. Some field)) is)
    ∙ sym (map-append (λ field. Some field) fields (field ∷ [])) in
    let more : somes new ≡ fields ++ field ∷ [] = ap somes whole ∙ somes_map (fields ++ field ∷ []) in
    record {
      all = whole ∙ ap (map (λ field. Some field)) (sym more);
      few = rw more (omega (arith, length-append fields (field ∷ [])));
      more = more;
    }

pub item_at : (items slice : List (Option FieldView)) (fields : List FieldView) (number index : ℕ)
    (item : Option FieldView)
    → items ≡ map (λ field. Some field) (somes items) → somes items ≡ fields → slice ≡ items → index ≡ number
    → number < length fields
    → item ≡ get_or slice index item → slice_get fields number ≡ item
item_at items slice fields number index item all is same at within get =
    slice_get-map_some fields number item within
    ∙ ap (λ list. get_or list number item) (ap (map (λ field. Some field)) (sym is) ∙ sym all ∙ sym same)
    ∙ ap (λ number. get_or slice number item) (sym at) ∙ sym get

pub places_hold : (items slice : List (Option FieldView)) (fields : List FieldView)
    → items ≡ map (λ field. Some field) (somes items) → somes items ≡ fields → slice ≡ items
    → fields_at slice ≡ fields
places_hold items slice fields all is same =
    ap fields_at (same ∙ all) ∙ fields_of_all (somes items) ∙ is

-- where the first field stands that needs more
first_decided_within_is : (size number : ℕ) (fields : List FieldView)
    → first_decided_within size number (map (λ field. Some field) fields) ≡ number + length (decided_within size fields)
first_decided_within_is size number [] = omega arith
first_decided_within_is size number (field ∷ fields) = by (nat_le field.need size) (first_decided_within_is size (number + 1) fields)
  where
    by : (test : Bool) → first_decided_within size (number + 1) (map (λ field. Some field) fields) ≡ number + 1 + length
        (decided_within size fields)
        → (if test then first_decided_within size (number + 1) (map (λ field. Some field) fields) else number)
        ≡ number + length (if test then field ∷ decided_within size fields else [])
    by true later = omega (arith, later)
    by false later = omega arith

take_decided_within : (size : ℕ) (fields : List FieldView)
    → take (length (decided_within size fields)) (map (λ field. Some field) fields) ≡ map (λ field. Some field)
    (decided_within size fields)
take_decided_within size [] = refl
take_decided_within size (field ∷ fields) = by (nat_le field.need size) (take_decided_within size fields)
  where
    by : (test : Bool)
        → take (length (decided_within size fields)) (map (λ field. Some field) fields) ≡ map (λ field. Some field)
        (decided_within size fields)
        → take (length (if test then field ∷ decided_within size fields else [])) (map (λ field. Some field) (field ∷ fields))
        ≡ map (λ field. Some field) (if test then field ∷ decided_within size fields else [])
    by true later = ap (λ rest. some field ∷ rest) later
    by false later = refl

decided_within_few : (size : ℕ) (fields : List FieldView) → length (decided_within size fields) ≤ length fields
decided_within_few size [] = omega arith
decided_within_few size (field ∷ fields) = by (nat_le field.need size) (decided_within_few size fields)
  where
    by : (test : Bool) → length (decided_within size fields) ≤ length fields
        → length (if test then field ∷ decided_within size fields else []) ≤ length (field ∷ fields)
    by true later = omega (arith, later)
    by false later = omega arith

-- the fields before it
pub record Cut (size : ℕ) (old new : List (Option FieldView)) : Type 0 where
  pub all : new ≡ map (λ field. Some field) (somes new)
  pub few : length (somes new) ≤ length (somes old)
  pub fields : somes new ≡ decided_within size (somes old)

pub cut : (size count : ℕ) (old slice new : List (Option FieldView)) → old ≡ map (λ field. Some field) (somes old)
    → slice ≡ old → count ≡ first_decided_within size 0 slice → new ≡ take count old → Cut size old new
cut size count old slice new all same first truncate =
    let place : count ≡ 0 + length (decided_within size (somes old)) =
    first ∙ ap (first_decided_within size 0) (same ∙ all) ∙ first_decided_within_is size 0 (somes old) in
    let at : count ≡ length (decided_within size (somes old)) = omega (arith, place) in
    let whole : new ≡ map (λ field. Some field) (decided_within size (somes old)) =
    truncate ∙ ap (λ count. take count old) at ∙ ap (take (length (decided_within size (somes old)))) all
    ∙ take_decided_within size (somes old) in
    let fields : somes new ≡ decided_within size (somes old) = ap somes whole ∙ somes_map (decided_within size (somes old)) in
    record {
      all = whole ∙ ap (map (λ field. Some field)) (sym fields);
      few = rw fields (decided_within_few size (somes old));
      fields = fields;
    }

-- what is after the last field
last_node : (start : ℕ) (fields : List FieldView) (number : ℕ) (field : FieldView) → number + 1 ≡ length fields
    → slice_get fields number ≡ Some field → node_after start fields ≡ field.next
last_node start [] number field last is = absurd (omega arith)
last_node start (first ∷ []) zero field last is = cc
last_node start (first ∷ []) (suc number) field last is = absurd (omega arith)
last_node start (first ∷ second ∷ fields) zero field last is = absurd (omega arith)
last_node start (first ∷ second ∷ fields) (suc number) field last is =
    last_node first.next (second ∷ fields) number field (omega arith) is

last_place : (at : ℕ) (fields : List FieldView) (number : ℕ) (field : FieldView) → number + 1 ≡ length fields
    → slice_get fields number ≡ Some field → place_after at fields ≡ field.end
last_place at [] number field last is = absurd (omega arith)
last_place at (first ∷ []) zero field last is = cc
last_place at (first ∷ []) (suc number) field last is = absurd (omega arith)
last_place at (first ∷ second ∷ fields) zero field last is = absurd (omega arith)
last_place at (first ∷ second ∷ fields) (suc number) field last is =
    last_place first.end (second ∷ fields) number field (omega arith) is

pub node_of_last : (start : ℕ) (fields : List FieldView) (field : FieldView)
    → slice_get fields (length fields - 1) ≡ Some field
    → node_after start fields ≡ field.next
node_of_last start [] field is = cc
node_of_last start (first ∷ rest) field is =
    last_node start (first ∷ rest) (length (first ∷ rest) - 1) field (omega arith) is

pub place_of_last : (at : ℕ) (fields : List FieldView) (field : FieldView)
    → slice_get fields (length fields - 1) ≡ Some field
    → place_after at fields ≡ field.end
place_of_last at [] field is = cc
place_of_last at (first ∷ rest) field is =
    last_place at (first ∷ rest) (length (first ∷ rest) - 1) field (omega arith) is
