-- Room for the files that are to be put under each family.
-- demand counts what the changes put into each family. EachHasRoom says that it is there, and RoomStepLaws that it
-- lasts; it is a function from keys, in requires and invariant.
use Rattle.std.proofs.Common.{◌≡◌, ℕ, ◌<◌, ◌≤◌, ◌+◌, Bool, true, false, cond, zero, suc, List, [], ◌∷◌, ◌++◌, length, find, get_or, set, insert, map, position, Option, None, Some, refl, ap, arith, ◌∙◌, sym, subst}
use Rattle.std.specs.List.{list_any}
use Rattle.std.specs.Option.{option_map_or}
use Rattle.std.specs.Ordering.{is_eq}
use Rattle.std.proofs.lemmas.Bool.{or_parts}
use Rattle.std.proofs.lemmas.List.{get_or_default}
use Rattle.cm_lists.proofs.Positions.{none_from_position}
use Rattle.cm_lists.specs.Ascent.{ascends}
use Rattle.ex_store.specs.declared.family.Family.{Family}
use Rattle.ex_store.specs.declared.key.Key.{Key}
use Rattle.ex_store.specs.declared.row.Row.{Row}
use Rattle.ex_store.specs.Families.{HasRoom, EachHasRoom, by_family, is_under, room_at, rooms_of, row_under, rows_of, rows_under, without_demand, demand_at}
use Rattle.ex_store.specs.Rows.{by_key, files_of}
use Rattle.cm_lists.proofs.Ascents.{ascends_map}
use Rattle.ex_store.proofs.FamiliesLaws.{IsFirst, files_found, first_found, first_there, first_demand, room_found}
use Rattle.ex_store.proofs.FamilyLaws.{key_is}

-- where there is no demand
pub rows_without_demand : (families : List Family) → rows_of (without_demand families) ≡ rows_of families
rows_without_demand [] = refl
rows_without_demand (family ∷ families) = ap (λ rest. rows_under family ++ rest) (rows_without_demand families)

pub keys_without_demand : (families : List Family) → map (λ (family : Family). family.key) (without_demand families) ≡ map (λ (family : Family). family.key) families
keys_without_demand [] = refl
keys_without_demand (family ∷ families) = ap (λ rest. family.key ∷ rest) (keys_without_demand families)

pub demand_none : (key : Key) (families : List Family) → demand_at key (without_demand families) ≡ 0
demand_none key [] = refl
demand_none key (family ∷ families) = by (is_under key family) (demand_none key families)
  where
    by : (b : Bool) → demand_at key (without_demand families) ≡ 0
        → option_map_or (λ (family : Family). family.demand) (cond b (Some (record family { demand = 0 })) (find (is_under key) (without_demand families))) 0 ≡ 0
    by true rest = refl
    by false rest = rest

-- a family that is not there yet, and wants nothing, is entered
demand_nowhere : (key : Key) (families : List Family) → list_any (is_under key) families ≡ false → demand_at key families ≡ 0
demand_nowhere key [] none = refl
demand_nowhere key (family ∷ families) none =
    let parts : (is_under key family ≡ false) × (list_any (is_under key) families ≡ false) = or_parts _ _ none in
    rw parts.0 (demand_nowhere key families parts.1)

demand_new : (key other : Key) (families : List Family) (at : ℕ) (new : Family) → at ≤ length families → new.key ≡ key → new.demand ≡ 0
    → list_any (is_under key) families ≡ false → demand_at other (insert families at new) ≡ demand_at other families
demand_new key other [] zero new within is zero_demand none = by (is_under other new)
  where
    by : (b : Bool) → option_map_or (λ (family : Family). family.demand) (cond b (Some new) None) 0 ≡ 0
    by true = zero_demand
    by false = refl
demand_new key other [] (suc at) new within is zero_demand none = absurd (omega arith)
demand_new key other (family ∷ families) zero new within is zero_demand none = by (is_under other new) refl
  where
    by : (b : Bool) → is_under other new ≡ b
        → option_map_or (λ (family : Family). family.demand) (cond b (Some new) (find (is_under other) (family ∷ families))) 0 ≡ demand_at other (family ∷ families)
    by true here = zero_demand ∙ sym (demand_nowhere other (family ∷ families)
        (subst (λ (it : Key). list_any (is_under it) (family ∷ families) ≡ false) (sym is ∙ key_is new.key other here) none))
    by false here = refl
demand_new key other (family ∷ families) (suc at) new within is zero_demand none =
    let parts : (is_under key family ≡ false) × (list_any (is_under key) families ≡ false) = or_parts _ _ none in
    by (is_under other family) (demand_new key other families at new (omega arith) is zero_demand parts.1)
  where
    by : (b : Bool) → demand_at other (insert families at new) ≡ demand_at other families
        → option_map_or (λ (family : Family). family.demand) (cond b (Some family) (find (is_under other) (insert families at new))) 0
        ≡ option_map_or (λ (family : Family). family.demand) (cond b (Some family) (find (is_under other) families)) 0
    by true rest = refl
    by false rest = rest

pub demand_entered : (key other : Key) (families : List Family) (at : ℕ) (new : Family) → at ≤ length families → new.key ≡ key → new.demand ≡ 0
    → position (is_under key) families ≡ None → demand_at other (insert families at new) ≡ demand_at other families
demand_entered key other families at new within is zero_demand none =
    demand_new key other families at new within is zero_demand (none_from_position (is_under key) families none)

-- a family wants one more
under_both : (key other : Key) (family : Family) → is_under key family ≡ true → is_eq (by_key key other) ≡ is_under other family
under_both key other family here = ap (λ (it : Key). is_eq (by_key it other)) (sym (key_is family.key key here))

under_apart : (key other : Key) (family : Family) → is_under key family ≡ false → is_under other family ≡ true → is_eq (by_key key other) ≡ false
under_apart key other family apart here = by (is_eq (by_key key other)) refl
  where
    by : (b : Bool) → is_eq (by_key key other) ≡ b → b ≡ false
    by true same = sym (subst (λ (it : Key). is_under it family ≡ true) (sym (key_is key other same)) here) ∙ apart
    by false same = refl

pub demand_more : (key other : Key) (families : List Family) (i : ℕ) (d new : Family) → IsFirst key families i
    → new.key ≡ (get_or families i d).key → new.demand ≡ (get_or families i d).demand + 1
    → demand_at other (set families i new) ≡ demand_at other families + cond (is_eq (by_key key other)) 1 0
demand_more key other [] i d new at is more = absurd at
demand_more key other (family ∷ families) zero d new at is more =
    rw (ap (λ (it : Key). is_eq (by_key it other)) is, under_both key other family at) (by (is_under other family))
  where
    by : (b : Bool) → option_map_or (λ (family : Family). family.demand) (cond b (Some new) (find (is_under other) families)) 0
        ≡ option_map_or (λ (family : Family). family.demand) (cond b (Some family) (find (is_under other) families)) 0 + cond b 1 0
    by true = more
    by false = omega arith
demand_more key other (family ∷ families) (suc i) d new at is more = by (is_under other family) refl (demand_more key other families i d new at.1 is more)
  where
    by : (b : Bool) → is_under other family ≡ b
        → demand_at other (set families i new) ≡ demand_at other families + cond (is_eq (by_key key other)) 1 0
        → option_map_or (λ (family : Family). family.demand) (cond b (Some family) (find (is_under other) (set families i new))) 0
        ≡ option_map_or (λ (family : Family). family.demand) (cond b (Some family) (find (is_under other) families)) 0 + cond (is_eq (by_key key other)) 1 0
    by true here rest = rw (under_apart key other family at.0 here) (omega arith)
    by false here rest = rest

-- what has room keeps it
pub room_without_demand : (families : List Family) → EachHasRoom (without_demand families)
room_without_demand [] = tt
room_without_demand (family ∷ families) = ((λ some. absurd (omega (arith, some))), room_without_demand families)

pub room_entered : (families : List Family) (at : ℕ) (new : Family) → new.demand ≡ 0 → EachHasRoom families → EachHasRoom (insert families at new)
room_entered [] zero new none have = ((λ some. absurd (omega (arith, some, none))), tt)
room_entered [] (suc at) new none have = ((λ some. absurd (omega (arith, some, none))), tt)
room_entered (family ∷ families) zero new none have = ((λ some. absurd (omega (arith, some, none))), have)
room_entered (family ∷ families) (suc at) new none have = (have.0, room_entered families at new none have.1)

pub room_more : (families : List Family) (at : ℕ) (new : Family) → HasRoom new → EachHasRoom families → EachHasRoom (set families at new)
room_more [] at new has have = have
room_more (family ∷ families) zero new has have = (has, have.1)
room_more (family ∷ families) (suc at) new has have = (have.0, room_more families at new has have.1)

-- and it is room for the demand under each key
room_found_at : (families : List Family) (at : ℕ) (d : Family) → at < length families → EachHasRoom families → HasRoom (get_or families at d)
room_found_at [] at d within have = absurd (omega arith)
room_found_at (family ∷ families) zero d within have = have.0
room_found_at (family ∷ families) (suc at) d within have = room_found_at families at d (omega arith) have.1

within_first : (key : Key) (families : List Family) (i : ℕ) → IsFirst key families i → i < length families
within_first key [] i at = absurd at
within_first key (family ∷ families) zero at = omega arith
within_first key (family ∷ families) (suc i) at = omega (arith, within_first key families i at.1)

pub room_demand : (key : Key) (families : List Family) → ascends by_family families ≡ true → EachHasRoom families → 0 < demand_at key families
    → length (files_of key (rows_of families)) + demand_at key families ≤ room_at key (rooms_of families)
room_demand key [] ascend have some = absurd (omega (arith, some))
room_demand key (first ∷ more) ascend have some = by (position (is_under key) (first ∷ more)) refl
  where
    by : (it : Option ℕ) → position (is_under key) (first ∷ more) ≡ it
        → length (files_of key (rows_of (first ∷ more))) + demand_at key (first ∷ more) ≤ room_at key (rooms_of (first ∷ more))
    by None found = absurd (omega (arith, some, demand_nowhere key (first ∷ more) (none_from_position (is_under key) (first ∷ more) found)))
    by (Some i) found =
        let at = first_found key (first ∷ more) i found in
        let family = get_or (first ∷ more) i first in
        let there : family ≡ get_or (first ∷ more) i family = get_or_default (first ∷ more) i first family (within_first key (first ∷ more) i at) in
        let files = ap length (files_found key (first ∷ more) i family ascend found there) in
        let room = room_found key (first ∷ more) i first found in
        let demand = first_demand key (first ∷ more) i first at in
        let has : HasRoom family = room_found_at (first ∷ more) i first (within_first key (first ∷ more) i at) have in
        omega (arith, files, room, demand, has (omega (arith, some, demand)))

-- as the families stand
pub demand_set : (key other : Key) (families : List Family) (i : ℕ) (d new : Family) → ascends by_family families ≡ true → i < length families
    → ((e : Family) → is_under key (get_or families i e) ≡ true)
    → new.key ≡ (get_or families i d).key → new.demand ≡ (get_or families i d).demand + 1
    → demand_at other (set families i new) ≡ demand_at other families + cond (is_eq (by_key key other)) 1 0
demand_set key other families i d new ascend within there is more =
    demand_more key other families i d new (first_there key families i ascend within there) is more

-- a family that keeps its files
pub rows_kept : (families : List Family) (at : ℕ) (new d : Family) → new.key ≡ (get_or families at d).key
    → new.gens.files ≡ (get_or families at d).gens.files → rows_of (set families at new) ≡ rows_of families
rows_kept [] at new d key files = refl
rows_kept (family ∷ families) zero new d key files = λ j. map (row_under (key j)) (files j) ++ rows_of families
rows_kept (family ∷ families) (suc at) new d key files = ap (λ rest. rows_under family ++ rest) (rows_kept families at new d key files)

pub ascends_without_demand : (families : List Family) → ascends by_family families ≡ true → ascends by_family (without_demand families) ≡ true
ascends_without_demand families ascend =
    sym (ascends_map by_key by_family (λ (family : Family). family.key) (λ x y. refl) (without_demand families))
    ∙ ap (ascends by_key) (keys_without_demand families)
    ∙ ascends_map by_key by_family (λ (family : Family). family.key) (λ x y. refl) families
    ∙ ascend

-- room for the demand is room for what is put
pub room_for : (key : Key) (rows : List Row) (families : List Family) (n : ℕ) → ascends by_family families ≡ true → EachHasRoom families
    → rows_of families ≡ rows → demand_at key families ≡ n → 0 < n
    → length (files_of key rows) + n ≤ room_at key (rooms_of families)
room_for key rows families n ascend have same demand some =
    let size = ap (λ (it : List Row). length (files_of key it)) same in
    omega (arith, size, demand, some, room_demand key families ascend have (omega (arith, some, demand)))
