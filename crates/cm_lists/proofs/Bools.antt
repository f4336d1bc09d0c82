-- Tests, and what a choice by one comes to.
use Rattle.std.proofs.Common.{Bool, ap, cond, false, if◌then◌else◌, inl, inr, not, refl, sym, true, ◌&&◌, ◌||◌, ◌≡◌, ◌⊎◌}
use Rattle.std.specs.Bool.{beq}
use Rattle.std.proofs.lemmas.Bool.{and_from, and_parts}

pub and_assoc : (a b c : Bool) → (a && (b && c)) ≡ ((a && b) && c)
and_assoc true b c = refl
and_assoc false b c = refl

pub and-false : (a : Bool) → (a && false) ≡ false
and-false true = refl
and-false false = refl

pub and-true : (a : Bool) → (a && true) ≡ a
and-true true = refl
and-true false = refl

pub or-false : (a : Bool) → (a || false) ≡ a
or-false true = refl
or-false false = refl

pub or_absorbs : (a b : Bool) → (b ≡ true → a ≡ true) → (a || b) ≡ a
or_absorbs true b to = refl
or_absorbs false true to = sym (to refl)
or_absorbs false false to = refl

-- another test in the place of the first
pub and_weaker : (x y rest : Bool) → (x ≡ true → y ≡ true) → (x && rest) ≡ true → (y && rest) ≡ true
and_weaker x y rest more all = and_from _ _ (more (and_parts _ _ all).0) (and_parts _ _ all).1

pub or_from_either : (a b : Bool) → (a ≡ true) ⊎ (b ≡ true) → (a || b) ≡ true
or_from_either true b is = refl
or_from_either false b (inl is) = cc
or_from_either false b (inr is) = is

pub and_first : (a b : Bool) → (a && b) ≡ true → a ≡ true
and_first true b both = refl
and_first false b both = both

pub and_second : (a b : Bool) → (a && b) ≡ true → b ≡ true
and_second true b both = both
and_second false b both = absurd (cc)

-- what one of two tests is, from the other and from both
pub second_of_not_and : (first second : Bool) → first ≡ false → (not first && second) ≡ false → second ≡ false
second_of_not_and true second is both = cc
second_of_not_and false second is both = both

pub first_of_and_not : (first second : Bool) → second ≡ false → (first && not second) ≡ false → first ≡ false
first_of_and_not false second is both = refl
first_of_and_not true second is both = let never = ap not is in cc

pub second_of_no_and : (first second : Bool) → (first && second) ≡ false → first ≡ true → second ≡ false
second_of_no_and true second none is = none
second_of_no_and false second none is = absurd (cc)

pub second_of_and_not : (first second : Bool) → (first && not second) ≡ false → first ≡ true → second ≡ true
second_of_and_not true true none holds = refl
second_of_and_not true false none holds = cc
second_of_and_not false second none holds = cc

pub second_of_or : (first second : Bool) → first ≡ false → (first || second) ≡ true → second ≡ true
second_of_or true second not_first may = absurd (cc)
second_of_or false second not_first may = may

pub same_truth : (a b : Bool) → (a ≡ true → b ≡ true) → (b ≡ true → a ≡ true) → a ≡ b
same_truth true true to from = refl
same_truth true false to from = sym (to refl)
same_truth false true to from = from refl
same_truth false false to from = refl

-- what a comparison of two tests says
pub beq-true : (a b : Bool) → beq a b ≡ true → a ≡ b
beq-true true true e = refl
beq-true true false e = absurd (cc)
beq-true false true e = absurd (cc)
beq-true false false e = refl

pub beq-false : (a b : Bool) → beq a b ≡ false → a ≡ not b
beq-false true true e = absurd (cc)
beq-false true false e = refl
beq-false false true e = refl
beq-false false false e = absurd (cc)

pub not_both : (test : Bool) → not test ≡ true → test ≡ true → ⊥
not_both true none some = absurd (cc)
not_both false none some = absurd (cc)

-- what holds of both ways of a choice holds of it
pub cond_each : {A : Type 0} (P : A → Type 0) (test : Bool) (t u : A) → P t → P u → P (if test then t else u)
cond_each P true t u first second = first
cond_each P false t u first second = second

-- by the two values of a test
pub by_test : (P : Type 0) (test : Bool) → (test ≡ true → P) → (test ≡ false → P) → P
by_test P true first second = first refl
by_test P false first second = second refl

pub cond_holds : {X : Type 0} (P : X → Type 0) (test : Bool) (one other : X) → test ≡ true → P one → P (cond test one other)
cond_holds P true one other is holds = holds
cond_holds P false one other is holds = absurd (cc)
