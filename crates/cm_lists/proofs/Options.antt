-- An option, and the greater of numbers that may be there.
use Rattle.std.proofs.Common.{Bool, None, Option, Some, arith, cond, false, is_some, max, not, refl, true, unwrap_or, ℕ, ◌≡◌, ◌≤◌}
use Rattle.std.specs.Borrow.{Bor}
use Rattle.std.specs.Option.{option_copied, option_map_or}

pub cond_none : (b : Bool) (i : ℕ) → cond b (Some i) None ≡ None → b ≡ false
cond_none true i e = absurd (cc)
cond_none false i e = refl

pub none_of_not_some : {A : Type 0} (it : Option A) → not (is_some it) ≡ true → it ≡ None
none_of_not_some None is = refl
none_of_not_some (Some it) is = cc

pub is_some-copied : {T : Type 0} (told : Option (Bor T)) → is_some told ≡ is_some (option_copied told)
is_some-copied None = refl
is_some-copied (Some x) = refl

pub max_within : (number : ℕ) (more : Option ℕ) → number ≤ option_map_or (max number) more number
max_within number None = omega arith
max_within number (Some other) = omega arith

pub max_parts : (number : ℕ) (more : Option ℕ) → (number ≤ option_map_or (max number) more number) × (unwrap_or more 0 ≤ option_map_or (max number) more number)
max_parts number None = (omega arith, omega arith)
max_parts number (Some other) = (omega arith, omega arith)

pub one_some : {X : Type 0} (asked : Option X) (first second : X) → Some first ≡ asked → asked ≡ Some second → first ≡ second
one_some asked first second is was = cc
