-- Whether two texts are the same.
use Rattle.std.proofs.Common.{Bool, List, cond, false, refl, true, ℕ, ◌≡◌}
use Rattle.std.specs.Str.{bytes_eq}
use Rattle.std.proofs.lemmas.Slice.Eq.{bytes_eq-Decides}

pub bytes_eq-true : (text other : List ℕ) → bytes_eq text other ≡ true → text ≡ other
bytes_eq-true text other same = (bytes_eq-Decides text other).0 same

pub bytes_eq_itself : (text : List ℕ) → bytes_eq text text ≡ true
bytes_eq_itself text = (bytes_eq-Decides text text).1 refl

-- what holds of a choice by a word, whichever way it goes
pub by_word : {A : Type 0} (bytes word : List ℕ) (here there : A) (end : A) (P : Type 0)
    → cond (bytes_eq bytes word) here there ≡ end → (bytes ≡ word → here ≡ end → P) → (there ≡ end → P) → P
by_word bytes word here there end P is this that = by (bytes_eq bytes word) (bytes_eq-Decides bytes word).0 is
  where
    by : (same : Bool) → (same ≡ true → bytes ≡ word) → cond same here there ≡ end → P
    by true means is = this (means refl) is
    by false means is = that is
