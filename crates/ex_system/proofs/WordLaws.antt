-- Words, by their number.
use Rattle.std.proofs.Common.{◌≡◌, ◌≢◌, ℕ, List, [], ◌∷◌, Some, None, arith, refl}
use Rattle.cm_io.specs.Words.{Given, count, word_at}
use Rattle.ex_system.specs.Form.{pair_of, triple_of}

pub pair_of_two : (given : Given) (first second : List ℕ) → count given ≡ 2 → word_at given 0 ≡ Some first
    → word_at given 1 ≡ Some second → Some (record { first = first; second = second }) ≡ pair_of given
unfolding pair_of
pair_of_two None first second two one other = cc
pair_of_two (Some []) first second two one other = cc
pair_of_two (Some (a ∷ [])) first second two one other = cc
pair_of_two (Some (a ∷ b ∷ [])) first second two one other =
    let same : a ≡ first = cc in
    let also : b ≡ second = cc in
    rw (same, also) refl
pair_of_two (Some (a ∷ b ∷ c ∷ more)) first second two one other = absurd (omega arith)

pub pair_of_others : (given : Given) → count given ≢ 2 → None ≡ pair_of given
unfolding pair_of
pair_of_others None two = refl
pair_of_others (Some []) two = refl
pair_of_others (Some (a ∷ [])) two = refl
pair_of_others (Some (a ∷ b ∷ [])) two = absurd (two refl)
pair_of_others (Some (a ∷ b ∷ c ∷ more)) two = refl

pub triple_of_three : (given : Given) (first second third : List ℕ) → count given ≡ 3 → word_at given 0 ≡ Some first
    → word_at given 1 ≡ Some second → word_at given 2 ≡ Some third
    → Some (record { first = first; second = second; third = third }) ≡ triple_of given
unfolding triple_of
triple_of_three None first second third three one two last = cc
triple_of_three (Some []) first second third three one two last = cc
triple_of_three (Some (a ∷ [])) first second third three one two last = cc
triple_of_three (Some (a ∷ b ∷ [])) first second third three one two last = cc
triple_of_three (Some (a ∷ b ∷ c ∷ [])) first second third three one two last =
    let same : a ≡ first = cc in
    let also : b ≡ second = cc in
    let third_too : c ≡ third = cc in
    rw (same, also, third_too) refl
triple_of_three (Some (a ∷ b ∷ c ∷ d ∷ more)) first second third three one two last = absurd (omega arith)

pub triple_of_others : (given : Given) → count given ≢ 3 → None ≡ triple_of given
unfolding triple_of
triple_of_others None three = refl
triple_of_others (Some []) three = refl
triple_of_others (Some (a ∷ [])) three = refl
triple_of_others (Some (a ∷ b ∷ [])) three = refl
triple_of_others (Some (a ∷ b ∷ c ∷ [])) three = absurd (three refl)
triple_of_others (Some (a ∷ b ∷ c ∷ d ∷ more)) three = refl
