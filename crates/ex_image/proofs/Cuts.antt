-- What is before the first of a byte, and what follows it.
use Rattle.std.proofs.Common.{◌≡◌, ℕ, suc, ◌+◌, ◌==◌, Bool, true, false, not, ◌||◌, cond, List, [], ◌∷◌, ◌++◌, drop, Ok, Err, refl, ap, subst, ◌∙◌, arith}
use Rattle.std.specs.List.{after_first, before_first, list_all, list_any, position_or_len}
use Rattle.std.proofs.lemmas.Bool.{and_parts, eq-eqb, eqb-true, or_left, or_right}
use Rattle.std.proofs.lemmas.List.Folds.{list_any-append}
use Rattle.std.proofs.lemmas.List.Sums.{take_while-cons}
use Rattle.cm_io.specs.declared.status.Kind.{Kind}
use Rattle.ex_image.specs.Fields.{cut}

-- no byte is this one
abbrev pub lacks : ℕ → List ℕ → Bool
lacks byte bytes = list_all (λ b. not (b == byte)) bytes

-- what a cut gives: the bytes before the first such byte, and those after it
pub record IsCut (byte : ℕ) (bytes before after : List ℕ) : Type 0 where
  pub joined : bytes ≡ before ++ byte ∷ after
  pub first : lacks byte before ≡ true

before_one : (p : ℕ → Bool) (x : ℕ) (xs : List ℕ)
    → before_first p (x ∷ xs) ≡ cond (not (p x)) (x ∷ before_first p xs) []
before_one p x xs = take_while-cons (λ b. not (p b)) x xs

after_one : (p : ℕ → Bool) (x : ℕ) (xs : List ℕ) → after_first p (x ∷ xs) ≡ cond (not (p x)) (after_first p xs) xs
after_one p x xs = by (not (p x)) (position_or_len p xs)
  where
    by : (later : Bool) (n : ℕ) → drop (cond later (1 + n) 0 + 1) (x ∷ xs) ≡ cond later (drop (n + 1) xs) xs
    by true n = let e : 1 + n + 1 ≡ suc (n + 1) = omega arith in ap (λ k. drop k (x ∷ xs)) e
    by false n = refl

cut_one : (byte b : ℕ) (bytes before after : List ℕ) (found : Bool) → (b == byte) ≡ found
    → (found || list_any (λ b. b == byte) bytes) ≡ true
    → (list_any (λ b. b == byte) bytes ≡ true → IsCut byte bytes before after)
    → IsCut byte (b ∷ bytes) (cond (not found) (b ∷ before) []) (cond (not found) after bytes)
cut_one byte b bytes before after true is some later =
    record { joined = ap (λ x. x ∷ bytes) (eqb-true b byte is); first = refl }
cut_one byte b bytes before after false is some later = record {
  joined = ap (λ xs. b ∷ xs) (later some).joined;
  first = rw is (later some).first;
}

cut_of : (byte : ℕ) (bytes : List ℕ) → list_any (λ b. b == byte) bytes ≡ true
    → IsCut byte bytes (before_first (λ b. b == byte) bytes) (after_first (λ b. b == byte) bytes)
cut_of byte [] some = absurd (cc)
cut_of byte (b ∷ bytes) some =
    rw (before_one (λ b. b == byte) b bytes, after_one (λ b. b == byte) b bytes)
    (cut_one byte b bytes (before_first (λ b. b == byte) bytes) (after_first (λ b. b == byte) bytes) (b == byte) refl
    some (cut_of byte bytes))

-- what was cut
pub cut_takes : (byte : ℕ) (kind : Kind) (bytes : List ℕ) (parts : List ℕ × List ℕ) → cut byte kind bytes ≡ Ok parts
    → IsCut byte bytes parts.0 parts.1
unfolding cut
cut_takes byte kind bytes parts is =
    by (list_any (λ b. b == byte) bytes) (before_first (λ b. b == byte) bytes, after_first (λ b. b == byte) bytes)
    (cut_of byte bytes) is
  where
    by : (some : Bool) (found : List ℕ × List ℕ) → (some ≡ true → IsCut byte bytes found.0 found.1)
        → cond some (Ok found) (Err kind) ≡ Ok parts → IsCut byte bytes parts.0 parts.1
    by true found holds is =
        let same : found ≡ parts = cc in subst (λ at. IsCut byte bytes at.0 at.1) same (holds refl)
    by false found holds is = absurd (cc)

before_front : (byte : ℕ) (front rest : List ℕ) → lacks byte front ≡ true
    → before_first (λ b. b == byte) (front ++ byte ∷ rest) ≡ front
before_front byte [] rest none = before_one (λ b. b == byte) byte rest ∙ rw (eq-eqb byte byte refl) refl
before_front byte (x ∷ front) rest none =
    let both = and_parts (not (x == byte)) (lacks byte front) none in
    before_one (λ b. b == byte) x (front ++ byte ∷ rest)
    ∙ rw both.0 (ap (λ xs. x ∷ xs) (before_front byte front rest both.1))

after_front : (byte : ℕ) (front rest : List ℕ) → lacks byte front ≡ true
    → after_first (λ b. b == byte) (front ++ byte ∷ rest) ≡ rest
after_front byte [] rest none = after_one (λ b. b == byte) byte rest ∙ rw (eq-eqb byte byte refl) refl
after_front byte (x ∷ front) rest none =
    let both = and_parts (not (x == byte)) (lacks byte front) none in
    after_one (λ b. b == byte) x (front ++ byte ∷ rest) ∙ rw both.0 (after_front byte front rest both.1)

stands : (byte : ℕ) (front rest : List ℕ) → list_any (λ b. b == byte) (front ++ byte ∷ rest) ≡ true
stands byte front rest =
    list_any-append (λ b. b == byte) front (byte ∷ rest)
    ∙ or_right (list_any (λ b. b == byte) front) (list_any (λ b. b == byte) (byte ∷ rest))
    (or_left (byte == byte) (list_any (λ b. b == byte) rest) (eq-eqb byte byte refl))

-- where it is cut
pub cut_again : (byte : ℕ) (kind : Kind) (front rest : List ℕ) → lacks byte front ≡ true
    → cut byte kind (front ++ byte ∷ rest) ≡ Ok (front, rest)
unfolding cut
cut_again byte kind front rest none =
    rw (stands byte front rest, before_front byte front rest none, after_front byte front rest none) refl
