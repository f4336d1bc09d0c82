-- The first part of a list, and what is left of it.
-- A list in parts is a definition that carries what is begun (parts_behind): a full part is part_full, by induction
-- over the front, with no subtraction, and the last is part_short.
use Rattle.std.proofs.Common.{◌≡◌, ℕ, ◌+◌, ◌==◌, ◌<◌, true, false, List, [], ◌∷◌, ◌++◌, length, refl, sym, ap, ◌∙◌, arith, append_assoc, length-append}
use Rattle.std.proofs.lemmas.List.{append-nil}
use Rattle.cm_lists.proofs.Numbers.{lt_is_not_eq}
use Rattle.std.proofs.lemmas.Bool.{eq-eqb}
use Rattle.ex_spool.specs.Parts.{last_part, parts_after}

module _ {X : Type 0} where
  -- as many elements as fill a part are one
  pub part_full : (size : ℕ) (begun front rest : List X) → 0 < length front → length begun + length front ≡ size
      → parts_after size begun (front ++ rest) ≡ (begun ++ front) ∷ parts_after size [] rest
  part_full size begun [] rest some full = absurd (omega (arith, some))
  part_full size begun (x ∷ []) rest some full =
      let test : (length begun + 1 == size) ≡ true = eq-eqb (length begun + 1) size (omega (arith, full)) in
      rw test refl
  part_full size begun (x ∷ y ∷ more) rest some full =
      let test : (length begun + 1 == size) ≡ false = lt_is_not_eq (length begun + 1) size (omega (arith, full)) in
      let longer : length (begun ++ x ∷ []) ≡ length begun + 1 = length-append begun (x ∷ []) in
      rw test (part_full size (begun ++ x ∷ []) (y ∷ more) rest (omega arith) (omega (arith, full, longer))
      ∙ ap (λ (first : List X). first ∷ parts_after size [] rest) (append_assoc begun (x ∷ []) (y ∷ more)))

  -- fewer are the last part
  pub part_short : (size : ℕ) (begun xs : List X) → length begun + length xs < size
      → parts_after size begun xs ≡ last_part (begun ++ xs)
  part_short size begun [] short = ap last_part (sym (append-nil begun))
  part_short size begun (x ∷ xs) short =
      let test : (length begun + 1 == size) ≡ false = lt_is_not_eq (length begun + 1) size (omega (arith, short)) in
      let longer : length (begun ++ x ∷ []) ≡ length begun + 1 = length-append begun (x ∷ []) in
      rw test (part_short size (begun ++ x ∷ []) xs (omega (arith, short, longer))
      ∙ ap last_part (append_assoc begun (x ∷ []) xs))
