-- Lists of hooks that answer what is meant.
use Rattle.std.proofs.Common.{◌≡◌, ℕ, zero, suc, ◌+◌, ◌<◌, List, [], ◌∷◌, ◌++◌, length, get_or, Option, Some, arith, subst, sym}
use Rattle.std.specs.Borrow.{Bor}
use Rattle.std.specs.Fn.{Mut}
use Rattle.cm_hooks.specs.declared.answer.Answer.{Answer}
use Rattle.cm_hooks.specs.declared.answer.Tail.{Tail}
use Rattle.cm_hooks.specs.declared.hook.Hook.{Hook}
use Rattle.cm_hooks.specs.Meanings.{Meanings}
use Rattle.cm_hooks.specs.Ties.{AreTied, IsTied, IsTiedAt, id_of}

module _ {R I J K : Type 0} {F : I → Type 0} {G : J → Type 0} {H : K → Type 0}
    {v : Mut ((i : I) × F i) (Bor (List ℕ) × Unit {0}) Answer}
    {c : Mut ((j : J) × G j) (Bor (List ℕ) × Unit {0}) Tail}
    {h : Mut ((k : K) × H k) (Unit {0}) (List ℕ)} where
  -- so it is at any place of them
  tied-at : (meanings : Meanings) (id : ℕ) (hooks : List (Option (Hook R I J K F G H v c h))) (i : ℕ)
      (other : Option (Hook R I J K F G H v c h)) → i < length hooks → AreTied meanings id hooks
      → IsTiedAt meanings (id + i) (get_or hooks i other)
  tied-at meanings id [] i other within ties = absurd (omega (arith, within))
  tied-at meanings id (hook ∷ more) zero other within ties =
      let here : id ≡ id + 0 = omega arith in
      subst (λ n. IsTiedAt meanings n hook) here ties.0
  tied-at meanings id (hook ∷ more) (suc i) other within ties =
      let here : id + 1 + i ≡ id + suc i = omega arith in
      subst (λ n. IsTiedAt meanings n (get_or more i other)) here (tied-at meanings (id + 1) more i other (omega (arith, within)) ties.1)

  -- and what is read at a place is tied there
  pub tied_hook : (meanings : Meanings) (hooks read : List (Option (Hook R I J K F G H v c h))) (id i : ℕ)
      (hook : Option (Hook R I J K F G H v c h)) → AreTied meanings 0 hooks → id < length hooks → read ≡ hooks → i ≡ id
      → hook ≡ get_or read i hook → IsTiedAt meanings id hook
  tied_hook meanings hooks read id i hook ties within same place is =
      let here : hook ≡ get_or hooks id hook = rw (← same, ← place) is in
      let there : 0 + id ≡ id = omega arith in
      subst (λ x. IsTiedAt meanings id x) (sym here)
      (subst (λ n. IsTiedAt meanings n (get_or hooks id hook)) there (tied-at meanings 0 hooks id hook within ties))

  -- one more, with the next id
  pub tied-append : (meanings : Meanings) (id : ℕ) (hooks : List (Option (Hook R I J K F G H v c h)))
      (hook : Hook R I J K F G H v c h) → AreTied meanings id hooks → id_of hook ≡ id + length hooks → IsTied meanings hook
      → AreTied meanings id (hooks ++ Some hook ∷ [])
  tied-append meanings id [] hook ties next tied = ((omega (arith, next), tied), tt)
  tied-append meanings id (first ∷ more) hook ties next tied =
      (ties.0, tied-append meanings (id + 1) more hook ties.1 (omega (arith, next)) tied)
