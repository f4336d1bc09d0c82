-- Hooks answer what a set of meanings says. A hook in an antt file has a type for each of its boxed
-- functions, and what those may be called on and answer (v, c, h).
use Rattle.std.specs.Prelude.{ℕ, ◌≡◌, ◌+◌, ◌≤◌, List, [], ◌∷◌, length, Option, Some, None}
use Rattle.std.specs.Borrow.{Bor}
use Rattle.std.specs.Fn.{Mut}
use Rattle.std.specs.Coded.{Coded-set, codes}
use Rattle.cm_text.specs.declared.text.TheConstants.{LINE_LIMIT}
use Rattle.cm_hooks.specs.declared.answer.Answer.{Answer}
use Rattle.cm_hooks.specs.declared.answer.Tail.{Tail}
use Rattle.cm_hooks.specs.declared.hook.Hook.{Hook}
use Rattle.cm_hooks.specs.declared.hooks.Hooks.{Hooks}
use Rattle.cm_hooks.specs.Meanings.{Meanings}

-- it may be called on each atom of at most 255 bytes
abbrev pub IsCallable : (Bor (List ℕ) → Type 0) → Type 0
IsCallable pre = (atom : Bor (List ℕ)) → length atom.now ≤ LINE_LIMIT → pre atom

-- what it answers to each atom of at most 255 bytes is what is meant
abbrev pub Answers : {A : Type 0} → (Bor (List ℕ) → A → Type 0) → (List ℕ → A) → Type 0
Answers {A} post meaning =
    (atom : Bor (List ℕ)) → length atom.now ≤ LINE_LIMIT → (answer : A) → post atom answer
    → answer ≡ meaning atom.now

module _ {R I J K : Type 0} {F : I → Type 0} {G : J → Type 0} {H : K → Type 0}
    {v : Mut ((i : I) × F i) (Bor (List ℕ) × Unit {0}) Answer}
    {c : Mut ((j : J) × G j) (Bor (List ℕ) × Unit {0}) Tail}
    {h : Mut ((k : K) × H k) (Unit {0}) (List ℕ)} where
  -- the id of a hook
  abbrev pub id_of : Hook R I J K F G H v c h → ℕ
  id_of hook = hook.id

  -- its three functions answer what is meant by its id
  pub record IsTied (meanings : Meanings) (hook : Hook R I J K F G H v c h) : Type 0 where
    pub verdict :
        Answers (λ atom. v.post (hook.verdict.vtable, hook.verdict.value) (atom, tt)) (meanings.verdict hook.id)
    pub completion : Answers (λ atom. c.post (hook.completion.vtable, hook.completion.value) (atom, tt))
        (meanings.completion hook.id)
    pub help : (text : List ℕ) → h.post (hook.help.vtable, hook.help.value) tt text
        → text ≡ meanings.help hook.id

  -- the hooks, each at its place
  abbrev pub held : Hooks R I J K F G H v c h → List (Option (Hook R I J K F G H v c h))
  held hooks = hooks.hooks.items

  -- how many there are
  abbrev pub count : Hooks R I J K F G H v c h → ℕ
  count hooks = length (held hooks)

  -- a hook is held here that has this id and answers what is meant by it
  abbrev pub IsTiedAt : Meanings → ℕ → Option (Hook R I J K F G H v c h) → Type 0
  IsTiedAt meanings id None = ⊥
  IsTiedAt meanings id (Some hook) = (id_of hook ≡ id) × IsTied meanings hook

  -- so it is at each place, the first of which is this one
  abbrev pub AreTied : Meanings → ℕ → List (Option (Hook R I J K F G H v c h)) → Type 0
  AreTied meanings id [] = Unit {0}
  AreTied meanings id (hook ∷ more) = IsTiedAt meanings id hook × AreTied meanings (id + 1) more

  -- each held hook has the id of its place, and answers what is meant by it
  pub record Ties (meanings : Meanings) (hooks : Hooks R I J K F G H v c h) : Type 0 where
    pub each : AreTied meanings 0 (held hooks)

  tied_at-prop : (meanings : Meanings) (id : ℕ) (hook : Option (Hook R I J K F G H v c h))
      → IsProp (IsTiedAt meanings id hook)
  tied_at-prop meanings id None = hlevel
  tied_at-prop meanings id (Some hook) = hlevel (Coded-set, codes)

  are_tied-prop : (meanings : Meanings) (id : ℕ) (hooks : List (Option (Hook R I J K F G H v c h)))
      → IsProp (AreTied meanings id hooks)
  are_tied-prop meanings id [] = hlevel
  are_tied-prop meanings id (hook ∷ more) =
      let here = tied_at-prop meanings id hook in
      let rest = are_tied-prop meanings (id + 1) more in
      hlevel

  -- in one way alone
  pub Ties-prop : (meanings : Meanings) (hooks : Hooks R I J K F G H v c h) → IsProp (Ties meanings hooks)
  Ties-prop meanings hooks =
      let each = are_tied-prop meanings 0 (held hooks) in
      hlevel
