-- Acts that are done in order, each with its reply.
use Rattle.std.specs.Prelude.{◌≡◌, ℕ, true, List, [], ◌∷◌, ◌++◌, Result, Ok, Err}
use Rattle.cm_io.specs.Contents.{Contents, AddsPart, add}
use Rattle.cm_run.specs.declared.stop.Stop.{Stop}
use Rattle.cm_run.specs.declared.stop.Stop.TheVariants as stop
use Rattle.cm_run.specs.Semantics.{Effect}

-- what the screen tells, and the state
pub record Stage (S : Type 0) : Type 0 where
  pub screen : Contents
  pub state : S

abbrev pub stage : {S : Type 0} → Contents → S → Stage S
stage screen state = record { screen = screen; state = state }

-- what acts show in all, and the state that the last of them leaves
abbrev pub replies : {S : Type 0} → List (Effect S) → List ℕ
replies [] = []
replies (effect ∷ effects) = effect.reply ++ replies effects

abbrev pub left_by : {S : Type 0} → S → List (Effect S) → S
left_by state [] = state
left_by state (effect ∷ effects) = left_by effect.state effects

-- all acts are done, and their replies put
abbrev pub after : {S : Type 0} → Stage S → List (Effect S) → Stage S
after before effects = stage (add before.screen (replies effects)) (left_by before.state effects)

-- one of the acts, after those that are done
pub record Place {S : Type 0} (effects : List (Effect S)) : Type 0 where
  pub done : List (Effect S)
  pub effect : Effect S
  pub rest : List (Effect S)
  pub split : done ++ effect ∷ rest ≡ effects

-- the acts before one are done and their replies put; that one is done, and a part of its reply put
pub record IsReplyCut {S : Type 0} (before now : Stage S) (effects : List (Effect S)) : Type 0 where
  pub at : Place effects
  pub screen : AddsPart (after before at.done).screen now.screen at.effect.reply
  pub state : now.state ≡ at.effect.state

-- the acts before one are done and their replies put; for that one memory ran out, and it is not done
pub record IsWanting {S : Type 0} (before now : Stage S) (effects : List (Effect S)) : Type 0 where
  pub at : Place effects
  pub may_allocate : at.effect.may_allocate ≡ true
  pub stands : now ≡ after before at.done

-- the acts are done, or cut short by the screen or by lack of memory
unfoldable pub Obeys : {S : Type 0} → Stage S → Stage S → List (Effect S) → Result Unit Stop → Type 0
Obeys before now effects (Ok value) = now ≡ after before effects
Obeys before now effects (Err stop.Screen) = IsReplyCut before now effects
Obeys before now effects (Err stop.Memory) = IsWanting before now effects
Obeys before now effects (Err stop.Log) = ⊥
Obeys before now effects (Err stop.Keys) = ⊥
Obeys before now effects (Err stop.Limit) = ⊥
