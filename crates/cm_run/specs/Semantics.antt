-- What an application means: what its lines are parsed under, and what they and its raw keys do.
use Rattle.std.specs.Prelude.{◌≡◌, ◌<◌, ℕ, Bool, true, not, List, length, Option}
use Rattle.std.specs.List.{list_all}
use Rattle.cm_blocks.specs.Grammar.{Graph}
use Rattle.cm_blocks.specs.Setting.{Setting, setting}
use Rattle.cm_files.specs.Catalogue.{Catalogue}
use Rattle.cm_hooks.specs.Meanings.{Meanings}
use Rattle.cm_state.specs.SessionState.{SessionState}
use Rattle.cm_run.specs.declared.mode.Mode.{Mode}
use Rattle.cm_run.specs.declared.mode.Mode.TheVariants as mode

-- one act: whether memory may run out for it, the state that it leaves, and what it shows
pub record Effect (S : Type 0) : Type 0 where
  pub may_allocate : Bool
  pub state : S
  pub reply : List ℕ

-- the grammar, the rules, the catalogue and the mode of a state; the acts of a line that is confirmed, and the state
-- after one that is refused and one that is given up; what a raw key shows, and its acts; the line that waits in a
-- command file, and its acts
pub record Semantics (S : Type 0) : Type 0 where
  pub graph_of : S → Graph
  pub rules_of : S → Meanings
  pub catalogue_of : S → Catalogue
  pub mode_of : S → Mode
  pub line_effects : S → SessionState → ℕ → List (Effect S)
  pub refusal : S → S
  pub abandonment : S → S
  pub raw_echo : S → ℕ → List ℕ
  pub raw_effects : S → ℕ → List (Effect S)
  pub file_line : S → Option (List ℕ)
  pub file_line_effects : S → SessionState → ℕ → List (Effect S)

-- memory may run out for none of the acts
abbrev pub is_sparing : {S : Type 0} → List (Effect S) → Bool
is_sparing effects = list_all (λ effect. not effect.may_allocate) effects

-- nor for any act that an application means
pub record IsSparing {S : Type 0} (m : Semantics S) : Type 0 where
  pub line_effects : (state : S) (session : SessionState) (moment : ℕ)
      → is_sparing (m.line_effects state session moment) ≡ true
  pub raw_effects : (state : S) (key : ℕ) → is_sparing (m.raw_effects state key) ≡ true
  pub file_line_effects : (state : S) (session : SessionState) (moment : ℕ)
      → is_sparing (m.file_line_effects state session moment) ≡ true

-- what a line is parsed under in this state
abbrev pub setting_of : {S : Type 0} → Semantics S → S → Setting
setting_of m state = setting (m.graph_of state) (m.catalogue_of state) (m.rules_of state)

-- a line begins at a node of the grammar
abbrev pub IsModeOf : Graph → Mode → Type 0
IsModeOf graph (mode.Line node prompt takes_moment) = node < length graph.nodes
IsModeOf graph mode.Raw = Unit {0}
IsModeOf graph mode.Ended = Unit {0}

-- the line begins at this node
abbrev pub IsLineAt : Mode → ℕ → Type 0
IsLineAt (mode.Line node prompt takes_moment) at = node ≡ at
IsLineAt mode.Raw at = ⊥
IsLineAt mode.Ended at = ⊥
