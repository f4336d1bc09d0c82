-- A program that acts by lines alone, and what it means to the engine.
use Rattle.std.specs.Prelude.{ℕ, false, List, [], ◌∷◌, Option, None, Some, IfSome}
use Rattle.cm_blocks.specs.Grammar.{Graph}
use Rattle.cm_files.specs.Catalogue.{Catalogue}
use Rattle.cm_hooks.specs.Meanings.{Meanings}
use Rattle.cm_io.specs.Display.{ArePrinted}
use Rattle.cm_io.specs.Pieces.{shown_lines}
use Rattle.cm_state.specs.Echo.{prompt_text}
use Rattle.cm_state.specs.SessionState.{SessionState}
use Rattle.cm_state.specs.declared.prompt.Prompt.{Prompt}
use Rattle.cm_run.specs.Semantics.{Effect, Semantics}
use Rattle.cm_run.specs.declared.mode.Mode.{Mode}
use Rattle.cm_run.specs.declared.mode.Mode.TheVariants as mode

-- the grammar, the rules and the catalogue of a state; the node and the prompt of the next line, none where the program
-- has ended; and of a line that is confirmed the state that it leaves, and the lines that it shows
pub record LineSemantics (S : Type 0) : Type 0 where
  pub graph_of : S → Graph
  pub rules_of : S → Meanings
  pub catalogue_of : S → Catalogue
  pub line_of : S → Option (ℕ × Prompt)
  pub state_of : S → SessionState → S
  pub reply_of : S → SessionState → List (List ℕ)

-- the prompt of that line, if there is one, is printed bytes
abbrev pub HasPrinted : Option (ℕ × Prompt) → Type 0
HasPrinted line = IfSome line (λ (it : ℕ × Prompt). ArePrinted (prompt_text it.1))

-- the next key is for that line, which takes no moment
abbrev pub line_mode : Option (ℕ × Prompt) → Mode
line_mode (Some line) = mode.Line line.0 line.1 false
line_mode None = mode.Ended

-- a confirmed line is one act, which takes no memory
abbrev pub line_effect : {S : Type 0} → LineSemantics S → S → SessionState → Effect S
line_effect p state session = record {
  may_allocate = false;
  state = p.state_of state session;
  reply = shown_lines (p.reply_of state session);
}

-- confirmed lines act alone: one that is refused or given up changes nothing, and there are no raw keys and no command
-- files
abbrev pub lines_only : {S : Type 0} → LineSemantics S → Semantics S
lines_only p = record {
  graph_of = p.graph_of;
  rules_of = p.rules_of;
  catalogue_of = p.catalogue_of;
  mode_of = λ state. line_mode (p.line_of state);
  line_effects = λ state session moment. line_effect p state session ∷ [];
  refusal = λ state. state;
  abandonment = λ state. state;
  raw_echo = λ state key. [];
  raw_effects = λ state key. [];
  file_line = λ state. None;
  file_line_effects = λ state session moment. [];
}
