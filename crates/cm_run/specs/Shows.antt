-- A display that shows the prompt and the line of a session.
use Rattle.std.specs.Prelude.{◌≡◌, ◌⊎◌, ℕ, List, [], ◌∷◌, ◌++◌, IfSome, ◌==◌, if◌then◌else◌}
use Rattle.cm_text.specs.ScreenBytes.{screen_byte}
use Rattle.cm_text.specs.Text.{IsLine}
use Rattle.cm_text.specs.declared.text.TheConstants.{JOIN}
use Rattle.cm_io.specs.Display.{ArePrinted}
use Rattle.cm_line.specs.declared.key.KeyClass.{KeyClass}
use Rattle.cm_line.specs.declared.key.KeyClass.TheVariants.{End, Stop}
use Rattle.cm_state.specs.Echo.{prompt_text}
use Rattle.cm_state.specs.SessionState.{SessionState, line_before}

-- a session whose prompt is printed bytes; its line and what control-H brings back are lines, and that is there only
-- while the line is empty
pub record IsClear (held : SessionState) : Type 0 where
  pub prompt : ArePrinted (prompt_text held.prompt)
  pub line : IsLine (line_before held)
  pub recall : IfSome held.recall IsLine
  pub empty : IfSome held.recall (λ (bytes : List ℕ). line_before held ≡ [])

-- what the last row holds where a line is added to it after these bytes: each TAB as a space, and nothing of what
-- is before a join byte, which begins a row of its own
abbrev pub row_after : List ℕ → List ℕ → List ℕ
row_after row [] = row
row_after row (byte ∷ line) = row_after (if byte == JOIN then [] else row ++ screen_byte byte ∷ []) line

-- the prompt, and after it the line, as the last row holds them
abbrev pub prompt_and_line : SessionState → List ℕ
prompt_and_line held = row_after (prompt_text held.prompt) (line_before held)

-- the display holds prompt and line
abbrev pub Shows : {D : Type 0} → (D → List ℕ → Type 0) → D → SessionState → Type 0
Shows Holds display held = Holds display (prompt_and_line held)

-- what is after the echo of a key: nothing where it finishes or gives up the line, and else prompt and line, which
-- are nothing too where it continues the line
abbrev pub ShowsAfter : {D : Type 0} → (D → List ℕ → Type 0) → KeyClass → D → SessionState → Type 0
ShowsAfter Holds End display held = Holds display []
ShowsAfter Holds Stop display held = Holds display []
ShowsAfter Holds class display held = Shows Holds display held

-- some bytes, and a line feed
pub record IsEnded (bytes : List ℕ) : Type 0 where
  pub front : List ℕ
  pub ends : front ++ 10 ∷ [] ≡ bytes

-- no bytes, or such as end with a line feed
abbrev pub EndsLine : List ℕ → Type 0
EndsLine bytes = (bytes ≡ []) ⊎ IsEnded bytes
