-- Runs that keep prompt and line on a display.
use Rattle.std.specs.Prelude.{◌≡◌, ℕ, Bool, true, false, List, [], ◌++◌}
use Rattle.cm_io.specs.Display.{ArePrinted}
use Rattle.cm_state.specs.Echo.{prompt_text}
use Rattle.cm_state.specs.SessionState.{SessionState}
use Rattle.cm_run.specs.declared.mode.Mode.{Mode}
use Rattle.cm_run.specs.declared.mode.Mode.TheVariants as mode
use Rattle.cm_run.specs.Event.{screen_bytes}
use Rattle.cm_run.specs.Semantics.{Semantics}
use Rattle.cm_run.specs.Obey.{left_by, replies}
use Rattle.cm_run.specs.Progress.{progress}
use Rattle.cm_run.specs.Trace.{RunState, is_ended, run_trace, starting, step}
use Rattle.cm_run.specs.Shows.{EndsLine, IsEnded, Shows}

-- where the next key is for a line, its prompt is printed bytes
abbrev pub HasPrintedPrompt : Mode → Type 0
HasPrintedPrompt (mode.Line node prompt takes_moment) = ArePrinted (prompt_text prompt)
HasPrintedPrompt mode.Raw = Unit {0}
HasPrintedPrompt mode.Ended = Unit {0}

-- the next key is for a line
abbrev pub is_line : Mode → Bool
is_line (mode.Line node prompt takes_moment) = true
is_line mode.Raw = false
is_line mode.Ended = false

-- an application whose prompts are printed while a fact of its state holds, as it does on after each key; what a line
-- shows in all ends with a line feed, or is nothing, and so does what a line of a command file shows; and a raw key
-- after which a line begins shows, with what it does, bytes that end with a line feed
pub record IsLineKeepingWhile {S : Type 0} (Kept : S → Type 0) (m : Semantics S) : Type 0 where
  pub kept : (at : RunState S) (key : ℕ) → is_ended (m.mode_of at.state) ≡ false → Kept at.state
      → Kept (step m at key).state
  pub prompts : (state : S) → Kept state → HasPrintedPrompt (m.mode_of state)
  pub lines : (state : S) (session : SessionState) (moment : ℕ)
      → EndsLine (replies (m.line_effects state session moment))
  pub file_lines : (state : S) (session : SessionState) (moment : ℕ)
      → EndsLine (replies (m.file_line_effects state session moment))
  pub raw_keys : (state : S) (key : ℕ) → m.mode_of state ≡ mode.Raw
      → is_line (m.mode_of (left_by state (m.raw_effects state key))) ≡ true
      → IsEnded (m.raw_echo state key ++ replies (m.raw_effects state key))

-- and one whose prompts are printed in every state
abbrev pub IsLineKeeping : {S : Type 0} → Semantics S → Type 0
IsLineKeeping {S = S} m = IsLineKeepingWhile (λ (state : S). Unit {0}) m

-- where the next key is for a line, the display shows prompt and line
abbrev pub ShowsIn : {D : Type 0} → (D → List ℕ → Type 0) → Mode → D → SessionState → Type 0
ShowsIn Holds (mode.Line node prompt takes_moment) display session = Shows Holds display session
ShowsIn Holds mode.Raw display session = Unit {0}
ShowsIn Holds mode.Ended display session = Unit {0}

-- after these bytes, so many as a run has shown by then
abbrev pub ShowsAt : {D S : Type 0} → (D → List ℕ → D) → (D → List ℕ → Type 0) → Semantics S → D → List ℕ → RunState S
    → Type 0
ShowsAt feed Holds m display bytes at = ShowsIn Holds (m.mode_of at.state) (feed display bytes) at.session

-- on a display that holds nothing, all that the run over these keys shows leaves prompt and line as they then are
unfoldable pub KeepsLine : {D S : Type 0} → (D → List ℕ → D) → (D → List ℕ → Type 0) → Semantics S → S → List ℕ → List ℕ
    → Type 0
KeepsLine {D = D} feed Holds m state moments keys = (logging : Bool) (display : D) → Holds display []
    → ShowsAt feed Holds m display (screen_bytes (run_trace m logging state moments keys))
    (progress m (starting m state moments) keys)
