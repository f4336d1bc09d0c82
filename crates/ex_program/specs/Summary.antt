-- A generated run, and its summary.
use Rattle.std.specs.Prelude.{ℕ, ◌≡◌, ◌⊎◌, ◌+◌, ◌++◌, false, List, [], ◌∷◌, length, min, codes}
use Rattle.std.specs.Fmt.{decimal}
use Rattle.cm_text.specs.ScreenBytes.{end_of_line}
use Rattle.cm_io.specs.Fault.{last_count}
use Rattle.cm_run.specs.Event.{Event, Memory, keys_of, trials_of}
use Rattle.ex_store.specs.State.{first_state}
use Rattle.ex_take.specs.ExecState.{ExecState}
use Rattle.ex_program.specs.GeneratedKeys.{generated_keys}
use Rattle.ex_program.specs.ExecRun.{exec_left, exec_trace, run_shown}
use Rattle.ex_program.specs.declared.summary.Summary.{Summary}

-- the run over the keys of so many lines begins from the first state, and each of its moments is 0
abbrev pub generated_trace : ℕ → List (Event ExecState)
generated_trace lines = exec_trace false first_state [] (generated_keys lines)

abbrev pub generated_left : ℕ → ExecState
generated_left lines = exec_left false first_state [] (generated_keys lines)

abbrev pub generated_shown : ℕ → List ℕ
generated_shown lines = run_shown false first_state [] (generated_keys lines)

-- [summary]
-- of so many lines, how many were refused, by the parser or by what they command; how many keys were taken; how many
-- bytes were shown, as far as 64 bits count them; and how many generations there are at the end, marked ones too
abbrev pub summary_of : ℕ → Summary
summary_of lines = record {
  lines = lines;
  refused = (generated_left lines).refused;
  keys = length (keys_of (generated_trace lines));
  shown = min (length (generated_shown lines)) last_count;
  generations = length (generated_left lines).interpreter.state.rows;
}

-- a run over the keys of so many lines was cut short where an act of it asked for memory: the counter rose by the
-- trials before
pub record IsCutForMemory (lines before now : ℕ) : Type 0 where
  pub done : List (Event ExecState)
  pub rest : List (Event ExecState)
  pub split : done ++ Memory ∷ rest ≡ generated_trace lines
  pub trials : now ≡ before + trials_of done

-- memory ran out: before the run, and the counter stays, or at an act of it
abbrev pub LacksMemory : ℕ → ℕ → ℕ → Type 0
LacksMemory lines before now = (now ≡ before) ⊎ IsCutForMemory lines before now

-- what is before each figure
unfoldable pub before_lines : List ℕ
before_lines = codes "lines "

unfoldable pub before_refused : List ℕ
before_refused = codes " refused "

unfoldable pub before_keys : List ℕ
before_keys = codes " keys "

unfoldable pub before_shown : List ℕ
before_shown = codes " shown "

unfoldable pub before_generations : List ℕ
before_generations = codes " generations "

-- the line that shows it
unfoldable pub summary_text : Summary → List ℕ
summary_text it =
    before_lines ++ decimal it.lines ++ before_refused ++ decimal it.refused ++ before_keys ++ decimal it.keys
    ++ before_shown ++ decimal it.shown ++ before_generations ++ decimal it.generations ++ end_of_line
