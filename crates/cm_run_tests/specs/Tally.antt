-- An application that marks each line that it obeys: what it means.
use Rattle.std.specs.Prelude.{ℕ, ◌==◌, ◌-◌, false, if◌then◌else◌, List, [], ◌∷◌, None, Some}
use Rattle.cm_hooks.specs.Meanings.{no_meanings}
use Rattle.cm_blocks.specs.declared.field.Ending.{Ending}
use Rattle.cm_blocks.specs.declared.field.Ending.TheVariants as ending
use Rattle.cm_state.specs.SessionState.{SessionState}
use Rattle.cm_state.specs.declared.prompt.Prompt.TheVariants.{Main}
use Rattle.cm_run.specs.Semantics.{Effect, Semantics}
use Rattle.cm_run.specs.declared.mode.Mode.TheVariants as mode
use Rattle.eg_template.specs.Graph.{graph}
use Rattle.cm_run_tests.specs.declared.tally.Tally.{Tally}

-- `+` of a line that is done, and else `-`
abbrev pub mark_of : Ending → List ℕ
mark_of ending.Done = 43 ∷ []
mark_of (ending.Open place) = 45 ∷ []
mark_of (ending.Fault fault) = 45 ∷ []

-- a line is marked, and one fewer waits
abbrev pub marked : Tally → SessionState → Effect Tally
marked at session = record {
  may_allocate = false;
  state = record at { waits = at.waits - 1 };
  reply = mark_of session.ending;
}

-- lines that wait are empty
abbrev pub tally_semantics : Semantics Tally
tally_semantics = record {
  graph_of = λ at. graph;
  rules_of = λ at. no_meanings;
  catalogue_of = λ at. at.names;
  mode_of = λ at. mode.Line 0 Main false;
  line_effects = λ at session moment. marked at session ∷ [];
  refusal = λ at. at;
  abandonment = λ at. at;
  raw_echo = λ at key. [];
  raw_effects = λ at key. [];
  file_line = λ at. if at.waits == 0 then None else Some [];
  file_line_effects = λ at session moment. marked at session ∷ [];
}
