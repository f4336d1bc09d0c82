-- Lines of command files.
-- file_trace is unfoldable, since a number that a definition recurses on unrolls where it is a literal (FILE_LINES).
use Rattle.std.proofs.Common.{◌≡◌, ℕ, ◌+◌, List, [], ◌∷◌, refl, sym, arith}
use Rattle.std.specs.Prelude.{None, Result}
use Rattle.cm_text.specs.Text.{finished}
use Rattle.cm_io.specs.Contents.{Contents}
use Rattle.cm_io.proofs.Additions.{add_none}
use Rattle.cm_line.specs.declared.key.KeyClass.TheVariants.{End}
use Rattle.cm_blocks.specs.Setting.{Setting}
use Rattle.cm_state.specs.Edit.{edited_as}
use Rattle.cm_state.specs.SessionState.{at_start, text_of}
use Rattle.cm_state.specs.declared.prompt.Prompt.TheVariants.{Main}
use Rattle.cm_run.specs.declared.stop.Stop.{Stop}
use Rattle.cm_run.specs.Event.{Trials}
use Rattle.cm_run.specs.Observation.{Performs, observation}
use Rattle.cm_run.specs.Cut.{Traces}
use Rattle.cm_run.specs.Semantics.{Effect}
use Rattle.cm_run.specs.Obey.{Obeys, stage}
use Rattle.cm_run.specs.Trace.{effects_trace}
use Rattle.cm_run.proofs.Effects.{effects_traces}
use Rattle.cm_run.proofs.Joins.{traces_both}

-- a line of a command file, finished, is the text of the session that has read it
pub file_text : (s : Setting) (node : ℕ) (line : List ℕ) → text_of (edited_as s (record (at_start node Main None) { line = line }) End 13) ≡ finished line
unfolding edited_as
file_text s node line = refl

-- it begins at its node
pub file_node : (s : Setting) (node : ℕ) (line : List ℕ) → (edited_as s (record (at_start node Main None) { line = line }) End 13).node ≡ node
unfolding edited_as
file_node s node line = refl

-- its trials are counted
counted : {S : Type 0} (screen log : Contents) (keys : List ℕ) (gets : ℕ) (moments : List ℕ) (trials trials' cost : ℕ) (state : S) → trials' ≡ trials + cost
    → Performs (observation screen log keys gets moments trials state) (observation screen log keys gets moments trials' state) (Trials cost ∷ [])
unfolding Performs
counted screen log keys gets moments trials trials' cost state rises = record {
  screen = sym (add_none screen);
  log = sym (add_none log);
  keys = refl;
  gets = refl;
  moments = refl;
  trials = omega arith;
  state = refl;
}

-- and then it acts
pub line_traces : {S : Type 0} (screen now log : Contents) (keys : List ℕ) (gets : ℕ) (moments : List ℕ) (trials trials' cost : ℕ) (state left : S) (effects : List (Effect S)) (result : Result Unit Stop)
    → trials' ≡ trials + cost → Obeys (stage screen state) (stage now left) effects result
    → Traces (observation screen log keys gets moments trials state) (observation now log keys gets moments trials' left) (Trials cost ∷ effects_trace effects) result
line_traces screen now log keys gets moments trials trials' cost state left effects result rises obeys =
    traces_both (observation screen log keys gets moments trials state) (observation screen log keys gets moments trials' state) (observation now log keys gets moments trials' left)
    (Trials cost ∷ []) (effects_trace effects) result
    (effects_traces log keys gets moments trials' effects screen now state left result obeys)
    (counted screen log keys gets moments trials trials' cost state rises)
