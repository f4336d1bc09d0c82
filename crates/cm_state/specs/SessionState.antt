-- What a session holds, as callers see it.
use Rattle.std.specs.Prelude.{◌≡◌, ℕ, ◌<◌, Bool, false, List, [], length, Option, if◌then◌else◌}
use Rattle.cm_text.specs.Text.{finished}
use Rattle.cm_blocks.specs.declared.field.Ending.{Ending}
use Rattle.cm_blocks.specs.Parse.{Parse, open_at, parse_of}
use Rattle.cm_blocks.specs.Setting.{Setting}
use Rattle.cm_blocks.specs.FieldView.{FieldView}
use Rattle.cm_state.specs.declared.prompt.Prompt.{Prompt}

-- the line, whether it is finished, its parse from a node on, and the line that control-H brings back
pub record SessionState : Type 0 where
  pub node : ℕ
  pub prompt : Prompt
  pub line : List ℕ
  pub is_finished : Bool
  pub fields : List FieldView
  pub ending : Ending
  pub recall : Option (List ℕ)

-- the whole text: the line, or the line and the CR that finished it
abbrev pub text_of : SessionState → List ℕ
text_of held = if held.is_finished then finished held.line else held.line

-- the line that a key meets: none after a finished text
abbrev pub line_before : SessionState → List ℕ
line_before held = if held.is_finished then [] else held.line

-- the parse that is held
abbrev pub parse_held : SessionState → Parse
parse_held held = record { fields = held.fields; ending = held.ending }

-- an empty line that nothing is known of yet
abbrev pub at_start : ℕ → Prompt → Option (List ℕ) → SessionState
at_start node prompt recall = record {
  node = node;
  prompt = prompt;
  line = [];
  is_finished = false;
  fields = [];
  ending = open_at node 0;
  recall = recall;
}

-- ready for a key under a grammar, a catalogue and the meanings of hooks: the start node is one of the grammar,
-- and unless the line is finished, its parse is held
pub record IsReady (s : Setting) (held : SessionState) : Type 0 where
  pub node : held.node < length s.graph.nodes
  pub parse : held.is_finished ≡ false → parse_held held ≡ parse_of s held.node held.line
