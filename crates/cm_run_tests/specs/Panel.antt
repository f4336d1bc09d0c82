-- A program of two grammars: what it means.
use Rattle.std.specs.Prelude.{ℕ, ◌==◌, Bool, true, false, if◌then◌else◌, length, List, [], ◌∷◌, codes, Option, None, Some}
use Rattle.cm_fields.specs.declared.value.Value.{Value}
use Rattle.cm_fields.specs.declared.value.Value.TheVariants as values
use Rattle.cm_hooks.specs.Meanings.{no_meanings}
use Rattle.cm_blocks.specs.Grammar.{Graph}
use Rattle.cm_blocks.specs.declared.function.Role.TheVariants as roles
use Rattle.cm_state.specs.Roles.{value_of}
use Rattle.cm_state.specs.SessionState.{SessionState}
use Rattle.cm_state.specs.declared.prompt.Prompt.TheVariants.{Main}
use Rattle.cm_run.specs.LineSemantics.{LineSemantics}
use Rattle.cm_run_tests.specs.declared.panel.Panel.{Panel}
use Rattle.cm_run_tests.specs.declared.panel.TheConstants.{DISABLE, ENABLE, ERASE}

-- the grammar of the next line
abbrev pub graph_now : Panel → Graph
graph_now at = if at.is_enabled then at.enabled else at.ordinary

abbrev pub code_by : Option Value → ℕ
code_by (Some (values.Key entry code)) = code
code_by value = 0

-- the code of the command, 0 where the line is empty
abbrev pub code_of : SessionState → ℕ
code_of held = code_by (value_of roles.Verb held.fields)

abbrev pub is_enabled_after : ℕ → Bool → Bool
is_enabled_after code was = if code == ENABLE then true else (if code == DISABLE then false else was)

unfoldable pub erased : List ℕ
erased = codes "erased"

abbrev pub reply : ℕ → List (List ℕ)
reply code = if code == ERASE then erased ∷ [] else []

abbrev pub panel_semantics : LineSemantics Panel
panel_semantics = record {
  graph_of = graph_now;
  rules_of = λ at. no_meanings;
  catalogue_of = λ at. at.names;
  line_of = λ at. if length (graph_now at).nodes == 0 then None else Some (0, Main);
  state_of = λ at session. record at { is_enabled = is_enabled_after (code_of session) at.is_enabled };
  reply_of = λ at session. reply (code_of session);
}
