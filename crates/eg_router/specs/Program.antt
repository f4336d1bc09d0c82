-- The program: what it means.
use Rattle.std.specs.Prelude.{ℕ, List, codes, Option, None, Some}
use Rattle.cm_state.specs.Label.{label_of}
use Rattle.cm_state.specs.declared.prompt.Prompt.{Prompt}
use Rattle.cm_state.specs.declared.prompt.Prompt.TheVariants.{Named}
use Rattle.cm_run.specs.LineSemantics.{LineSemantics}
use Rattle.eg_router.specs.Command.{command_of}
use Rattle.eg_router.specs.Configuration.{reply}
use Rattle.eg_router.specs.Graph.{router_graph}
use Rattle.eg_router.specs.Interfaces.{name_at}
use Rattle.eg_router.specs.Router.{obeyed}
use Rattle.eg_router.specs.Rules.{router_rules}
use Rattle.eg_router.specs.declared.grammar.TheConstants.{CONFIGURATION_LINES, INTERFACE_LINES, PRIVILEGED_LINES, PROTOCOL_LINES, USER_LINES}
use Rattle.eg_router.specs.declared.interface.Interface.{Interface}
use Rattle.eg_router.specs.declared.router.Mode.{Mode}
use Rattle.eg_router.specs.declared.router.Mode.TheVariants as modes
use Rattle.eg_router.specs.declared.router.Router.{Router}

-- a name and a mark after it
abbrev pub prompt : List ℕ → List ℕ → Prompt
prompt name mark = Named (label_of name) (label_of mark)

-- in each mode the node where a line begins, and its prompt: the name of the interface whose mode it is, or what the
-- mode is called; and a mark, `>` in the first mode, and then `#`
abbrev pub line_in : Mode → List Interface → Option (ℕ × Prompt)
line_in modes.User interfaces = Some (USER_LINES, prompt (codes "router") (codes ">"))
line_in modes.Privileged interfaces = Some (PRIVILEGED_LINES, prompt (codes "router") (codes "#"))
line_in modes.Configuration interfaces = Some (CONFIGURATION_LINES, prompt (codes "router(config)") (codes "#"))
line_in (modes.Interface at) interfaces = Some (INTERFACE_LINES, prompt (name_at at interfaces) (codes "#"))
line_in modes.Protocol interfaces = Some (PROTOCOL_LINES, prompt (codes "router(config-router)") (codes "#"))
line_in modes.Ended interfaces = None

-- its interfaces are the rules; a line that is confirmed does what it commands, and shows its reply
abbrev pub router_semantics : LineSemantics Router
router_semantics = record {
  graph_of = λ at. router_graph;
  rules_of = λ at. router_rules at.interfaces;
  catalogue_of = λ at. at.names;
  line_of = λ at. line_in at.mode at.interfaces;
  state_of = λ at session. obeyed (command_of session) at;
  reply_of = λ at session. reply (command_of session) at.interfaces;
}
