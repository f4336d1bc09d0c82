-- The program: what it means.
use Rattle.std.specs.Prelude.{Bool, true, false, if◌then◌else◌, List, None, Some}
use Rattle.cm_files.specs.OneDirectory.{no_files}
use Rattle.cm_state.specs.declared.prompt.Prompt.TheVariants.{Main}
use Rattle.cm_run.specs.LineSemantics.{LineSemantics}
use Rattle.eg_lamps.specs.Command.{command_of}
use Rattle.eg_lamps.specs.Graph.{lamp_graph}
use Rattle.eg_lamps.specs.Lamps.{dark_lamps, lamp_meanings, obeyed, reply}
use Rattle.eg_lamps.specs.declared.grammar.TheConstants.{COMMANDS}
use Rattle.eg_lamps.specs.declared.lamps.Command.{Command}
use Rattle.eg_lamps.specs.declared.lamps.Command.TheVariants as commands
use Rattle.eg_lamps.specs.declared.lamps.Lamp.{Lamp}

-- the lamps, by the numbers of their rooms, and whether QUIT has acted
pub record State : Type 0 where
  pub lamps : List Lamp
  pub has_quit : Bool

-- all lamps are dark
abbrev pub lamp_start : State
lamp_start = record { lamps = dark_lamps; has_quit = false }

abbrev pub is_quit : Command → Bool
is_quit commands.Quit = true
is_quit command = false

-- a confirmed line changes the lamps and shows its reply, and QUIT ends the run
abbrev pub lamp_semantics : LineSemantics State
lamp_semantics = record {
  graph_of = λ at. lamp_graph;
  rules_of = λ at. lamp_meanings;
  catalogue_of = λ at. no_files;
  line_of = λ at. if at.has_quit then None else Some (COMMANDS, Main);
  state_of = λ at session. record {
    lamps = obeyed (command_of session) at.lamps;
    has_quit = is_quit (command_of session);
  };
  reply_of = λ at session. reply (command_of session) at.lamps;
}
