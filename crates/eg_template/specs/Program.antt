-- The program: what it means.
use Rattle.std.specs.Prelude.{ℕ, ◌+◌, ◌-◌, nat_le, Bool, true, false, if◌then◌else◌, None, Some, List, [], ◌∷◌, codes}
use Rattle.std.specs.Fmt.{decimal}
use Rattle.cm_hooks.specs.Meanings.{no_meanings}
use Rattle.cm_files.specs.OneDirectory.{no_files}
use Rattle.cm_state.specs.declared.prompt.Prompt.TheVariants.{Main}
use Rattle.cm_run.specs.LineSemantics.{LineSemantics}
use Rattle.eg_template.specs.Command.{command_of}
use Rattle.eg_template.specs.Graph.{graph}
use Rattle.eg_template.specs.declared.command.Command.{Command}
use Rattle.eg_template.specs.declared.command.Command.TheVariants as commands
use Rattle.eg_template.specs.declared.grammar.TheConstants.{COMMANDS}
use Rattle.eg_template.specs.declared.program.Program.{Program}
use Rattle.eg_template.specs.declared.program.TheConstants.{MOST}

abbrev pub program_start : Program
program_start = record { grammar = tt; names = no_files; sum = 0; has_quit = false }

-- whether a sum with a number more is not too large
abbrev pub fits : ℕ → ℕ → Bool
fits number sum = nat_le number (MOST - sum)

-- with a number more; a sum that would be too large leaves it
abbrev pub added : ℕ → Program → Program
added number at = if fits number at.sum then record at { sum = at.sum + number } else at

-- what a command makes of the program
abbrev pub obeyed : Command → Program → Program
obeyed (commands.Add number) at = added number at
obeyed commands.Quit at = record at { has_quit = true }
obeyed commands.Nothing at = at

unfoldable pub too_large : List ℕ
too_large = codes "?The sum is too large"

-- the line that ADD shows: the sum, or that it would be too large
abbrev pub answer : ℕ → ℕ → List ℕ
answer number sum = if fits number sum then decimal (sum + number) else too_large

-- the lines that a command shows
abbrev pub reply : Command → ℕ → List (List ℕ)
reply (commands.Add number) sum = answer number sum ∷ []
reply command sum = []

-- a confirmed line changes the sum and shows its reply, and QUIT ends the run
abbrev pub program_semantics : LineSemantics Program
program_semantics = record {
  graph_of = λ at. graph;
  rules_of = λ at. no_meanings;
  catalogue_of = λ at. at.names;
  line_of = λ at. if at.has_quit then None else Some (COMMANDS, Main);
  state_of = λ at session. obeyed (command_of session) at;
  reply_of = λ at session. reply (command_of session) at.sum;
}
