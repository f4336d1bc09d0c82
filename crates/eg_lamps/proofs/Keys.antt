-- What keys change of the lamps.
use Rattle.std.proofs.Common.{◌≡◌, Bool, true, false, refl}
use Rattle.std.specs.Prelude.{if◌then◌else◌, None, Some}
use Rattle.cm_state.specs.declared.prompt.Prompt.TheVariants.{Main}
use Rattle.cm_run.specs.Idle.{EndsOnlyWhere}
use Rattle.cm_run.specs.Keeping.{is_line}
use Rattle.cm_run.specs.LineSemantics.{line_mode}
use Rattle.cm_run.proofs.LinePrograms.{ends_only}
use Rattle.eg_lamps.specs.Command.{command_of}
use Rattle.eg_lamps.specs.Program.{is_quit, lamp_semantics}
use Rattle.eg_lamps.specs.declared.grammar.TheConstants.{COMMANDS}

quits : (quit : Bool) → is_line (line_mode (if quit then None else Some (COMMANDS, Main))) ≡ false → quit ≡ true
quits true over = refl
quits false over = absurd (cc)

pub quit_ends : EndsOnlyWhere lamp_semantics (λ session. is_quit (command_of session))
quit_ends = ends_only lamp_semantics _ (λ at session over. quits (is_quit (command_of session)) over)
