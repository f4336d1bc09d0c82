use Rattle.cm_run.proofs.LinePrograms.{keeps_lines}
use Rattle.cm_run.proofs.laws.a_line_program_keeps_its_lines.Goals as goal

pub returns : goal.returns
returns g c = keeps_lines g.P.LineProgram.means g.P.LineProgram.keeps g.P.LineProgram.prompts g.P.LineProgram.kept
