use Rattle.ex_take.proofs.KeptLines.{exec_keeps_lines}
use Rattle.ex_take.proofs.laws.the_exec_keeps_its_lines.Goals as goal

pub returns : goal.returns
returns c = exec_keeps_lines
