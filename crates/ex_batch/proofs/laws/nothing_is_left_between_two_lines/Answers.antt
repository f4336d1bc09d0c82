use Rattle.ex_batch.proofs.Rests.{line_rested, line_rests, start_rests}
use Rattle.ex_batch.proofs.laws.nothing_is_left_between_two_lines.Goals as goal

pub returns-clause-line : goal.returns-clause-line
returns-clause-line c = λ lines place moments at found rests. (line_rested lines place moments at found rests).rests

pub returns-clause-next : goal.returns-clause-next
returns-clause-next c = line_rests

pub returns-clause-run : goal.returns-clause-run
returns-clause-run c = start_rests
