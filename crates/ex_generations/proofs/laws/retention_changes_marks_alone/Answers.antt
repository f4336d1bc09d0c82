use Rattle.ex_generations.proofs.Retention.{retained-marks}
use Rattle.ex_generations.proofs.laws.retention_changes_marks_alone.Goals as goal

pub returns : goal.returns
returns c = retained-marks
