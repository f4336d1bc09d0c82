use Rattle.std.proofs.Common.{ℕ, [], subst}
use Rattle.cm_io.specs.Contents.{Number}
use Rattle.cm_run.specs.LineRun.{LineRun}
use Rattle.cm_run.specs.Observation.{observation}
use Rattle.cm_run.proofs.streams.run_counted.Goals as goal

pub returns-clause-stands : goal.returns-clause-stands
returns-clause-stands g c = λ keys_tell. (
  c.run_line_program.new.steps,
  subst (λ (trials : ℕ). LineRun g.P.LineProgram.means
      (observation (g.S.Sink.contents c.args.screen.now) (Number 0) (g.K.Source.left c.args.keys.now)
      (g.K.Source.gets c.args.keys.now) [] trials c.args.program.now)
      (observation (g.S.Sink.contents c.run_line_program.new.screen) (Number 0)
      (g.K.Source.left c.run_line_program.new.keys) (g.K.Source.gets c.run_line_program.new.keys) []
      c.run_line_program.new.steps c.run_line_program.new.program)
      c.run_line_program.result) c.new-steps.ensures (c.run_line_program.ensures.stands keys_tell),
)
