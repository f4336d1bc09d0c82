use Rattle.std.proofs.Common.{[], ◌∷◌, ◌++◌}
use Rattle.cm_io.specs.Contents.{Nothing}
use Rattle.cm_run.specs.Moments.{given_if}
use Rattle.cm_run.specs.Trace.{takes_moment}
use Rattle.cm_run.proofs.MomentLaws.{first_given, others_given}
use Rattle.cm_run.proofs.Outcomes.{acts_cut, acts_next, acts_on}
use Rattle.cm_run.proofs.key.act.Goals as goal

pub returns-in-Ok-clause-traces : goal.returns-in-Ok-clause-traces
returns-in-Ok-clause-traces g c = λ tells log keys gets.
    acts_on g.A.Application.means log keys gets (g.C.Clock.left c.args.clock.now) _ _ _ _ _ _ _ _ _ _ _ _
    (c.open_line.ensures.traces log keys gets _ _) (c.in-Ok.ensures.traces log keys gets _)
    (c.moment_of-moment.ensures.moment tells) (c.moment_of-moment.ensures.later tells)

pub returns-in-Ok-clause-next : goal.returns-in-Ok-clause-next
returns-in-Ok-clause-next g c = λ tells done.
    acts_next g.A.Application.means Nothing [] 0 (g.C.Clock.left c.args.clock.now) _ _ _ _ _ _ _ _ _ _ _
    (c.in-Ok.ensures.traces Nothing [] 0 _)
    (c.moment_of-moment.ensures.moment tells) (c.moment_of-moment.ensures.later tells) c.open_line.ensures.session

pub returns-in-Err-clause-traces : goal.returns-in-Err-clause-traces
returns-in-Err-clause-traces g c = λ tells log keys gets.
    acts_cut g.A.Application.means log keys gets (g.C.Clock.left c.args.clock.now) _ _ _ _ _ _ _ _
    (c.in-Err.ensures.traces log keys gets _)
    (c.moment_of-moment.ensures.moment tells) (c.moment_of-moment.ensures.later tells)

pub returns-in-Ok-clause-leads : goal.returns-in-Ok-clause-leads
returns-in-Ok-clause-leads g c = λ done.
    let takes = takes_moment (g.A.Application.means.mode_of c.args.app.now) in
    record {
      given = given_if takes c.moment_of-moment.result;
      leads = λ moment more.
          acts_next g.A.Application.means Nothing [] 0 (given_if takes c.moment_of-moment.result ++ moment ∷ more) _ _ _ _ _ _ _ _ _ _ _
          (c.in-Ok.ensures.traces Nothing [] 0 _)
          (first_given takes c.moment_of-moment.result moment more c.moment_of-moment.ensures.none)
          (others_given takes c.moment_of-moment.result moment more) c.open_line.ensures.session;
    }
