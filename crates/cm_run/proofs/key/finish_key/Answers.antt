use Rattle.std.proofs.Common.{[], ◌∷◌}
use Rattle.cm_io.specs.Contents.{Nothing}
use Rattle.cm_run.proofs.MomentLaws.{turned}
use Rattle.cm_run.proofs.Outcomes.{abandons_next, edits_next, fails_next, refuses_next}
use Rattle.cm_run.proofs.key.finish_key.Goals as goal

pub returns-in-Edited-clause-leads : goal.returns-in-Edited-clause-leads
returns-in-Edited-clause-leads g c = λ done. turned g.A.Application.means _ _ _ _ _ _ c.in-Edited.is (record {
  given = [];
  leads = λ moment more. edits_next g.A.Application.means Nothing [] 0 (moment ∷ more) c.args.session.now c.args.app.now _;
})

pub returns-in-Failed-clause-leads : goal.returns-in-Failed-clause-leads
returns-in-Failed-clause-leads g c = λ done. turned g.A.Application.means _ _ _ _ _ _ c.in-Failed.is (record {
  given = [];
  leads = λ moment more. fails_next g.A.Application.means Nothing [] 0 (moment ∷ more) c.args.session.now c.args.app.now _;
})

pub returns-in-Refused-clause-leads : goal.returns-in-Refused-clause-leads
returns-in-Refused-clause-leads g c = λ done. turned g.A.Application.means _ _ _ _ _ _ c.in-Refused.is (record {
  given = [];
  leads = λ moment more.
      refuses_next g.A.Application.means Nothing [] 0 (moment ∷ more) c.args.session.now _ c.args.app.now _ _ _ c.refuse.ensures c.open_line.ensures.session;
})

pub returns-in-Abandoned-clause-leads : goal.returns-in-Abandoned-clause-leads
returns-in-Abandoned-clause-leads g c = λ done. turned g.A.Application.means _ _ _ _ _ _ c.in-Abandoned.is (record {
  given = [];
  leads = λ moment more.
      abandons_next g.A.Application.means Nothing [] 0 (moment ∷ more) c.args.session.now _ c.args.app.now _ _ c.abandon.ensures c.open_line-in-Abandoned.ensures.session;
})
