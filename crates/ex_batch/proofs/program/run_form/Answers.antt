use Rattle.std.proofs.Common.{ℕ, List, IsTrue, refl, subst}
use Rattle.cm_io.specs.declared.status.Status.TheVariants as status
use Rattle.ex_store.specs.State.{State}
use Rattle.ex_system.specs.Disk.{disk_of}
use Rattle.ex_system.specs.Saving.{Saves}
use Rattle.ex_system.proofs.Starts.{began_cause}
use Rattle.ex_batch.specs.Request.{job_view}
use Rattle.ex_batch.specs.RunEnd.{Ran, scene}
use Rattle.ex_batch.proofs.Outcomes.{course_early, course_past}
use Rattle.ex_batch.proofs.program.run_form.Goals as goal

pub returns-in-Err : goal.returns-in-Err
returns-in-Err g c =
    course_early (IsTrue g.C.Clock.tells) (job_view c.args.asked.now)
    (scene g.S.Sink c.args.screen.now g.C.Clock c.args.clock.now c.args.steps.now)
    (scene g.S.Sink c.refuse.new.screen g.C.Clock c.args.clock.now c.args.steps.now)
    (disk_of g.H.Host c.args.host.now) (disk_of g.H.Host c.start.new.host) c.in-Err.status c.refuse.result c.refuse.ensures.status
    c.in-Err.ensures.early c.in-Err.ensures.cause c.in-Err.ensures.host_cause c.refuse.ensures.shown c.in-Err.ensures.loaded refl

pub returns-in_default : goal.returns-in_default
returns-in_default g c =
    course_early (IsTrue g.C.Clock.tells) (job_view c.args.asked.now)
    (scene g.S.Sink c.args.screen.now g.C.Clock c.args.clock.now c.args.steps.now)
    (scene g.S.Sink c.refuse-in_default.new.screen g.C.Clock c.args.clock.now c.args.steps.now)
    (disk_of g.H.Host c.args.host.now) (disk_of g.H.Host c.start.new.host) status.NoMemory c.refuse-in_default.result c.refuse-in_default.ensures.status
    tt (began_cause (disk_of g.H.Host c.args.host.now) (job_view c.args.asked.now).form.input c.in-Ok.store.state status.NoMemory c.in-Ok.ensures.began tt)
    c.in-Ok.ensures.quiet c.refuse-in_default.ensures.shown c.in-Ok.ensures.loaded refl

pub returns : goal.returns
returns g c =
    course_past (IsTrue g.C.Clock.tells) (job_view c.args.asked.now)
    (scene g.S.Sink c.args.screen.now g.C.Clock c.args.clock.now c.args.steps.now)
    (scene g.S.Sink c.close.new.screen g.C.Clock c.run_file-how.new.clock c.run_file-how.new.steps)
    (disk_of g.H.Host c.args.host.now) (disk_of g.H.Host c.close.new.host) c.close.result
    (record {
      start = c.in-Ok.store.state;
      left = c.run_file-how.new.job;
      how = c.run_file-how.result;
      at = scene g.S.Sink c.run_file-how.new.screen g.C.Clock c.run_file-how.new.clock c.run_file-how.new.steps;
      loaded = disk_of g.H.Host c.start.new.host;
      begins = (c.in-Ok.ensures.loaded, c.in-Ok.ensures.quiet, c.in-Ok.ensures.began);
      ran = subst (λ (it : List ℕ). Ran (IsTrue g.C.Clock.tells) it c.in-Ok.store.state c.run_file-how.new.job c.run_file-how.result
          (scene g.S.Sink c.args.screen.now g.C.Clock c.args.clock.now c.args.steps.now)
          (scene g.S.Sink c.run_file-how.new.screen g.C.Clock c.run_file-how.new.clock c.run_file-how.new.steps)) c.as_bytes.ensures.value
          (c.run_file-how.ensures c.in-Ok.store.state c.new-job.ensures);
      closes = c.close.ensures.closes;
      rest = refl;
      saves = subst (λ (it : State). Saves (disk_of g.H.Host c.start.new.host) (disk_of g.H.Host c.close.new.host) (job_view c.args.asked.now).form.out it c.close.result)
          c.store-left.ensures c.close.ensures.saved;
    })
