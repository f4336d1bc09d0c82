use Rattle.cm_io.specs.declared.status.Status.TheVariants as status
use Rattle.ex_system.specs.WordViews.{form_view}
use Rattle.ex_system.specs.Disk.{disk_of}
use Rattle.ex_system.proofs.Starts.{began_cause}
use Rattle.ex_run.specs.Over.{over}
use Rattle.ex_run.specs.Scene.{scene}
use Rattle.ex_run.proofs.Courses.{course_early, course_past}
use Rattle.ex_run.proofs.program.run_program.Goals as goal

-- before the first prompt
pub returns-in-Err : goal.returns-in-Err
returns-in-Err g c =
    course_early _ (over g.A.Application.means g.P.Program.begins g.P.Program.store_of) g.met.P.Program.keeps_lines (form_view c.args.form.now)
    (scene g.S.Sink c.args.screen.now g.W.Sink c.args.log.now g.K.Source c.args.keys.now g.C.Clock c.args.clock.now c.args.steps.now)
    (g.S.Sink.contents c.refuse.new.screen) (g.S.Sink.faults c.refuse.new.screen)
    (disk_of g.H.Host c.args.host.now) (disk_of g.H.Host c.start.new.host) c.in-Err.status c.in-Err.ensures.early c.in-Err.ensures.cause
    c.in-Err.ensures.host_cause c.refuse.ensures.shown c.in-Err.ensures.loaded c.refuse.result c.refuse.ensures.status

pub returns-in_default : goal.returns-in_default
returns-in_default g c =
    course_early _ (over g.A.Application.means g.P.Program.begins g.P.Program.store_of) g.met.P.Program.keeps_lines (form_view c.args.form.now)
    (scene g.S.Sink c.args.screen.now g.W.Sink c.args.log.now g.K.Source c.args.keys.now g.C.Clock c.args.clock.now c.args.steps.now)
    (g.S.Sink.contents c.refuse-in_default.new.screen) (g.S.Sink.faults c.refuse-in_default.new.screen)
    (disk_of g.H.Host c.args.host.now) (disk_of g.H.Host c.start.new.host) status.NoMemory tt
    (began_cause (disk_of g.H.Host c.args.host.now) (form_view c.args.form.now).input c.in-Ok.store.state status.NoMemory c.in-Ok.ensures.began tt)
    c.in-Ok.ensures.quiet c.refuse-in_default.ensures.shown c.in-Ok.ensures.loaded c.refuse-in_default.result c.refuse-in_default.ensures.status

-- past it
pub returns : goal.returns
returns g c =
    course_past _ (over g.A.Application.means g.P.Program.begins g.P.Program.store_of) g.met.P.Program.keeps_lines (form_view c.args.form.now)
    c.in-Ok.store.state
    (scene g.S.Sink c.args.screen.now g.W.Sink c.args.log.now g.K.Source c.args.keys.now g.C.Clock c.args.clock.now c.args.steps.now)
    _ (disk_of g.H.Host c.args.host.now) (disk_of g.H.Host c.start.new.host) (disk_of g.H.Host c.run_store.new.host) c.run_store.result
    (c.run_store.ensures c.in-Ok.store.state c.in-Ok-begin.ensures) c.in-Ok.ensures.loaded c.in-Ok.ensures.quiet c.in-Ok.ensures.began
