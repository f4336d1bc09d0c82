use Rattle.ex_system.specs.WordViews.{form_view}
use Rattle.ex_system.specs.Disk.{disk_of}
use Rattle.ex_run.specs.Over.{over}
use Rattle.ex_run.specs.Scene.{scene}
use Rattle.ex_run.proofs.Outcomes.{comes}
use Rattle.ex_run.proofs.program.run_store.Goals as goal

pub returns : goal.returns
returns g c = λ start begins.
    comes _ (over g.A.Application.means g.P.Program.begins g.P.Program.store_of) (form_view c.args.form.now) start
    c.args.app.now c.run_application-stop.new.app
    (scene g.S.Sink c.args.screen.now g.W.Sink c.args.log.now g.K.Source c.args.keys.now g.C.Clock c.args.clock.now c.args.steps.now)
    (scene g.S.Sink c.run_application-stop.new.screen g.W.Sink c.run_application-stop.new.log g.K.Source c.run_application-stop.new.keys g.C.Clock c.run_application-stop.new.clock c.run_application-stop.new.steps)
    c.run_application-stop.result begins c.run_application-stop.ensures
    (g.S.Sink.contents c.close.new.screen) (g.S.Sink.faults c.close.new.screen) c.has_ended.result _
    (disk_of g.H.Host c.args.host.now) (disk_of g.H.Host c.close.new.host) c.close.result
    c.has_ended.ensures c.store.ensures c.close.ensures.closes c.close.ensures.quiet c.close.ensures.saved
