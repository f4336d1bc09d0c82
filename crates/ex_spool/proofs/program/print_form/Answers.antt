use Rattle.std.proofs.Common.{IsTrue, refl, sym, subst}
use Rattle.cm_io.specs.declared.status.Status.{Status}
use Rattle.ex_system.specs.WordViews.{form_view}
use Rattle.ex_system.specs.Disk.{disk_of}
use Rattle.ex_system.specs.Messages.{IsSilent}
use Rattle.ex_spool.specs.RunEnd.{scene}
use Rattle.ex_spool.proofs.Prints.{course_cut, course_early, course_past, printed_whole}
use Rattle.ex_spool.proofs.program.print_form.Goals as goal

-- before any page
pub returns-in-Err : goal.returns-in-Err
returns-in-Err g c =
    course_early (IsTrue g.C.Clock.tells) (form_view c.args.form.now)
    (scene g.S.Sink c.args.screen.now g.C.Clock c.args.clock.now g.H.Host c.args.host.now)
    (scene g.S.Sink c.refuse.new.screen g.C.Clock c.args.clock.now g.H.Host c.start.new.host)
    c.in-Err.status c.refuse.result c.refuse.ensures.status c.in-Err.ensures.early c.in-Err.ensures.cause
    c.in-Err.ensures.host_cause c.refuse.ensures.shown c.in-Err.ensures.loaded refl

-- where the screen failed within the pages
pub returns : goal.returns
returns g c =
    course_cut (IsTrue g.C.Clock.tells) (form_view c.args.form.now)
    (scene g.S.Sink c.args.screen.now g.C.Clock c.args.clock.now g.H.Host c.args.host.now)
    (scene g.S.Sink c.show_pages.new.screen g.C.Clock c.now-moment.new.self g.H.Host c.start.new.host)
    c.in-Ok.store.state c.now-moment.result c.in-Ok.ensures.loaded c.in-Ok.ensures.quiet c.in-Ok.ensures.began
    (λ tells. (c.now-moment.ensures.moment tells, c.now-moment.ensures.later tells))
    c.in-Failed.ensures.bytes c.in-Failed.ensures.cause

-- past all pages
pub returns-in-Done : goal.returns-in-Done
returns-in-Done g c =
    course_past (IsTrue g.C.Clock.tells) (form_view c.args.form.now)
    (scene g.S.Sink c.args.screen.now g.C.Clock c.args.clock.now g.H.Host c.args.host.now)
    (scene g.S.Sink c.finish.new.screen g.C.Clock c.now-moment.new.self g.H.Host c.finish.new.host)
    c.finish.result c.in-Ok.store.state c.now-moment.result (disk_of g.H.Host c.start.new.host)
    c.in-Ok.ensures.loaded c.in-Ok.ensures.quiet c.in-Ok.ensures.began
    (λ tells. (c.now-moment.ensures.moment tells, c.now-moment.ensures.later tells)) refl
    (printed_whole c.in-Ok.store.state c.now-moment.result c.args.form.now.out.now
    (g.S.Sink.contents c.args.screen.now) (g.S.Sink.contents c.show_pages.new.screen) (g.S.Sink.contents c.finish.new.screen)
    (g.S.Sink.faults c.args.screen.now) (g.S.Sink.faults c.show_pages.new.screen) (g.S.Sink.faults c.finish.new.screen)
    (disk_of g.H.Host c.start.new.host) (disk_of g.H.Host c.finish.new.host) c.drop_due.new.store.state c.finish.result
    c.in-Done.ensures.bytes c.in-Done.ensures.cause c.drop_due.ensures
    c.finish.ensures.status c.finish.ensures.shown
    (λ done. (c.finish.ensures.quiet (subst (λ (it : Status). IsSilent it) (sym done) tt)).1) c.finish.ensures.saved)
