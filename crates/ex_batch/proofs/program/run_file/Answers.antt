use Rattle.cm_io.specs.Contents.{Nothing}
use Rattle.std.proofs.Common.{[]}
use Rattle.ex_batch.specs.RunEnd.{scene}
use Rattle.ex_batch.proofs.Clocks.{known_moments, some_moments}
use Rattle.ex_batch.proofs.Runs.{ran_lines, ran_refused, ran_short}
use Rattle.ex_batch.proofs.program.run_file.Goals as goal
use Rattle.std.proofs.Common.{IsTrue}

pub returns-in-Err : goal.returns-in-Err
returns-in-Err g c = λ start begins.
    ran_refused (IsTrue g.C.Clock.tells) c.args.file.now start c.store-held.result.now.state c.args.job.now begins c.store-held.ensures
    (scene g.S.Sink c.args.screen.now g.C.Clock c.args.clock.now c.args.steps.now) c.in-Err.code c.in-Err.ensures

pub returns-in_default : goal.returns-in_default
returns-in_default g c = λ start begins.
    ran_short (IsTrue g.C.Clock.tells) c.args.file.now start c.store-held.result.now.state c.args.job.now begins c.store-held.ensures
    (scene g.S.Sink c.args.screen.now g.C.Clock c.args.clock.now c.args.steps.now) c.in-Ok.place c.in-Ok.ensures

pub returns : goal.returns
returns g c = λ start begins.
    let end = some_moments g.C.Clock.tells (g.C.Clock.left c.run_batch.new.clock) in
    let found = c.run_batch.ensures.runs.from end.0 end.1 in
    ran_lines (IsTrue g.C.Clock.tells) c.args.file.now start c.store-held.result.now.state c.args.job.now begins c.store-held.ensures
    (scene g.S.Sink c.args.screen.now g.C.Clock c.args.clock.now c.args.steps.now) c.in-Ok.place c.in-Ok.ensures
    c.in-Ok-read.file c.file_bytes.result.now c.run_batch.new.job
    (scene g.S.Sink c.run_batch.new.screen g.C.Clock c.run_batch.new.clock c.run_batch.new.steps) c.run_batch.result
    c.file_bytes.ensures.bytes c.in-Ok-read.ensures found.given end.0
    (λ tells. (
      known_moments g.C.Clock.tells (g.C.Clock.left c.args.clock.now) found.given found.are tells,
      known_moments g.C.Clock.tells (g.C.Clock.left c.run_batch.new.clock) end.0 end.1 tells,
    ))
    (found.holds Nothing [] 0) c.run_batch.ensures.cause
