use Rattle.std.proofs.Common.{◌≡◌, Ok, Err, sym, ◌∙◌}
use Rattle.ex_store.specs.Building.{built}
use Rattle.ex_store.specs.WellFormed.{IsWellFormed}
use Rattle.ex_store.proofs.BuiltLaws.{planned_built, planned_refused, sound_built}
use Rattle.ex_store.proofs.store.Store.build.Goals as goal

pub returns-in-Ok-clause-ready : goal.returns-in-Ok-clause-ready
returns-in-Ok-clause-ready c = λ moment.
    let is : built c.args.directory c.args.retention c.self.inside.directories.list ≡ Ok c.in-Ok.directory =
    sym c.built.ensures ∙ c.in-Ok.is in
    planned_built c.args.self.now.state c.args.directory c.args.retention c.in-Ok.directory c.of_directory.result moment (rw (← c.self.view_is) is) c.of_directory.ensures

pub returns-in-Ok-clause-sound : goal.returns-in-Ok-clause-sound
returns-in-Ok-clause-sound c =
    let is : built c.args.directory c.args.retention c.self.inside.directories.list ≡ Ok c.in-Ok.directory =
    sym c.built.ensures ∙ c.in-Ok.is in
    let well : IsWellFormed c.args.self.now.state = rw (← c.self.view_is) c.self.invariant.well in
    sound_built c.args.self.now.state c.args.directory c.args.retention c.in-Ok.directory c.of_directory.result well c.requires.0 c.requires.1 (rw (← c.self.view_is) is) c.of_directory.ensures

pub returns-in-Err-clause-refused : goal.returns-in-Err-clause-refused
returns-in-Err-clause-refused c = λ moment.
    let is : built c.args.directory c.args.retention c.self.inside.directories.list ≡ Err c.in-Err.code =
    sym c.built.ensures ∙ c.in-Err.is in
    planned_refused c.args.self.now.state c.args.directory c.args.retention c.in-Err.code moment (rw (← c.self.view_is) is)
