use Rattle.std.proofs.Common.{◌≡◌, Ok, Err, sym, ◌∙◌}
use Rattle.ex_store.specs.Defining.{definition_of}
use Rattle.ex_store.specs.WellFormed.{IsWellFormed}
use Rattle.ex_store.proofs.DefinedLaws.{defined_kept, planned_defined, planned_refused, sound_defined}
use Rattle.ex_store.proofs.store.Store.define.Goals as goal

pub returns-in-Ok-clause-ready : goal.returns-in-Ok-clause-ready
returns-in-Ok-clause-ready c = λ moment.
    let is : definition_of c.args.name.now c.args.directory c.self.inside.logical.list ≡ Ok c.in-Ok.definition =
    sym c.definition_of.ensures ∙ c.in-Ok.is in
    planned_defined c.args.self.now.state c.args.name.now c.args.directory c.in-Ok.definition c.of_definition.result moment (rw (← c.self.view_is) is) c.of_definition.ensures

pub returns-in-Ok-clause-sound : goal.returns-in-Ok-clause-sound
returns-in-Ok-clause-sound c =
    let is : definition_of c.args.name.now c.args.directory c.self.inside.logical.list ≡ Ok c.in-Ok.definition =
    sym c.definition_of.ensures ∙ c.in-Ok.is in
    let well : IsWellFormed c.args.self.now.state = rw (← c.self.view_is) c.self.invariant.well in
    sound_defined c.args.self.now.state c.args.name.now c.args.directory c.in-Ok.definition c.of_definition.result well c.requires.0 c.requires.1 (rw (← c.self.view_is) is) c.of_definition.ensures

pub returns-in-Err-clause-refused : goal.returns-in-Err-clause-refused
returns-in-Err-clause-refused c = λ moment.
    let is : definition_of c.args.name.now c.args.directory c.self.inside.logical.list ≡ Err c.in-Err.code =
    sym c.definition_of.ensures ∙ c.in-Err.is in
    planned_refused c.args.self.now.state c.args.name.now c.args.directory c.in-Err.code moment (rw (← c.self.view_is) is)

pub of_definition-requires : goal.of_definition-requires
of_definition-requires c =
    defined_kept c.args.name.now c.args.directory c.self.inside.logical.list c.in-Ok.definition c.requires.0 (sym c.definition_of.ensures ∙ c.in-Ok.is)
