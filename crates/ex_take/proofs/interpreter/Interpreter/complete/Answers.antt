use Rattle.std.proofs.Common.{◌≡◌, Some, sym, ◌∙◌}
use Rattle.ex_take.specs.Interpreter.{effect_of}
use Rattle.ex_take.specs.Outcome.{outcome_of}
use Rattle.ex_take.proofs.PendingCommands.{lacking_same, obeys_from, waits_on, waits_sound}
use Rattle.ex_take.proofs.interpreter.Interpreter.complete.Goals as goal

pub invariant_of-self : goal.invariant_of-self
invariant_of-self g c =
    let same : c.do_command-answer.new.self ≡ c.args.self.now =
    lacking_same (g.S.Sink.contents c.args.screen.now) (g.S.Sink.contents c.do_command-answer.new.screen) c.args.self.now c.do_command-answer.new.self
    (effect_of c.args.self.now c.args.pending.moment c.args.pending.command) (outcome_of c.do_command-answer.result)
    (sym c.lacks_memory.ensures ∙ c.if-lacks_memory.true) c.do_command-answer.ensures.obeys in
    waits_sound c.self.inside.store.state c.self.inside.typing c.self.inside.has_ended c.self.inside.pending c.args.self.now c.args.pending
    (c.self.view_is ∙ same) c.requires.line c.requires.may_act

pub returns-then-lacks_memory-clause-obeys : goal.returns-then-lacks_memory-clause-obeys
returns-then-lacks_memory-clause-obeys g c =
    waits_on c.self.inside.store.state c.self.inside.typing c.self.inside.has_ended c.self.inside.pending
    (g.S.Sink.contents c.args.screen.now) (g.S.Sink.contents c.do_command-answer.new.screen) c.args.self.now c.do_command-answer.new.self
    (effect_of c.args.self.now c.args.pending.moment c.args.pending.command) c.args.pending (outcome_of c.do_command-answer.result)
    c.self.view_is (sym c.lacks_memory.ensures ∙ c.if-lacks_memory.true) c.do_command-answer.ensures.obeys

pub returns-clause-obeys : goal.returns-clause-obeys
returns-clause-obeys g c =
    obeys_from (g.S.Sink.contents c.args.screen.now) (g.S.Sink.contents c.do_command-answer.new.screen) c.args.self.now
    (record c.args.self.now { pending = Some c.args.pending }) c.do_command-answer.new.self
    (effect_of c.args.self.now c.args.pending.moment c.args.pending.command) (outcome_of c.do_command-answer.result)
    (sym c.lacks_memory.ensures ∙ c.if-lacks_memory.false) c.do_command-answer.ensures.obeys
