use Rattle.std.proofs.Common.{◌+◌, ℕ, ap, refl, ◌∙◌}
use Rattle.cm_blocks.specs.KeptParse.{cost_after}
use Rattle.cm_blocks.specs.Setting.{Setting, setting}
use Rattle.cm_state.specs.SessionState.{text_of}
use Rattle.cm_state.proofs.Edits.{ParsesAgain, again_starts, parses_again}
use Rattle.cm_state.proofs.session.Session.parse_again.Given.{Over}
use Rattle.cm_state.proofs.session.Session.parse_again.Goals as goal

pub parse_after-requires : goal.parse_after-requires
parse_after-requires g c =
    let s = setting c.args.grammar.now (g.N.Names.catalogue c.args.names.now) (g.R.Rules.meanings c.args.rules.now) in
    let starts = again_starts s c.args.self.now c.forget_fields.new.self c.has_no_fault.ensures c.requires.node
    c.forget_fields.ensures in
    record { starts = starts }

-- in what setting it is done
abbrev given : (g : Over) → goal.After-hold_refused g → Setting
given g c = setting c.args.grammar.now (g.N.Names.catalogue c.args.names.now) (g.R.Rules.meanings c.args.rules.now)

-- what the steps have made of the session
done : (g : Over) (c : goal.After-hold_refused g)
    → ParsesAgain (given g c) c.args.self.now c.hold_refused.new.self
    (cost_after (given g c) c.forget_fields.new.self.node (text_of c.forget_fields.new.self)
    c.forget_fields.new.self.fields)
done g c =
    parses_again (given g c) c.args.self.now c.forget_fields.new.self c.parse_after.new.self c.hold_refused.new.self _
    c.has_no_fault.ensures c.requires.node c.forget_fields.ensures c.parse_after.ensures.parse
    c.parse_after.ensures.same c.hold_refused.ensures refl

pub returns-clause-session : goal.returns-clause-session
returns-clause-session g c = (done g c).session

pub returns-clause-parse : goal.returns-clause-parse
returns-clause-parse g c = (done g c).stands.parse

pub returns-clause-ready : goal.returns-clause-ready
returns-clause-ready g c = (done g c).stands.ready

pub returns-clause-steps : goal.returns-clause-steps
returns-clause-steps g c = c.parse_after.ensures.steps ∙ ap (λ (spent : ℕ). c.args.steps.now + spent) (done g c).cost
