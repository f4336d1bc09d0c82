use Rattle.std.proofs.Common.{◌≡◌, ◌+◌, ℕ, ap, refl, ◌∙◌}
use Rattle.cm_blocks.specs.Setting.{setting}
use Rattle.cm_state.specs.SessionState.{SessionState}
use Rattle.cm_state.proofs.Edits.{finishes, whole_starts}
use Rattle.cm_state.proofs.session.Session.whole.Goals as goal

pub reparse-requires : goal.reparse-requires
reparse-requires g c =
    let s = setting c.args.grammar.now (g.N.Names.catalogue c.args.names.now) (g.R.Rules.meanings c.args.rules.now) in
    let starts = whole_starts s c.start-2.new.self c.finish.new.self c.args.node _ _ c.args.line.now
    c.has_no_fault.ensures c.requires.node (c.start-2.ensures, c.finish.ensures) in
    record { starts = starts }

pub returns-clause-edited : goal.returns-clause-edited
returns-clause-edited g c =
    let s = setting c.args.grammar.now (g.N.Names.catalogue c.args.names.now) (g.R.Rules.meanings c.args.rules.now) in
    let done = finishes s c.start-2.new.self c.finish.new.self c.reparse.new.self c.args.node _ _ c.args.line.now _
    c.has_no_fault.ensures c.requires.node (c.start-2.ensures, c.finish.ensures)
    c.reparse.ensures.recall c.reparse.ensures.same c.reparse.ensures.parse refl in
    let prompt : c.start.inside.prompt ≡ c.args.self.now.prompt =
    ap (λ (held : SessionState). held.prompt) c.start.view_is in
    rw prompt at done.edited

pub returns-clause-parse : goal.returns-clause-parse
returns-clause-parse g c =
    let s = setting c.args.grammar.now (g.N.Names.catalogue c.args.names.now) (g.R.Rules.meanings c.args.rules.now) in
    let done = finishes s c.start-2.new.self c.finish.new.self c.reparse.new.self c.args.node _ _ c.args.line.now _
    c.has_no_fault.ensures c.requires.node (c.start-2.ensures, c.finish.ensures)
    c.reparse.ensures.recall c.reparse.ensures.same c.reparse.ensures.parse refl in
    done.parse

pub returns-clause-decided : goal.returns-clause-decided
returns-clause-decided g c =
    let s = setting c.args.grammar.now (g.N.Names.catalogue c.args.names.now) (g.R.Rules.meanings c.args.rules.now) in
    let done = finishes s c.start-2.new.self c.finish.new.self c.reparse.new.self c.args.node _ _ c.args.line.now _
    c.has_no_fault.ensures c.requires.node (c.start-2.ensures, c.finish.ensures)
    c.reparse.ensures.recall c.reparse.ensures.same c.reparse.ensures.parse refl in
    done.decided

pub returns-clause-steps : goal.returns-clause-steps
returns-clause-steps g c =
    let s = setting c.args.grammar.now (g.N.Names.catalogue c.args.names.now) (g.R.Rules.meanings c.args.rules.now) in
    let done = finishes s c.start-2.new.self c.finish.new.self c.reparse.new.self c.args.node _ _ c.args.line.now _
    c.has_no_fault.ensures c.requires.node (c.start-2.ensures, c.finish.ensures)
    c.reparse.ensures.recall c.reparse.ensures.same c.reparse.ensures.parse refl in
    c.reparse.ensures.steps ∙ ap (λ (spent : ℕ). c.args.steps.now + spent) done.cost
