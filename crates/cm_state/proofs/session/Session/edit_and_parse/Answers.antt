use Rattle.std.proofs.Common.{◌+◌, ℕ, ap, refl, ◌∙◌}
use Rattle.cm_blocks.specs.KeptParse.{cost_after}
use Rattle.cm_blocks.specs.Setting.{Setting, setting}
use Rattle.cm_recognise.specs.declared.insertion.Insertion.{Insertion}
use Rattle.cm_state.specs.SessionState.{text_of}
use Rattle.cm_state.proofs.Edits.{EditsAndParses, met_completion, edits_and_parses, trimmed_starts, trims}
use Rattle.cm_state.proofs.session.Session.edit_and_parse.Given.{Over}
use Rattle.cm_state.proofs.session.Session.edit_and_parse.Goals as goal

pub reparse-requires : goal.reparse-requires
reparse-requires g c =
    let s = setting c.args.grammar.now (g.N.Names.catalogue c.args.names.now) (g.R.Rules.meanings c.args.rules.now) in
    let trim = trims s c.args.self.now c.reopen.new.self c.apply_edit-change.new.self c.truncate.new.self c.args.class
    c.args.key c.apply_edit-change.result.front
    c.has_no_fault.ensures c.requires.ready c.reopen.ensures c.apply_edit-change.ensures.edited
    c.apply_edit-change.ensures.front c.truncate.ensures in
    let starts = trimmed_starts s c.args.self.now c.truncate.new.self c.has_no_fault.ensures c.requires.ready trim in
    record { starts = starts }

-- in what setting the key is done
abbrev given : (g : Over) → goal.After-reparse g → Setting
given g c = setting c.args.grammar.now (g.N.Names.catalogue c.args.names.now) (g.R.Rules.meanings c.args.rules.now)

-- what the steps have made of the session
done : (g : Over) (c : goal.After-reparse g)
    → EditsAndParses (given g c) c.args.self.now c.reparse.new.self c.args.key
    (cost_after (given g c) c.truncate.new.self.node (text_of c.truncate.new.self) c.truncate.new.self.fields)
done g c =
    let trim = trims (given g c) c.args.self.now c.reopen.new.self c.apply_edit-change.new.self c.truncate.new.self
    c.args.class c.args.key
    c.apply_edit-change.result.front c.has_no_fault.ensures c.requires.ready c.reopen.ensures
    c.apply_edit-change.ensures.edited
    c.apply_edit-change.ensures.front c.truncate.ensures in
    edits_and_parses (given g c) c.args.self.now c.reopen.new.self c.apply_edit-change.new.self c.truncate.new.self
    c.reparse.new.self c.args.class c.args.key
    c.apply_edit-change.result.front _ c.has_no_fault.ensures c.requires.ready c.requires.class c.reopen.ensures
    c.apply_edit-change.ensures.edited
    c.truncate.ensures trim c.reparse.ensures.recall c.reparse.ensures.same c.reparse.ensures.parse refl

pub returns-clause-edited : goal.returns-clause-edited
returns-clause-edited g c = (done g c).edited

pub returns-clause-parse : goal.returns-clause-parse
returns-clause-parse g c = (done g c).stands.parse

pub returns-clause-ready : goal.returns-clause-ready
returns-clause-ready g c = (done g c).stands.ready

pub returns-clause-keeps : goal.returns-clause-keeps
returns-clause-keeps g c = (done g c).keeps

pub returns-clause-steps : goal.returns-clause-steps
returns-clause-steps g c = c.reparse.ensures.steps ∙ ap (λ (spent : ℕ). c.args.steps.now + spent) (done g c).cost

pub returns-clause-bell : goal.returns-clause-bell
returns-clause-bell g c =
    c.apply_edit-change.ensures.bell
    ∙ ap (λ (put : Insertion). put.bell)
    (met_completion (given g c) c.args.self.now c.reopen.new.self c.args.class c.has_no_fault.ensures c.requires.ready
    c.reopen.ensures)
