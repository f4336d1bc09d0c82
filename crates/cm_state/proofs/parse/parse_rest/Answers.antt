use Rattle.std.proofs.Common.{◌≡◌, ◌-◌, ◌<◌, true, false, List, length, ap, sym, ◌∙◌, arith, length-append, [], ◌∷◌}
use Rattle.cm_blocks.specs.declared.field.TheConstants.{FIELD_LIMIT}
use Rattle.cm_blocks.specs.FieldView.{FieldView}
use Rattle.cm_blocks.specs.Once.{repeats, unless_repeated}
use Rattle.cm_blocks.specs.Setting.{setting}
use Rattle.cm_state.proofs.Rest.{ends_repeated, ends_there, turns}
use Rattle.cm_state.proofs.parse.parse_rest.Goals as goal

pub loop-field-preserved : goal.loop-field-preserved
loop-field-preserved g c =
    let s = setting c.args.grammar.now (g.N.Names.catalogue c.args.names.now) (g.R.Rules.meanings c.args.rules.now) in
    let room : length c.loop-field.fields < FIELD_LIMIT =
    omega (arith, c.len.ensures.value, c.len.ensures.few, c.from.ensures, c.if-from-eq-FIELD_LIMIT.false) in
    let apart : repeats c.args.grammar.now c.loop-field.fields c.in-Field.field ≡ false =
    ap (λ (fields : List FieldView). repeats c.args.grammar.now fields c.in-Field.field) (sym c.places.ensures)
    ∙ sym c.repeats.ensures ∙ c.if-repeats.false in
    let turn = turns s c.args.text.now c.loop-field.fields c.loop-field.node c.loop-field.at c.in-Field.field
    (sym c.in-Field.ensures.value) apart room in
    record {
      parse = rw (c.push.ensures, c.next-node.ensures, c.from-at.ensures, c.end.ensures)
          (sym turn.parse ∙ c.loop-field.invariant.parse);
      steps =
          rw (c.push.ensures, c.next-node.ensures, c.from-at.ensures, c.end.ensures)
          (omega (arith, turn.cost, c.loop-field.invariant.steps, c.try_chain.ensures.steps));
      node = rw c.next-node.ensures c.in-Field.ensures.leads.next;
      place = omega (arith, c.from-at.ensures, c.end.ensures, c.in-Field.ensures.leads.within);
      few = rw c.push.ensures (omega (arith, room, length-append c.loop-field.fields (c.in-Field.field ∷ [])));
    }

pub returns-then-repeats-clause-steps : goal.returns-then-repeats-clause-steps
returns-then-repeats-clause-steps g c =
    let s = setting c.args.grammar.now (g.N.Names.catalogue c.args.names.now) (g.R.Rules.meanings c.args.rules.now) in
    let again : repeats c.args.grammar.now c.loop-field.fields c.in-Field.field ≡ true =
    ap (λ (fields : List FieldView). repeats c.args.grammar.now fields c.in-Field.field) (sym c.places.ensures)
    ∙ sym c.repeats.ensures ∙ c.if-repeats.true in
    let last = ends_repeated s c.args.text.now c.loop-field.fields (FIELD_LIMIT - length c.loop-field.fields)
    c.loop-field.node c.loop-field.at c.in-Field.field (sym c.in-Field.ensures.value) again in
    omega (arith, last.cost, c.loop-field.invariant.steps, c.try_chain.ensures.steps)

pub returns-in-Done-clause-parse : goal.returns-in-Done-clause-parse
returns-in-Done-clause-parse g c =
    let s = setting c.args.grammar.now (g.N.Names.catalogue c.args.names.now) (g.R.Rules.meanings c.args.rules.now) in
    let last = ends_there s c.args.text.now c.loop-field.fields (FIELD_LIMIT - length c.loop-field.fields)
    c.loop-field.node c.loop-field.at
    _ (ap (unless_repeated s.graph c.loop-field.fields) (sym c.in-Done.ensures.value)) tt in
    sym last.parse ∙ c.loop-field.invariant.parse

pub returns-in-Done-clause-steps : goal.returns-in-Done-clause-steps
returns-in-Done-clause-steps g c =
    let s = setting c.args.grammar.now (g.N.Names.catalogue c.args.names.now) (g.R.Rules.meanings c.args.rules.now) in
    let last = ends_there s c.args.text.now c.loop-field.fields (FIELD_LIMIT - length c.loop-field.fields)
    c.loop-field.node c.loop-field.at
    _ (ap (unless_repeated s.graph c.loop-field.fields) (sym c.in-Done.ensures.value)) tt in
    omega (arith, last.cost, c.loop-field.invariant.steps, c.try_chain.ensures.steps)

pub returns-in-Fault-clause-parse : goal.returns-in-Fault-clause-parse
returns-in-Fault-clause-parse g c =
    let s = setting c.args.grammar.now (g.N.Names.catalogue c.args.names.now) (g.R.Rules.meanings c.args.rules.now) in
    let last = ends_there s c.args.text.now c.loop-field.fields (FIELD_LIMIT - length c.loop-field.fields)
    c.loop-field.node c.loop-field.at
    _ (ap (unless_repeated s.graph c.loop-field.fields) (sym c.in-Fault.ensures.value)) tt in
    sym last.parse ∙ c.loop-field.invariant.parse

pub returns-in-Fault-clause-steps : goal.returns-in-Fault-clause-steps
returns-in-Fault-clause-steps g c =
    let s = setting c.args.grammar.now (g.N.Names.catalogue c.args.names.now) (g.R.Rules.meanings c.args.rules.now) in
    let last = ends_there s c.args.text.now c.loop-field.fields (FIELD_LIMIT - length c.loop-field.fields)
    c.loop-field.node c.loop-field.at
    _ (ap (unless_repeated s.graph c.loop-field.fields) (sym c.in-Fault.ensures.value)) tt in
    omega (arith, last.cost, c.loop-field.invariant.steps, c.try_chain.ensures.steps)

pub returns-in-Open-clause-parse : goal.returns-in-Open-clause-parse
returns-in-Open-clause-parse g c =
    let s = setting c.args.grammar.now (g.N.Names.catalogue c.args.names.now) (g.R.Rules.meanings c.args.rules.now) in
    let last = ends_there s c.args.text.now c.loop-field.fields (FIELD_LIMIT - length c.loop-field.fields)
    c.loop-field.node c.loop-field.at
    _ (ap (unless_repeated s.graph c.loop-field.fields) (sym c.in-Open.ensures.value)) tt in
    sym last.parse ∙ c.loop-field.invariant.parse

pub returns-in-Open-clause-steps : goal.returns-in-Open-clause-steps
returns-in-Open-clause-steps g c =
    let s = setting c.args.grammar.now (g.N.Names.catalogue c.args.names.now) (g.R.Rules.meanings c.args.rules.now) in
    let last = ends_there s c.args.text.now c.loop-field.fields (FIELD_LIMIT - length c.loop-field.fields)
    c.loop-field.node c.loop-field.at
    _ (ap (unless_repeated s.graph c.loop-field.fields) (sym c.in-Open.ensures.value)) tt in
    omega (arith, last.cost, c.loop-field.invariant.steps, c.try_chain.ensures.steps)
