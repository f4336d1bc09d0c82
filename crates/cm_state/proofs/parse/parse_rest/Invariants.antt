use Rattle.std.proofs.Common.{◌≡◌, ◌+◌, ◌-◌, ◌<◌, ◌≤◌, length}
use Rattle.cm_blocks.specs.declared.field.TheConstants.{FIELD_LIMIT}
use Rattle.cm_blocks.specs.KeptParse.{cost_after, cost_from}
use Rattle.cm_blocks.specs.Parse.{parse_from, parse_of, with_fields}
use Rattle.cm_blocks.specs.Setting.{setting}
use Rattle.cm_state.proofs.parse.parse_rest.Given as goal

-- after the fields so far the parse goes on, and so does its cost
abbrev pub invariant-loop-field : goal.invariant-loop-field
invariant-loop-field g l =
    let s = setting l.grammar (g.N.Names.catalogue l.names) (g.R.Rules.meanings l.rules) in
    let room = FIELD_LIMIT - length l.fields in
    record {
      parse : with_fields l.fields (parse_from s l.text l.fields room l.node l.at) ≡ parse_of s l.start l.text;
      steps : l.steps + cost_from s l.text l.fields room l.node l.at ≡ l.fn.steps + cost_after s l.start l.text l.fn.fields;
      node : l.node < length l.grammar.nodes;
      place : l.at ≤ length l.text;
      few : length l.fields ≤ FIELD_LIMIT;
    }

abbrev pub decreases-loop-field : goal.decreases-loop-field
decreases-loop-field g l = FIELD_LIMIT - length l.fields
