-- The blocks so far.
use Rattle.std.proofs.Common.{◌≡◌, ◌++◌, map, take}
use Rattle.cm_graph.specs.Fields.{field_block}
use Rattle.cm_graph.proofs.field.push_fields.Given as goal

abbrev pub invariant-loop-kind : goal.invariant-loop-kind
invariant-loop-kind l =
    l.blocks.items ≡ l.fn.blocks.items ++ map (field_block l.name l.range l.next) (take l.kind-index l.kinds)
