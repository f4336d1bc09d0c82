-- The blocks so far.
use Rattle.std.proofs.Common.{◌≡◌, ◌++◌, flat_map, take}
use Rattle.cm_graph.specs.Graphs.{field_blocks}
use Rattle.cm_graph.proofs.chain.push_all_fields.Given as goal

abbrev pub invariant-loop-exit : goal.invariant-loop-exit
invariant-loop-exit l =
    l.blocks.items ≡ l.fn.blocks.items ++ flat_map (field_blocks l.commands l.ways) (take l.exit-index l.exits)
