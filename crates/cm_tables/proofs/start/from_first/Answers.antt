use Rattle.std.proofs.Common.{rules}
use Rattle.std.proofs.lemmas.List.Sorted.{IsPartitionPoint-from_clause}
use Rattle.cm_tables.specs.Search.{is_below}
use Rattle.cm_tables.specs.declared.entry.Entry.{Entry}
use Rattle.cm_tables.proofs.PlaceLaws.{from_is}
use Rattle.cm_tables.proofs.start.from_first.Goals as goal

pub returns-clause-first : goal.returns-clause-first
returns-clause-first c =
    from_is c.args.atom.now c.args.entries.now _ c.seek-start.result c.requires (search rules) c.seek-start.ensures.bound
    (λ parted. IsPartitionPoint-from_clause (λ (entry : Entry). is_below entry.text c.args.atom.now) _ _
    c.seek-start.ensures.parted parted (λ a r q k. search rules))
