use Rattle.std.proofs.Common.{◌≡◌, drop}
use Rattle.std.specs.List.{position_from}
use Rattle.cm_files.specs.Resolve.{directory_named, is_named}
use Rattle.cm_files.proofs.resolution.directory_named.Given as goal

-- the first of the rest is the first of all
abbrev pub invariant-loop-i : goal.invariant-loop-i
invariant-loop-i g l =
    position_from (is_named l.name) l.i (drop l.i (g.N.Names.catalogue l.names).directories)
    ≡ directory_named (g.N.Names.catalogue l.names) l.name
