use Rattle.std.proofs.Common.{◌≡◌, drop}
use Rattle.std.specs.List.{position_from}
use Rattle.cm_files.specs.Fields.{is_user_named, user_named}
use Rattle.cm_files.proofs.fields.user_named.Given as goal

-- the first of the rest is the first of all
abbrev pub invariant-loop-i : goal.invariant-loop-i
invariant-loop-i g l =
    position_from (is_user_named l.name) l.i (drop l.i (g.N.Names.catalogue l.names).directories)
    ≡ user_named (g.N.Names.catalogue l.names) l.name
