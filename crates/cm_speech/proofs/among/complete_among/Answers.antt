use Rattle.std.proofs.Common.{length}
use Rattle.cm_hooks.specs.Among.{rests, under}
use Rattle.cm_hooks.proofs.Joins.{all_joined}
use Rattle.cm_speech.proofs.among.complete_among.Goals as goal

pub loop-name-init : goal.loop-name-init
loop-name-init c =
    let names = c.args.names.now in
    (rw c.has_name-whole.ensures (all_joined (rests (length c.args.atom.now) (under names c.args.atom.now))), c.requires)
