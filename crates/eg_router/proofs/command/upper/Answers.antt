use Rattle.cm_lists.proofs.Ascii.{uppercase_at_ascii}
use Rattle.eg_router.proofs.command.upper.Goals as goal

pub push-requires : goal.push-requires
push-requires c = rw c.to_ascii_uppercase.ensures.value (uppercase_at_ascii c.args.text.now c.loop-byte.byte-index c.requires.ascii)
