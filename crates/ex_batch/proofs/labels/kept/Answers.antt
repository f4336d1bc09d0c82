use Rattle.ex_batch.proofs.LabelNames.{name_small}
use Rattle.ex_batch.proofs.labels.kept.Goals as goal

pub push-requires : goal.push-requires
push-requires c = rw c.to_ascii_lowercase.ensures.value (name_small c.args.name.now c.loop-byte.byte-index c.requires.named c.loop-byte-test.true)
