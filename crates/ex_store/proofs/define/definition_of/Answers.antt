use Rattle.ex_store.proofs.DefinedLaws.{logical_is_ascii}
use Rattle.ex_store.proofs.define.definition_of.Goals as goal

pub upper-requires-clause-ascii : goal.upper-requires-clause-ascii
upper-requires-clause-ascii c = rw c.as_bytes-2.ensures.value (logical_is_ascii c.args.name.now c.requires)
