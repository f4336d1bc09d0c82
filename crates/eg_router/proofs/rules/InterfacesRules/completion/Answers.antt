use Rattle.eg_router.proofs.Completions.{are_texts}
use Rattle.eg_router.proofs.rules.InterfacesRules.completion.Goals as goal

pub completion_among-requires : goal.completion_among-requires
completion_among-requires c = rw c.as_slice.ensures.value (are_texts c.args.self.now c.as_slice.ensures.lawful)
