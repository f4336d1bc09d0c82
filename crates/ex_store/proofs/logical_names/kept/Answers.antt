use Rattle.std.proofs.Common.{arith}
use Rattle.ex_store.proofs.KeptNamesLaws.{none_as_long, none_beyond}
use Rattle.ex_store.proofs.logical_names.kept.Goals as goal
use Rattle.ex_store.proofs.logical_names.kept.Goals.{then-text-gt-NAME_LIMIT-via-then-text-gt-NAME_LIMIT, then-text-gt-NAME_LIMIT-via-else-text-gt-NAME_LIMIT+then-not-is_ascii}

pub returns-then-text-gt-NAME_LIMIT-clause-none : goal.returns-then-text-gt-NAME_LIMIT-clause-none
returns-then-text-gt-NAME_LIMIT-clause-none c = elim c.then-text-gt-NAME_LIMIT.branch [
  | then-text-gt-NAME_LIMIT-via-then-text-gt-NAME_LIMIT w ↦ none_as_long c.args.text.now (omega (arith, w.if-text-gt-NAME_LIMIT.true))
  | then-text-gt-NAME_LIMIT-via-else-text-gt-NAME_LIMIT+then-not-is_ascii w ↦
      let far = rw w.if-not-is_ascii.true at w.is_ascii.ensures.cases in none_beyond c.args.text.now far.0 far.1
]
